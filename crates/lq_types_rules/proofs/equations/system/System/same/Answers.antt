use Rattle.std.proofs.Common.{refl}
use Rattle.lq_types_rules.specs.declared.equations.system.System.{System}
use Rattle.lq_types_rules.proofs.EquationsLemmas.Making.{same_adds}
use Rattle.lq_types_rules.proofs.equations.system.System.same.Goals as goal

pub returns : goal.returns
returns c =
    let new : System = record { arena = c.args.self.now.arena; equations = c.push.new.self } in
    same_adds c.args.self.now new (record { left = c.args.left; right = c.args.right }) c.requires.system c.requires.left c.requires.right refl c.in_ok-push.ensures.items
