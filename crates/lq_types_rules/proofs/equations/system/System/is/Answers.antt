use Rattle.lq_types_rules.specs.declared.equations.system.System.{System}
use Rattle.lq_types_rules.proofs.EquationsLemmas.Making.{is_adds}
use Rattle.lq_types_rules.proofs.equations.system.System.is.Goals as goal

pub returns : goal.returns
returns c =
    let new : System = record { arena = c.made.new.self; equations = c.push.new.self } in
    is_adds c.args.self.now new c.args.slot c.in_ok-node.node c.args.head c.args.parts.now c.requires.system c.in_ok-node.ensures.added c.requires.slot c.requires.parts c.requires.count c.in_ok-push.ensures.items
