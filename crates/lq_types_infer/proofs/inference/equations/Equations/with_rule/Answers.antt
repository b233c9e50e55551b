use Rattle.std.proofs.Common.{refl}
use Rattle.lq_base_names.specs.declared.name.Binder.{Binder}
use Rattle.lq_text_walk.specs.Walk.Pending.{visit_view}
use Rattle.lq_types_infer.proofs.InferenceLemmas.Going.{rule_local}
use Rattle.lq_types_infer.proofs.InferenceLemmas.Opened.{told_later}
use Rattle.lq_types_infer.proofs.InferenceLemmas.Visiting.{front_is, front_short, longer_arena}
use Rattle.lq_types_infer.proofs.inference.equations.Equations.with_rule.Goals as goal

pub returns-clause-added : goal.returns-clause-added
returns-clause-added c =
    let s = c.requires.signature in
    let a = c.in_ok-system.ensures.rule s.0 s.1 in
    record {
      system = a.grows.system;
      longer = a.grows.longer;
      room = front_short c.args.self.system.equations.items c.in_ok-system.system.equations.items a.more a.grows.equations_are;
      front = front_is c.args.self.system.equations.items c.in_ok-system.system.equations.items a.more a.grows.equations_are;
      knows = c.in_ok-grow.ensures.knows c.args.self.system.arena c.args.self.system.equations.items (longer_arena c.args.self.system c.in_ok-system.system a.more a.grows) c.requires.kept.knows;
      clear = c.requires.kept.clear;
      told = told_later c.args.nodes c.args.self.system c.args.self.definitions.plain.items c.args.self.opened.told c.args.self.opened.places.items c.requires.kept.told c.in_ok-system.system
          (rule_local s.0 c.args.nodes (visit_view Binder (λ b. b.0) c.args.visit) c.args.self.system c.in_ok-system.system c.requires.kept.system a).keeps_solved;
      same = refl;
    }
