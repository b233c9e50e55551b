use Rattle.lq_types_rules.specs.Equations.Templates.{IsCopied}
use Rattle.lq_types_rules.proofs.equations.system.System.copied.Given as goal

abbrev pub invariant-loop-at : goal.invariant-loop-at
invariant-loop-at l = IsCopied l.initial.self l.self l.types l.base l.at
