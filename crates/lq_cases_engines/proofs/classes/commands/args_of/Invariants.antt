-- All so far stand.
use Rattle.std.proofs.Common.{length}
use Rattle.lq_prover_congruence.specs.Classes.Core.{AllBelow}
use Rattle.lq_prover_congruence.specs.Classes.Steps.{terms_of}
use Rattle.lq_cases_engines.proofs.classes.commands.args_of.Given as goal

abbrev pub invariant-loop-word : goal.invariant-loop-word
invariant-loop-word l = AllBelow (length (terms_of l.classes)) l.args
