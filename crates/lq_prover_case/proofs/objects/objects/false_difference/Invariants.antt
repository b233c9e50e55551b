use Rattle.std.proofs.Common.{ℕ, false, take}
use Rattle.lq_prover_congruence.specs.Classes.Steps.{IsSame}
use Rattle.lq_prover_case.specs.Objects.Joined.{Says}
use Rattle.lq_prover_case.proofs.objects.objects.false_difference.Given as goal

abbrev pub invariant-loop-fact : goal.invariant-loop-fact
invariant-loop-fact l = (a b t : ℕ) → Says (take l.fact-index l.facts) a b false t → IsSame l.classes a b → ⊥
