-- The terms so far.
use Rattle.lq_prover_congruence.specs.Classes.Standing.{core_of}
use Rattle.lq_prover_congruence.specs.Classes.Implied.{Represents}
use Rattle.lq_prover_congruence.proofs.classes.state.State.representatives.Given as goal

abbrev pub invariant-loop-term : goal.invariant-loop-term
invariant-loop-term l = Represents (core_of l.self) l.term l.pairs
