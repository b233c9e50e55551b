use Rattle.lq_generate_implications.proofs.WalkLemmas.Chosen.{IsFrom}
use Rattle.lq_generate_implications.proofs.walk.choosing.arm_of.Given as goal

abbrev pub invariant-loop-at : goal.invariant-loop-at
invariant-loop-at l = IsFrom l.constructor.0 l.arms l.at
