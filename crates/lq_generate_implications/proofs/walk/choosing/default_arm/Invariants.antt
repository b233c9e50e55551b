use Rattle.lq_generate_implications.proofs.WalkLemmas.Chosen.{IsDefaultFrom}
use Rattle.lq_generate_implications.proofs.walk.choosing.default_arm.Given as goal

abbrev pub invariant-loop-at : goal.invariant-loop-at
invariant-loop-at l = IsDefaultFrom l.arms l.at
