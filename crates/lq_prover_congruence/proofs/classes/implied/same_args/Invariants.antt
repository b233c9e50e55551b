-- The labels so far are the same.
use Rattle.std.proofs.Common.{◌≡◌, ℕ, ◌<◌, get_or}
use Rattle.lq_prover_congruence.proofs.classes.implied.same_args.Given as goal

abbrev pub invariant-loop-at : goal.invariant-loop-at
invariant-loop-at l = (k : ℕ) → k < l.at → get_or l.labels (get_or l.left k 0) 0 ≡ get_or l.labels (get_or l.right k 0) 0
