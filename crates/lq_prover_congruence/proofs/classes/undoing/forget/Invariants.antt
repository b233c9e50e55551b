-- No other user goes.
use Rattle.std.proofs.Common.{◌≢◌, ℕ, ◌<◌, [], slice_index_or}
use Rattle.lq_prover_congruence.specs.Ring.Ring.{times}
use Rattle.lq_prover_congruence.proofs.classes.undoing.forget.Given as goal

abbrev pub invariant-loop-arg : goal.invariant-loop-arg
invariant-loop-arg l = (a i : ℕ) → i ≢ l.term → 0 < times i (slice_index_or l.initial.uses a []) → 0 < times i (slice_index_or l.uses a [])
