-- The users of those met so far are queued.
use Rattle.std.proofs.Common.{ℕ, ◌<◌, [], slice_index_or}
use Rattle.lq_prover_congruence.specs.Ring.Ring.{times}
use Rattle.lq_prover_congruence.specs.Classes.Moves.{KeepsQueue}
use Rattle.lq_prover_congruence.proofs.classes.joining.queue_users.Given as goal

abbrev pub invariant-loop-member : goal.invariant-loop-member
invariant-loop-member l =
    (goal.iterator-loop-member).can_next l.member-iterator × (goal.iterator-loop-member).is_finite l.member-iterator
    × KeepsQueue l.initial.queue.items l.queue.items
    × ((a i : ℕ) → 0 < times a l.yielded → 0 < times i (slice_index_or l.uses a []) → 0 < times i l.queue.items)
