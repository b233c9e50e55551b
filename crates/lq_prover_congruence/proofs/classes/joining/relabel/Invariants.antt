-- The terms met so far have the label, and the others have theirs.
use Rattle.std.proofs.Common.{◌≡◌, ℕ, ◌<◌, get_or}
use Rattle.lq_prover_congruence.specs.Ring.Ring.{times}
use Rattle.lq_prover_congruence.proofs.classes.joining.relabel.Given as goal

abbrev pub invariant-loop-member : goal.invariant-loop-member
invariant-loop-member l =
    (goal.iterator-loop-member).can_next l.member-iterator × (goal.iterator-loop-member).is_finite l.member-iterator
    × ((i : ℕ) → 0 < times i l.yielded → get_or l.labels i 0 ≡ l.label)
    × ((i : ℕ) → times i l.yielded ≡ 0 → get_or l.labels i 0 ≡ get_or l.initial.labels i 0)
