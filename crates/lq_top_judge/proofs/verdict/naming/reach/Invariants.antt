use Rattle.std.proofs.Common.{◌≡◌, ℕ, length, slice_get}
use Rattle.lq_top_answers.specs.TypeText.Views.{names_at}
use Rattle.lq_top_judge.proofs.verdict.naming.reach.Given as goal

abbrev pub invariant-loop : goal.invariant-loop
invariant-loop l =
    ((d : ℕ) → names_at (slice_get l.rows.items d) ≡ names_at (slice_get l.initial.rows.items d)) × (l.counter ≡ length l.rows.items)
