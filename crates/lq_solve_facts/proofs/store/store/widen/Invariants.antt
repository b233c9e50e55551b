-- There are the same readings.
use Rattle.std.proofs.Common.{◌≡◌, ◌+◌, ◌-◌, ℕ, length}
use Rattle.lq_solve_facts.specs.Store.Store.{left_at}
use Rattle.lq_solve_facts.proofs.store.store.widen.Given as goal

abbrev pub invariant-loop-alloc : goal.invariant-loop-alloc
invariant-loop-alloc l = (j i n : ℕ) → left_at l.lefts.items j i n ≡ left_at l.fn.lefts.items j i n

abbrev pub decreases-loop-alloc : goal.decreases-loop-alloc
decreases-loop-alloc l = l.at + 1 - length l.lefts.items
