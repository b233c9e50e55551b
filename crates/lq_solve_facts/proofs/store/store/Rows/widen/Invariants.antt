-- There are the same readings.
use Rattle.std.proofs.Common.{◌≡◌, ◌+◌, ◌-◌, ℕ, length}
use Rattle.lq_solve_facts.specs.Store.Store.{read_at}
use Rattle.lq_solve_facts.proofs.store.store.Rows.widen.Given as goal

abbrev pub invariant-loop-alloc : goal.invariant-loop-alloc
invariant-loop-alloc l = (i n : ℕ) → read_at l.self i n ≡ read_at l.fn.self i n

abbrev pub decreases-loop-alloc : goal.decreases-loop-alloc
decreases-loop-alloc l = l.row + 1 - length l.self.rows.items
