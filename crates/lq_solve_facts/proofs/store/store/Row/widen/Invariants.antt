-- There are the same readings.
use Rattle.std.proofs.Common.{◌≡◌, ◌+◌, ◌-◌, ℕ, length}
use Rattle.lq_solve_facts.specs.Store.Store.{read_in}
use Rattle.lq_solve_facts.proofs.store.store.Row.widen.Given as goal

abbrev pub invariant-loop-self : goal.invariant-loop-self
invariant-loop-self l = (n : ℕ) → read_in l.self n ≡ read_in l.fn.self n

abbrev pub decreases-loop-self : goal.decreases-loop-self
decreases-loop-self l = l.number + 1 - length l.self.reads.items
