use Rattle.std.proofs.Common.{◌≡◌, ℕ, ◌≤◌, List, ◌++◌, length}
use Rattle.lq_prover_simplex.specs.declared.limits.Change.{Change}
use Rattle.lq_prover_simplex.specs.Bounds.{interval_in}
use Rattle.lq_prover_simplex.specs.History.{before}
use Rattle.lq_prover_simplex.proofs.limits.Limits.back_to.Given as goal

abbrev pub invariant-loop-change : goal.invariant-loop-change
invariant-loop-change l = record {
  front : (more : List Change) × (l.fn.self.changes.items ≡ l.self.changes.items ++ more);
  size : length l.self.intervals.items ≡ length l.fn.self.intervals.items;
  back : (n k : ℕ) → n ≤ l.count → before l.self.changes.items n k (interval_in l.self.intervals.items k) ≡ before l.fn.self.changes.items n k (interval_in l.fn.self.intervals.items k);
}

abbrev pub decreases-loop-change : goal.decreases-loop-change
decreases-loop-change l = length l.self.changes.items
