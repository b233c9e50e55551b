use Rattle.std.proofs.Common.{◌≡◌, ℕ, ◌<◌, ◌≤◌, length}
use Rattle.lq_prover_simplex.specs.Systems.{line_at, change_at, after}
use Rattle.lq_prover_simplex.proofs.basis.install.Given as goal

abbrev pub invariant-loop-at : goal.invariant-loop-at
invariant-loop-at l = record {
  same : length l.changed.items ≡ length l.lines;
  done : (k : ℕ) → k < l.at → line_at l.lines k ≡ after (change_at l.fn.changed.items k) (line_at l.fn.lines k);
  left : (k : ℕ) → l.at ≤ k → line_at l.lines k ≡ line_at l.fn.lines k;
  rest : (k : ℕ) → l.at ≤ k → change_at l.changed.items k ≡ change_at l.fn.changed.items k;
}
