use Rattle.std.proofs.Common.{◌≡◌, ◌≤◌, ℕ, length}
use Rattle.lq_types_infer.specs.Annotation.Numbering.{number_in}
use Rattle.lq_types_infer.proofs.annotation.numbering.widen.Given as goal

abbrev pub invariant-loop : goal.invariant-loop
invariant-loop l = record {
  long : length l.names.items ≡ l.counter;
  longer : length l.fn.names.items ≤ length l.names.items;
  same : (v : ℕ) → number_in l.names.items v ≡ number_in l.fn.names.items v;
}
