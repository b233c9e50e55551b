use Rattle.std.proofs.Common.{◌≡◌, length}
use Rattle.lq_types_infer.specs.Inference.Copying.{AreClear}
use Rattle.lq_types_infer.proofs.inference.copies.widen.Given as goal

abbrev pub invariant-loop : goal.invariant-loop
invariant-loop l = record {
  long : length l.weak.items ≡ l.counter;
  clear : AreClear l.fn.weak.items → AreClear l.weak.items;
}
