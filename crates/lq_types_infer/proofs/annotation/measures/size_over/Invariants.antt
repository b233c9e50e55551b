use Rattle.std.specs.Prelude.{min, slice_index}
use Rattle.std.proofs.Common.{◌≡◌, suc, ◌+◌, ◌-◌, ◌^◌, ◌≤◌, drop}
use Rattle.lq_types_infer.specs.Annotation.Measuring.{total}
use Rattle.lq_types_infer.proofs.annotation.measures.size_over.Given as goal

abbrev pub invariant-loop-part : goal.invariant-loop-part
invariant-loop-part l = record {
  goes : min (l.size + total (λ p. slice_index l.sizes p) (drop l.part-index l.parts)) (2 ^ 64 - 1) ≡ min
      (suc (total (λ p. slice_index l.sizes p) l.parts)) (2 ^ 64 - 1);
  small : l.size ≤ 2 ^ 64 - 1;
}
