use Rattle.std.specs.Prelude.{max, slice_index_or}
use Rattle.std.proofs.Common.{◌≡◌, drop}
use Rattle.lq_types_infer.specs.Annotation.Bounds.{largest}
use Rattle.lq_types_infer.proofs.annotation.bounds.bound_over.Given as goal

abbrev pub invariant-loop-part : goal.invariant-loop-part
invariant-loop-part l =
    max l.bound (largest (λ p. slice_index_or l.bounds p 0) (drop l.part-index l.parts)) ≡ largest (λ p. slice_index_or l.bounds p 0) l.parts
