use Rattle.std.proofs.Common.{◌≡◌, false, All, take}
use Rattle.lq_text_qualifiers.specs.Sorting.Views.{shape_view}
use Rattle.lq_text_qualifiers.specs.Faults.Shapes.{is_same}
use Rattle.lq_refined_copies.proofs.patterns.has_shape.Given as goal

abbrev pub invariant-loop-unknown : goal.invariant-loop-unknown
invariant-loop-unknown l = All (λ u. is_same (shape_view u.shape) (shape_view l.shape) ≡ false) (take l.unknown-index l.unknowns)
