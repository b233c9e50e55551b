use Rattle.std.proofs.Common.{◌≡◌, [], map, take}
use Rattle.lq_text_qualifiers.specs.Sorting.Views.{qualifier_view, shape_view}
use Rattle.lq_refined_instances.specs.Instances.{of_shape}
use Rattle.lq_refined_instances.proofs.finding.has_shape.Given as goal

abbrev pub invariant-loop-qualifier : goal.invariant-loop-qualifier
invariant-loop-qualifier l = of_shape (map qualifier_view (take l.qualifier-index l.qualifiers)) (shape_view l.shape) ≡ []
