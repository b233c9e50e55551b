use Rattle.std.proofs.Common.{map, take}
use Rattle.lq_refined_instances.specs.Views.{scopes_view}
use Rattle.lq_text_qualifiers.specs.Sorting.Views.{shape_view}
use Rattle.lq_refined_copies.specs.Counting.{AreColumns}
use Rattle.lq_refined_copies.proofs.columns.columns_of.Given as goal

abbrev pub invariant-loop-shape : goal.invariant-loop-shape
invariant-loop-shape l = AreColumns (map shape_view (take l.shape-index l.shapes)) (scopes_view l.table) l.columns.items
