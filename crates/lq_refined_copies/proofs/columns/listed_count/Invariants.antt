use Rattle.std.proofs.Common.{◌≡◌, map, take}
use Rattle.lq_refined_instances.specs.Counting.{symbol_count}
use Rattle.lq_refined_instances.specs.Seen.{visible_view}
use Rattle.lq_text_qualifiers.specs.Sorting.Views.{shape_view}
use Rattle.lq_refined_copies.proofs.columns.listed_count.Given as goal

abbrev pub invariant-loop-visible : goal.invariant-loop-visible
invariant-loop-visible l = l.count ≡ symbol_count (shape_view l.shape) (map visible_view (take l.visible-index l.visible-items))
