use Rattle.std.proofs.Common.{◌≡◌, map, take}
use Rattle.lq_refined_instances.specs.Instances.{told, total_count}
use Rattle.lq_text_qualifiers.specs.Sorting.Views.{qualifier_view}
use Rattle.lq_refined_copies.specs.Views.{shared_view}
use Rattle.lq_refined_copies.proofs.counting.total_count.Given as goal

abbrev pub invariant-loop-qualifier : goal.invariant-loop-qualifier
invariant-loop-qualifier l = l.total ≡ told (total_count (map qualifier_view (take l.qualifier-index l.qualifiers)) (shared_view l.shared))
