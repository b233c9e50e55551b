use Rattle.std.proofs.Common.{◌≡◌, map, take}
use Rattle.lq_text_qualifiers.specs.Sorting.Views.{predicate_view}
use Rattle.lq_refined_instances.specs.Kept.{kept}
use Rattle.lq_refined_instances.specs.Made.{instance_by}
use Rattle.lq_refined_instances.specs.Views.{list_view, measure_name}
use Rattle.lq_refined_instances.proofs.finding.add_instances.Given as goal

abbrev pub invariant-loop-replacement : goal.invariant-loop-replacement
invariant-loop-replacement l =
    list_view l.list ≡ kept (list_view l.initial.list) (map (λ v. instance_by (map measure_name l.measures) v.items (predicate_view l.qualifier.predicate)) (take l.replacement-index l.replacement-items))
