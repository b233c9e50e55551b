use Rattle.std.proofs.Common.{◌≡◌, [], map, take}
use Rattle.std.specs.List.{flat_map}
use Rattle.lq_text_qualifiers.specs.Sorting.Views.{qualifier_view, shape_view}
use Rattle.lq_refined_instances.specs.Instances.{made_of, of_shape}
use Rattle.lq_refined_instances.specs.Kept.{kept}
use Rattle.lq_refined_instances.specs.Scopes.{scope_in}
use Rattle.lq_refined_instances.specs.Views.{list_view, measure_name, scopes_view}
use Rattle.lq_refined_instances.proofs.finding.list_of.Given as goal

abbrev pub invariant-loop-qualifier : goal.invariant-loop-qualifier
invariant-loop-qualifier l =
    list_view l.list ≡ kept [] (flat_map (made_of (map measure_name l.measures) (scope_in (scopes_view l.scopes) l.symbols.scope)) (of_shape (map qualifier_view (take l.qualifier-index l.qualifiers)) (shape_view l.shape)))
