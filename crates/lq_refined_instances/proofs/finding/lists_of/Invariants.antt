use Rattle.std.proofs.Common.{◌≡◌, map, take}
use Rattle.lq_text_qualifiers.specs.Sorting.Views.{qualifier_view}
use Rattle.lq_refined_instances.specs.Instances.{all_instances_of}
use Rattle.lq_refined_instances.specs.Scopes.{scope_in}
use Rattle.lq_refined_instances.specs.Shaped.{AreListed}
use Rattle.lq_refined_instances.specs.Views.{list_view, measure_name, scopes_view, unknown_view}
use Rattle.lq_refined_instances.proofs.finding.lists_of.Given as goal

abbrev pub invariant-loop-unknown : goal.invariant-loop-unknown
invariant-loop-unknown l = record {
  made : map list_view l.lists.items
      ≡ all_instances_of (map measure_name l.measures) (map qualifier_view l.qualifiers) (map (unknown_view (scopes_view l.unknowns.scopes)) (take l.unknown-index l.unknowns.unknowns.items));
  known : AreListed (scope_in (scopes_view l.unknowns.scopes) l.known.scope) l.known.lists.items;
}
