use Rattle.std.proofs.Common.{◌≡◌, map, take}
use Rattle.lq_text_qualifiers.specs.Sorting.Views.{qualifier_view}
use Rattle.lq_refined_instances.specs.Counting.{count_of}
use Rattle.lq_refined_instances.specs.Instances.{told}
use Rattle.lq_refined_instances.specs.Views.{scopes_view, unknown_view}
use Rattle.lq_refined_instances.proofs.counting.count_of.Given as goal

abbrev pub invariant-loop-unknown : goal.invariant-loop-unknown
invariant-loop-unknown l =
    l.total ≡ told (count_of (qualifier_view l.qualifier) (map (unknown_view (scopes_view l.unknowns.scopes)) (take l.unknown-index l.unknowns.unknowns.items)))
