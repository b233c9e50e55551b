use Rattle.std.proofs.Common.{◌≡◌, map, take}
use Rattle.lq_text_tree.specs.Qualifiers.{qualifiers_view}
use Rattle.lq_text_qualifiers.specs.Sorting.Making.{qualifier_made}
use Rattle.lq_text_qualifiers.specs.Sorting.Views.{measured_view, qualifier_view, seen}
use Rattle.lq_text_qualifiers.proofs.sorting.qualifiers.qualifiers_of.Given as goal

abbrev pub invariant-loop-qualifier : goal.invariant-loop-qualifier
invariant-loop-qualifier l =
    map qualifier_view l.made.items ≡ map (qualifier_made l.names (seen measured_view l.measures)) (qualifiers_view (take l.qualifier-index l.qualifiers))
