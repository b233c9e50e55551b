use Rattle.std.proofs.Common.{◌≡◌, ◌++◌, List, map, take}
use Rattle.lq_text_walk.specs.Scoped.Signature.{DataTree}
use Rattle.lq_text_tree.specs.MeasureTrees.{definitions_view}
use Rattle.lq_text_qualifiers.specs.Faults.Datatypes.{predeclared}
use Rattle.lq_text_qualifiers.specs.Faults.Lookups.{first_in}
use Rattle.lq_text_qualifiers.specs.Sorting.Filing.{listed_view}
use Rattle.lq_text_qualifiers.specs.Sorting.Making.{constructors_of, measure_made}
use Rattle.lq_text_qualifiers.specs.Sorting.Views.{measure_view, measured_view, seen}
use Rattle.lq_text_qualifiers.proofs.sorting.measures.measures_made.Given as goal

abbrev pub invariant-loop-definition : goal.invariant-loop-definition
invariant-loop-definition l =
    (ds : List DataTree) → seen listed_view l.known ≡ first_in (map constructors_of (predeclared ++ ds))
    → map measure_view l.made.items ≡ map (measure_made ds (seen measured_view l.measures)) (definitions_view (take l.definition-index l.definitions))
