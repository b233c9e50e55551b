use Rattle.std.proofs.Common.{◌≡◌, List, drop}
use Rattle.lq_text_walk.specs.Scoped.Signature.{DataTree}
use Rattle.lq_text_tree.specs.MeasureTrees.{definitions_view}
use Rattle.lq_text_qualifiers.specs.Faults.Complaints.{least_with}
use Rattle.lq_text_qualifiers.specs.Faults.Datatypes.{constructor, size}
use Rattle.lq_text_qualifiers.specs.Faults.Equations.{of_measures_from}
use Rattle.lq_text_qualifiers.specs.Faults.Views.{found_view, held, made_view, measured_view, seen}
use Rattle.lq_text_qualifiers.proofs.faults.equations.note_measures.Given as goal

abbrev pub invariant-loop-number : goal.invariant-loop-number
invariant-loop-number l =
    (ds : List DataTree) → held l.known.sorts.now.sizes ≡ size ds → seen made_view l.known.sorts.now.constructors ≡ constructor ds
    → least_with (found_view l.least.found) (of_measures_from l.known.names.now ds (seen measured_view l.known.measures.now) l.number (definitions_view (drop l.number l.measures)))
    ≡ least_with (found_view l.fn.least.found) (of_measures_from l.known.names.now ds (seen measured_view l.known.measures.now) 0 (definitions_view l.measures))
