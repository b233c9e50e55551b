use Rattle.std.proofs.Common.{◌≡◌, List, map, drop}
use Rattle.lq_text_walk.specs.Scoped.Signature.{DataTree}
use Rattle.lq_text_tree.specs.MeasureTrees.{equation_view}
use Rattle.lq_text_qualifiers.specs.Faults.Complaints.{least_with}
use Rattle.lq_text_qualifiers.specs.Faults.Datatypes.{constructor}
use Rattle.lq_text_qualifiers.specs.Faults.Equations.{of_equations}
use Rattle.lq_text_qualifiers.specs.Faults.Lookups.{no_names}
use Rattle.lq_text_qualifiers.specs.Faults.Views.{found_view, made_view, measured_view, names_in, seen}
use Rattle.lq_text_qualifiers.proofs.faults.equations.note_equations.Given as goal

abbrev pub invariant-loop-equation : goal.invariant-loop-equation
invariant-loop-equation l =
    (ds : List DataTree) → seen made_view l.known.sorts.now.constructors ≡ constructor ds
    → least_with (found_view l.least.found)
    (of_equations l.known.names.now ds (seen measured_view l.known.measures.now) l.number l.datatype.0 (names_in l.before) (map equation_view (drop l.equation-index l.equations)))
    ≡ least_with (found_view l.fn.least.found) (of_equations l.known.names.now ds (seen measured_view l.known.measures.now) l.number l.datatype.0 no_names (map equation_view l.equations))
