use Rattle.std.proofs.Common.{◌≡◌, List, drop}
use Rattle.lq_text_walk.specs.Scoped.Signature.{DataTree}
use Rattle.lq_text_tree.specs.Qualifiers.{qualifiers_view}
use Rattle.lq_text_qualifiers.specs.Faults.Complaints.{least_with}
use Rattle.lq_text_qualifiers.specs.Faults.Datatypes.{size}
use Rattle.lq_text_qualifiers.specs.Faults.Qualifiers.{of_all}
use Rattle.lq_text_qualifiers.specs.Faults.Views.{found_view, held, measured_view, seen}
use Rattle.lq_text_qualifiers.proofs.faults.qualifiers.note_qualifiers.Given as goal

abbrev pub invariant-loop-qualifier : goal.invariant-loop-qualifier
invariant-loop-qualifier l =
    (ds : List DataTree) → held l.known.sorts.now.sizes ≡ size ds
    → least_with (found_view l.least.found) (of_all l.known.names.now ds (seen measured_view l.known.measures.now) (qualifiers_view (drop l.qualifier-index l.qualifiers)))
    ≡ least_with (found_view l.fn.least.found) (of_all l.known.names.now ds (seen measured_view l.known.measures.now) (qualifiers_view l.qualifiers))
