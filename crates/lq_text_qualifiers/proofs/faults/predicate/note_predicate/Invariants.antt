use Rattle.std.proofs.Common.{◌≡◌, Some}
use Rattle.lq_text_tree.specs.PredView.{pred_view}
use Rattle.lq_text_qualifiers.specs.Faults.Complaints.{least_with}
use Rattle.lq_text_qualifiers.specs.Faults.Lookups.{first_in}
use Rattle.lq_text_qualifiers.specs.Faults.Predicates.{of_predicate, of_spots, spots, uses}
use Rattle.lq_text_qualifiers.specs.Faults.Views.{found_view, seen, setting_view, shape_view}
use Rattle.lq_text_qualifiers.specs.Faults.Work.{pending, spots_of_all, total}
use Rattle.lq_text_qualifiers.proofs.FaultsLemmas.Looking.{Uses}
use Rattle.lq_text_qualifiers.proofs.faults.predicate.note_predicate.Given as goal

abbrev pub invariant-loop-spot : goal.invariant-loop-spot
invariant-loop-spot l =
    let s = setting_view l.setting in
    let all = first_in (uses (spots s (Some (shape_view l.fn.asked)) (pred_view l.predicate))) in
    Uses s all (seen shape_view l.used) (pending l.left.items)
    × (least_with (found_view l.least.found) (of_spots s all (spots_of_all s (pending l.left.items)))
    ≡ least_with (found_view l.fn.least.found) (of_predicate s (Some (shape_view l.fn.asked)) (pred_view l.predicate)))

abbrev pub decreases-loop-spot : goal.decreases-loop-spot
decreases-loop-spot l = total (pending l.left.items)
