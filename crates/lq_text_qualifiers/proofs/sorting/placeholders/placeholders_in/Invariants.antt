use Rattle.std.proofs.Common.{◌≡◌, ◌++◌, ℕ}
use Rattle.lq_text_tree.specs.PredView.{pred_view}
use Rattle.lq_text_qualifiers.specs.Faults.Predicates.{uses}
use Rattle.lq_text_qualifiers.specs.Faults.Shapes.{Shape}
use Rattle.lq_text_qualifiers.specs.Faults.Work.{spots_of_all, total}
use Rattle.lq_text_qualifiers.specs.Sorting.Making.{asking}
use Rattle.lq_text_qualifiers.specs.Sorting.Placeholders.{firsts, placeholders_in}
use Rattle.lq_text_qualifiers.specs.Sorting.Views.{measured_view, names_in, seen}
use Rattle.lq_text_qualifiers.specs.Sorting.Walking.{AreNumbered, found_uses, pending}
use Rattle.lq_text_qualifiers.proofs.sorting.placeholders.placeholders_in.Given as goal

abbrev pub invariant-loop-spot : goal.invariant-loop-spot
invariant-loop-spot l =
    AreNumbered l.found
    × ((v : ℕ) → (a : Shape) → found_uses l.found ++ firsts (names_in l.found.numbers) (uses (spots_of_all (asking l.names (seen measured_view l.measures) v a) (pending l.left.items)))
    ≡ placeholders_in (asking l.names (seen measured_view l.measures) v a) (pred_view l.predicate))

abbrev pub decreases-loop-spot : goal.decreases-loop-spot
decreases-loop-spot l = total (pending l.left.items)
