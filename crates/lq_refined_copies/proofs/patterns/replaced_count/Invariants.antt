use Rattle.std.proofs.Common.{◌≡◌, List, map, take}
use Rattle.lq_refined_instances.specs.Counting.{replaced_count}
use Rattle.lq_refined_instances.specs.Scopes.{scope_in, Scope}
use Rattle.lq_text_qualifiers.specs.Sorting.Views.{shape_view}
use Rattle.lq_refined_copies.specs.Completed.{completed}
use Rattle.lq_refined_copies.specs.Counting.{AreColumns, AreMarks, IsSmall}
use Rattle.lq_refined_copies.proofs.patterns.replaced_count.Given as goal

abbrev pub invariant-loop-index : goal.invariant-loop-index
invariant-loop-index l =
    (all table : List Scope) → AreColumns (map shape_view l.shapes) all l.outer → AreColumns (map shape_view l.shapes) table l.inner.columns.items
    → AreMarks table l.inner.marks.items → IsSmall (scope_in table l.at)
    → l.count ≡ replaced_count (take l.index (map shape_view l.shapes)) (completed (scope_in all l.scope) (scope_in table l.at))
