use Rattle.std.proofs.Common.{◌≡◌, List, map, take}
use Rattle.lq_refined_instances.specs.Counting.{count_of}
use Rattle.lq_refined_instances.specs.Instances.{told}
use Rattle.lq_refined_instances.specs.Scopes.{scope_in, Scope}
use Rattle.lq_text_qualifiers.specs.Sorting.Views.{qualifier_view, shape_view}
use Rattle.lq_refined_copies.specs.Completed.{all_completed}
use Rattle.lq_refined_copies.specs.Counting.{AreColumns, AreMarks, AreSmall}
use Rattle.lq_refined_copies.specs.Groups.{groups_view}
use Rattle.lq_refined_copies.proofs.patterns.copies_count.Given as goal

abbrev pub invariant-loop-group : goal.invariant-loop-group
invariant-loop-group l =
    (all table : List Scope) → AreColumns (map shape_view l.qualifier.placeholders.items) all l.outer
    → AreColumns (map shape_view l.qualifier.placeholders.items) table l.inner.columns.items → AreMarks table l.inner.marks.items → AreSmall table
    → l.total ≡ told (count_of (qualifier_view l.qualifier) (all_completed (scope_in all l.scope) (groups_view table (take l.group-index l.group-items))))
