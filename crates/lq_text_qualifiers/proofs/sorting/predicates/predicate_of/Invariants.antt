use Rattle.std.proofs.Common.{◌≡◌, [], ◌∷◌}
use Rattle.lq_text_tree.specs.PredView.{pred_view}
use Rattle.lq_text_qualifiers.specs.Sorting.Making.{predicate_of}
use Rattle.lq_text_qualifiers.specs.Sorting.Tasks.{predicates_done, work}
use Rattle.lq_text_qualifiers.specs.Sorting.Views.{predicates_view, setting_view, tasks_view}
use Rattle.lq_text_qualifiers.proofs.sorting.predicates.predicate_of.Given as goal

abbrev pub invariant-loop-task : goal.invariant-loop-task
invariant-loop-task l =
    predicates_done (setting_view l.setting) (tasks_view l.tasks.items) (predicates_view l.predicates.items) ≡ predicate_of (setting_view l.setting) (pred_view l.source) ∷ []

abbrev pub decreases-loop-task : goal.decreases-loop-task
decreases-loop-task l = work (tasks_view l.tasks.items)
