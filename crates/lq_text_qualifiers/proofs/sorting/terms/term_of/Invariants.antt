use Rattle.std.proofs.Common.{◌≡◌, [], ◌∷◌}
use Rattle.lq_text_tree.specs.PredView.{pred_view}
use Rattle.lq_text_qualifiers.specs.Sorting.Making.{term_of}
use Rattle.lq_text_qualifiers.specs.Sorting.Tasks.{terms_done, work}
use Rattle.lq_text_qualifiers.specs.Sorting.Views.{terms_view, setting_view, tasks_view}
use Rattle.lq_text_qualifiers.proofs.sorting.terms.term_of.Given as goal

abbrev pub invariant-loop-task : goal.invariant-loop-task
invariant-loop-task l =
    terms_done (setting_view l.setting) (tasks_view l.tasks.items) (terms_view l.terms.items) ≡ term_of (setting_view l.setting) (pred_view l.source) ∷ []

abbrev pub decreases-loop-task : goal.decreases-loop-task
decreases-loop-task l = work (tasks_view l.tasks.items)
