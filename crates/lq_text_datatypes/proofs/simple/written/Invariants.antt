use Rattle.std.proofs.Common.{◌≡◌, [], ◌∷◌, map}
use Rattle.lq_text_tree.specs.Items.{parameter_view}
use Rattle.lq_text_tree.specs.Signatures.{written}
use Rattle.lq_text_tree.specs.TypeView.{type_view}
use Rattle.lq_text_datatypes.specs.Tasks.{done, work}
use Rattle.lq_text_datatypes.specs.Views.{stack_view, tasks_view}
use Rattle.lq_text_datatypes.proofs.simple.written.Given as goal

abbrev pub invariant-loop-task : goal.invariant-loop-task
invariant-loop-task l =
    done (map parameter_view l.parameters) (tasks_view l.tasks.items) (stack_view l.types.items) ≡ written (map parameter_view l.parameters) (type_view l.source) ∷ []

abbrev pub decreases-loop-task : goal.decreases-loop-task
decreases-loop-task l = work (tasks_view l.tasks.items)
