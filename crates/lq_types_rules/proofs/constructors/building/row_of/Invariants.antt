use Rattle.std.proofs.Common.{◌≡◌, ℕ, map, length}
use Rattle.lq_text_tree.specs.MlType.{MlType}
use Rattle.lq_text_tree.specs.SimpleTypeView.{simple_types_view}
use Rattle.lq_text_tree.specs.Types.{put}
use Rattle.lq_types_unify.specs.Nodes.{form_at}
use Rattle.lq_types_rules.specs.Equations.Solutions.{Fits}
use Rattle.lq_types_rules.specs.Constructors.Building.{by_nodes, AreIn, IsMore}
use Rattle.lq_types_rules.specs.Constructors.Tasks.{listed, done, Suffices, work}
use Rattle.lq_types_rules.specs.Constructors.Views.{tasks_view}
use Rattle.lq_types_rules.proofs.constructors.building.row_of.Given as goal

abbrev pub invariant-loop-task : goal.invariant-loop-task
invariant-loop-task l = record {
  more : IsMore l.fn.types l.types l.parameters;
  inside : AreIn l.types l.stack.items;
  enough : Suffices (tasks_view l.tasks.items) (length l.stack.items);
  is_done : (t : ℕ → MlType) → Fits (form_at l.types) t → done (by_nodes l.parameters t) (tasks_view l.tasks.items) (map t l.stack.items) ≡ map (put (by_nodes l.parameters t)) (listed (simple_types_view l.row));
}

abbrev pub decreases-loop-task : goal.decreases-loop-task
decreases-loop-task l = work (tasks_view l.tasks.items)
