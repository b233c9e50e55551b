-- Tasks in memory.
use Rattle.std.specs.Prelude.{List, map, reverse}
use Rattle.lq_text_tree.specs.SimpleTypeView.{simple_type_view}
use Rattle.lq_types_rules.specs.Constructors.Tasks as plain
use Rattle.lq_types_rules.specs.declared.constructors.tasks.Task.{Task}
use Rattle.lq_types_rules.specs.declared.constructors.tasks.Task.TheVariants as task

abbrev pub task_view : Task → plain.Task
task_view (task.Enter t) = plain.enter (simple_type_view t.now)
task_view (task.Make t) = plain.make (simple_type_view t.now)

-- the last first
abbrev pub tasks_view : List Task → List plain.Task
tasks_view ts = map task_view (reverse ts)
