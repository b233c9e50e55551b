-- What stands in memory.
use Rattle.std.specs.Prelude.{List, map, reverse}
use Rattle.lq_text_tree.specs.MlType.{MlType}
use Rattle.lq_text_tree.specs.SimpleTypeView.{simple_type_view}
use Rattle.lq_text_tree.specs.TypeView.{type_view}
use Rattle.lq_text_tree.specs.declared.simple_type.SimpleType.{SimpleType}
use Rattle.lq_text_datatypes.specs.Tasks as plain
use Rattle.lq_text_datatypes.specs.declared.simple.Task.{Task}
use Rattle.lq_text_datatypes.specs.declared.simple.Task.TheVariants as task

abbrev pub task_view : Task → plain.Task
task_view (task.Enter t) = plain.enter (type_view t.now)
task_view (task.Make t) = plain.make (type_view t.now)

-- tasks and types, the last first
abbrev pub tasks_view : List Task → List plain.Task
tasks_view ts = map task_view (reverse ts)

abbrev pub types_in : List SimpleType → List MlType
types_in = map simple_type_view

abbrev pub stack_view : List SimpleType → List MlType
stack_view ts = types_in (reverse ts)
