-- The program and the types that stand in memory.
use Rattle.std.specs.Prelude.{ℕ, List}
use Rattle.lq_text_tree.specs.MlType.{MlType}
use Rattle.lq_text_walk.specs.Scoped.Scoping.{Scoping}
use Rattle.lq_text_walk.specs.Scoped.Whole.{scoped_view}
use Rattle.lq_types_table.specs.Whole as table
use Rattle.lq_types_infer.specs.declared.annotation.annotated.Annotated.{Annotated}
use Rattle.lq_types_infer.specs.Annotation.Slots.{slot_types}

abbrev pub program_of : Annotated → Scoping
program_of a = scoped_view a.program

-- the types of its table
abbrev pub table_of : Annotated → List MlType
table_of a = table.types_of a.table

-- the types of nodes, and behind them those of binders
abbrev pub types_of : Annotated → ℕ → MlType
types_of a = slot_types (table_of a) a.rows.items
