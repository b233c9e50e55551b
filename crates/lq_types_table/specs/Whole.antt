-- What a table of types says.
use Rattle.std.specs.Prelude.{List, []}
use Rattle.lq_text_tree.specs.MlType.{MlType}
use Rattle.lq_types_table.specs.declared.type_table.TypeTable.{TypeTable}
use Rattle.lq_types_table.specs.Nodes.{grown}

-- the types, in the order of their numbers
abbrev pub types_of : TypeTable → List MlType
types_of t = grown t.parts.items [] t.rows.items
