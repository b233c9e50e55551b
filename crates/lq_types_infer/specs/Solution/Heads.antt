-- Heads of types while they are inferred, and of types of a table.
use Rattle.lq_types_unify.specs.declared.arena.Head.{Head}
use Rattle.lq_types_unify.specs.declared.arena.Head.TheVariants as from
use Rattle.lq_types_table.specs.declared.type_node.TypeHead.{TypeHead}
use Rattle.lq_types_table.specs.declared.type_node.TypeHead.TheVariants as to

abbrev pub head_of : Head → TypeHead
head_of from.Whole = to.Int
head_of from.Flag = to.Bool
head_of from.Unit = to.Unit
head_of from.Arrow = to.Arrow
head_of from.Tuple = to.Tuple
head_of from.Array = to.Array
head_of from.Map = to.Map
head_of (from.Named d) = to.Named (record { 0 = d })
