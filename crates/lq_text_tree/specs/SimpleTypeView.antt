-- The simple type that stands in memory.
use Rattle.std.specs.Prelude.{List, [], ◌∷◌}
use Rattle.lq_text_tree.specs.MlType.{MlType, int, bool, unit, var, arrow, tuple, array, named, map_of, MlTypes, no_types, more_types}
use Rattle.lq_text_tree.specs.declared.simple_type.SimpleType.{SimpleType, fold-SimpleType}
use Rattle.lq_text_tree.specs.declared.simple_type.SimpleTypes.{SimpleTypes, fold-SimpleTypes, out-SimpleTypes}
use Rattle.lq_text_tree.specs.declared.simple_type.SimpleType.TheOpen.{SimpleType-F, SimpleTypes-F}

abbrev pub types_of : List MlType → MlTypes
types_of [] = no_types
types_of (t ∷ ts) = more_types t (types_of ts)

-- the types of a row
abbrev pub simple_types_items : SimpleTypes → List SimpleType
simple_types_items ts = (out-SimpleTypes ts).items.items

-- one level, with each type inside already seen
abbrev pub simple_type_step : SimpleType-F MlType MlTypes → MlType
simple_type_step SimpleType-F.Int = int
simple_type_step SimpleType-F.Bool = bool
simple_type_step SimpleType-F.Unit = unit
simple_type_step (SimpleType-F.Var n) = var n
simple_type_step (SimpleType-F.Arrow a b) = arrow a.value b.value
simple_type_step (SimpleType-F.Tuple ts) = tuple ts
simple_type_step (SimpleType-F.Array t) = array t.value
simple_type_step (SimpleType-F.Named c ts) = named c.0 ts
simple_type_step (SimpleType-F.Map t) = map_of t.value

abbrev pub simple_types_step : SimpleTypes-F MlType MlTypes → MlTypes
simple_types_step ts = types_of ts.items.items

abbrev pub simple_type_view : SimpleType → MlType
simple_type_view = fold-SimpleType MlType MlTypes simple_type_step simple_types_step

abbrev pub simple_types_view : SimpleTypes → MlTypes
simple_types_view = fold-SimpleTypes MlType MlTypes simple_type_step simple_types_step
