-- Types by their heads.
use Rattle.std.specs.Prelude.{◌≡◌, ℕ, List, [], ◌∷◌, Option, Some, None}
use Rattle.lq_text_tree.specs.MlType as ml
use Rattle.lq_text_tree.specs.MlType.{MlType, MlTypes}
use Rattle.lq_text_tree.specs.Types.{type_at}
use Rattle.lq_types_table.specs.declared.type_node.TypeHead.{TypeHead}
use Rattle.lq_types_table.specs.declared.type_node.TypeHead.TheVariants as head

-- the type of this head over these parts
abbrev pub made : TypeHead → MlTypes → MlType
made head.Int ts = ml.int
made head.Bool ts = ml.bool
made head.Unit ts = ml.unit
made head.Arrow ts = ml.arrow (type_at ts 0) (type_at ts 1)
made head.Tuple ts = ml.tuple ts
made head.Array ts = ml.array (type_at ts 0)
made head.Map ts = ml.map_of (type_at ts 0)
made (head.Named d) ts = ml.named d.0 ts

-- how many parts a head takes; None where it takes any number
abbrev pub arity : TypeHead → Option ℕ
arity head.Int = Some 0
arity head.Bool = Some 0
arity head.Unit = Some 0
arity head.Arrow = Some 2
arity head.Tuple = None
arity head.Array = Some 1
arity head.Map = Some 1
arity (head.Named d) = None

-- a head stands over so many parts
abbrev pub IsRight : TypeHead → ℕ → Type 0
IsRight h n = (k : ℕ) → arity h ≡ Some k → n ≡ k

-- the types that numbers stand for
abbrev pub each : (ℕ → MlType) → List ℕ → MlTypes
each types [] = ml.no_types
each types (i ∷ is) = ml.more_types (types i) (each types is)
