-- The types that rows stand for, where each names earlier ones.
use Rattle.std.specs.Prelude.{◌≡◌, ℕ, ◌+◌, ◌<◌, ◌≤◌, ◌^◌, List, [], ◌∷◌, ◌++◌, Some, All, take, drop, length, slice_get, slice_index_or}
use Rattle.lq_text_tree.specs.MlType as ml
use Rattle.lq_text_tree.specs.MlType.{MlType}
use Rattle.lq_types_table.specs.declared.type_node.TypeHead.{TypeHead}
use Rattle.lq_types_table.specs.declared.type_table.Row.{Row}
use Rattle.lq_types_table.specs.declared.type_table.Row.TheVariants.{Var, Made}
use Rattle.lq_types_table.specs.Heads.{made, each, IsRight}

-- the type at a number; unit behind the end
abbrev pub at : List MlType → ℕ → MlType
at all i = slice_index_or all i ml.unit

abbrev pub built : List ℕ → List MlType → Row → MlType
built parts all (Var v) = ml.var v
built parts all (Made h first count) = made h (each (at all) (take count (drop first parts)))

-- each row adds the type that it makes of those before it: a fold from the left, so that no recursion goes down a type
-- and a further row changes nothing before it
abbrev pub grown : List ℕ → List MlType → List Row → List MlType
grown parts all [] = all
grown parts all (r ∷ rs) = grown parts (all ++ built parts all r ∷ []) rs

-- a head's parts are there, are those of earlier types, and are as many as it takes
pub record IsTable (parts : List ℕ) (rows : List Row) : Type 0 where
  pub small : length rows < 2 ^ 32
  pub fits : (i : ℕ) (h : TypeHead) (first count : ℕ) → slice_get rows i ≡ Some (Made h first count) → first + count ≤ length parts
  pub below : (i : ℕ) (h : TypeHead) (first count : ℕ) → slice_get rows i ≡ Some (Made h first count)
      → All (λ p. p < i) (take count (drop first parts))
  pub right : (i : ℕ) (h : TypeHead) (first count : ℕ) → slice_get rows i ≡ Some (Made h first count) → IsRight h count

-- a variable's row with the variable's other number
abbrev pub renamed : List ℕ → Row → Row
renamed names (Var v) = Var (slice_index_or names v v)
renamed names (Made h first count) = Made h first count
