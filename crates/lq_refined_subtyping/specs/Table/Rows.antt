-- The types that rows stand for, where each names earlier ones.
use Rattle.std.specs.Prelude.{◌≡◌, ℕ, ◌<◌, Bool, true, false, List, [], ◌∷◌, ◌++◌, All, map, slice_get, slice_index_or, Some}
use Rattle.lq_refined_types.specs.Parts.Part.{Scopes}
use Rattle.lq_refined_types.specs.Types.Refined.{Refined}
use Rattle.lq_refined_subtyping.specs.declared.table.table.Row.{Row}
use Rattle.lq_refined_subtyping.specs.declared.table.table.Row.TheVariants.{Node, Delayed}
use Rattle.lq_refined_subtyping.specs.Table.Forms.{at, form_rows, node_type}
use Rattle.lq_refined_subtyping.specs.Table.Changes.{changed, change_rows}

abbrev pub row_type : Scopes → List Refined → Row → Refined
row_type scopes all (Node n) = node_type all n
row_type scopes all (Delayed c i) = changed scopes all c.value (at all i)

-- each row adds the type that it makes of those before it: a fold from the left, so that no recursion goes down a type
-- and a further row changes nothing before it
abbrev pub grown : Scopes → List Refined → List Row → List Refined
grown scopes all [] = all
grown scopes all (r ∷ rs) = grown scopes (all ++ row_type scopes all r ∷ []) rs

-- the numbers that a row names
abbrev pub row_rows : Row → List ℕ
row_rows (Node n) = form_rows n.form
row_rows (Delayed c i) = i ∷ change_rows c.value

-- each row names earlier ones
abbrev pub AreEarlier : List Row → Type 0
AreEarlier rs = (k : ℕ) (r : Row) → slice_get rs k ≡ Some r → All (λ p. p < k) (row_rows r)

abbrev pub is_node : Row → Bool
is_node (Node n) = true
is_node (Delayed c i) = false

-- the row of this number is one level of a type
abbrev pub HasNode : List Row → ℕ → Type 0
HasNode rs i = slice_index_or (map is_node rs) i false ≡ true

-- the new rows are the old ones with possibly more of them behind
pub record Extends (old new : List Row) : Type 0 where
  pub added : List Row
  pub is : new ≡ old ++ added
