-- Other names for the variables of a solution, and when they are those of the answer.
use Rattle.std.specs.Prelude.{◌≡◌, ℕ, List, None, All, map, slice_index_or}
use Rattle.lq_text_tree.specs.Items.{ItemTree}
use Rattle.lq_text_tree.specs.MlType as ml
use Rattle.lq_text_tree.specs.MlType.{MlType}
use Rattle.lq_text_tree.specs.Types.{put}
use Rattle.lq_text_walk.specs.Walk.Visits.{visits_of_items}
use Rattle.lq_text_walk.specs.Scoped.Scoping.{Scoping}
use Rattle.lq_types_rules.specs.Typings.Inference.{typed, IsInference}
use Rattle.lq_types_rules.specs.Typings.Principal.{node_count, IsPrincipalAnnotation, first_weak, first_past, placed_in, variables_at, in_order, AreNumbered}

-- the types with these names for their variables
abbrev pub named : (ℕ → ℕ) → (ℕ → MlType) → ℕ → MlType
named names types k = put (λ v. ml.var (names v)) (types k)

-- the variables of an item as they appear
abbrev pub item_variables : ℕ → (ℕ → MlType) → ItemTree → List ℕ
item_variables nodes types i = variables_at types (in_order nodes i)

-- The names number the variables of an item from 0 as they appear, and tell them apart.
pub record NumbersItem (nodes : ℕ) (types : ℕ → MlType) (names : ℕ → ℕ) (i : ItemTree) : Type 0 where
  pub numbered : AreNumbered 0 (map names (item_variables nodes types i))
  pub original : ℕ → ℕ
  pub undone : All (λ v. original (names v) ≡ v) (item_variables nodes types i)

-- the names of a row, where a variable behind its end stays
abbrev pub names_in : List ℕ → ℕ → ℕ
names_in ns v = slice_index_or ns v v

-- A principal annotation with such names is the answer, where no definition is weak and no type too large.
abbrev pub NamedIsInference : Type 0
NamedIsInference = (s : Scoping) (types : ℕ → MlType) (names : ℕ → ℕ) → IsPrincipalAnnotation s types → first_weak types s.items ≡ None
    → first_past types (placed_in (visits_of_items s.items)) ≡ None → All (NumbersItem (node_count s) types names) s.items
    → IsInference s (typed (named names types))
