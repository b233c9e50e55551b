-- Numbers for variables, one after another: each that has none gets the next one.
use Rattle.std.specs.Prelude.{◌≡◌, ℕ, suc, ◌<◌, Bool, true, false, length, List, [], ◌∷◌, reverse, slice_set, slice_index_or, Option, Some, None}
use Rattle.lq_text_tree.specs.Items.{ItemTree}
use Rattle.lq_text_tree.specs.MlType as ml
use Rattle.lq_text_tree.specs.MlType.{MlType}
use Rattle.lq_types_rules.specs.Constructors.Tasks.{size_of}
use Rattle.lq_types_table.specs.Nodes.{at}
use Rattle.lq_types_rules.specs.Typings.Principal.{variables_at}
use Rattle.lq_types_rules.specs.Typings.Uses.{Each}
use Rattle.lq_types_infer.specs.declared.annotation.numbering.Naming.{Naming}
use Rattle.lq_types_infer.specs.Annotation.Measuring.{total}
use Rattle.lq_types_infer.specs.Annotation.Naming.{item_variables}

-- the numbers so far, and how many variables of the definition have one
pub record Numbers : Type 0 where
  pub names : List (Option ℕ)
  pub next : ℕ

abbrev pub number_in : List (Option ℕ) → ℕ → Option ℕ
number_in names v = slice_index_or names v None

abbrev pub numbered_by : Option ℕ → Numbers → ℕ → Numbers
numbered_by (Some k) n v = n
numbered_by None n v = record { names = slice_set n.names v (Some n.next); next = suc n.next }

abbrev pub with_number : Numbers → ℕ → Numbers
with_number n v = numbered_by (number_in n.names v) n v

abbrev pub with_numbers : Numbers → List ℕ → Numbers
with_numbers n [] = n
with_numbers n (v ∷ vs) = with_numbers (with_number n v) vs

-- no variable of the definition has one yet
abbrev pub numbers_from_zero : List (Option ℕ) → Numbers
numbers_from_zero names = record { names = names; next = 0 }

-- the numbers of the variables of a definition, from 0
abbrev pub behind_item : ℕ → (ℕ → MlType) → List (Option ℕ) → ItemTree → List (Option ℕ)
behind_item nodes types names i = (with_numbers (numbers_from_zero names) (item_variables nodes types i)).names

abbrev pub behind_items : ℕ → (ℕ → MlType) → List (Option ℕ) → List ItemTree → List (Option ℕ)
behind_items nodes types names [] = names
behind_items nodes types names (i ∷ is) = behind_items nodes types (behind_item nodes types names i) is

-- a variable without a number has none in the end, so any stands for it
abbrev pub value_or_zero : Option ℕ → ℕ
value_or_zero (Some k) = k
value_or_zero None = 0

-- no variable has a number, and there is room for those of the types
pub record AreUnnamed (all : List MlType) (names : List (Option ℕ)) : Type 0 where
  pub none : (v : ℕ) → number_in names v ≡ None
  pub room : (r : ℕ) → r < length all → Each (λ v. v < length names) (at all r)

-- ---- numbers in memory

abbrev pub numbers_of : Naming → Numbers
numbers_of n = record { names = n.names.items; next = n.next }

-- there is room for the variables of the types
abbrev pub HasRoom : List MlType → Naming → Type 0
HasRoom all n = (r : ℕ) → r < length all → Each (λ v. v < length n.names.items) (at all r)

abbrev pub HasNumber : List (Option ℕ) → ℕ → Type 0
HasNumber names v = (k : ℕ) × (number_in names v ≡ Some k)

-- the types that are done have a number for each variable
abbrev pub AreDone : List MlType → List Bool → List (Option ℕ) → Type 0
AreDone all done names = (r : ℕ) → slice_index_or done r false ≡ true → Each (HasNumber names) (at all r)

pub record IsNaming (all : List MlType) (n : Naming) : Type 0 where
  pub long : length n.done.items ≡ length all
  pub room : HasRoom all n
  pub done : AreDone all n.done.items n.names.items

-- the variables of types that are still to be walked, the next one last
abbrev pub coming : List MlType → List ℕ → List ℕ
coming all pending = variables_at (at all) (reverse pending)

-- how many types stand in them
abbrev pub work : List MlType → List ℕ → ℕ
work all pending = total (λ p. size_of (at all p)) (reverse pending)

abbrev pub variable_in : MlType → Option ℕ
variable_in (ml.var v) = Some v
variable_in ml.int = None
variable_in ml.bool = None
variable_in ml.unit = None
variable_in (ml.arrow a b) = None
variable_in (ml.tuple ts) = None
variable_in (ml.array a) = None
variable_in (ml.named d ts) = None
variable_in (ml.map_of a) = None
