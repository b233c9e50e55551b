-- Made names of programs are in order.
use Rattle.std.specs.Prelude.{◌≡◌, ℕ, ◌+◌, ◌-◌, ◌<◌, ◌≤◌, nat_lt, Bool, not, List, length, Option, Some, None, slice_get}
use Rattle.std.specs.List.{filter}
use Rattle.lq_text_walk.specs.Scoped.Numbers.{AreFrom}
use Rattle.lq_text_tree.specs.Items.{ItemTree}
use Rattle.lq_meaning_normal_form.specs.Types.Plain.{ItemsArePlain}
use Rattle.lq_meaning_normal_form.specs.Types.Programs.{next_items, normal_items}
use Rattle.lq_meaning_normalize.specs.MadeNames.Numbers.{made_number}
use Rattle.lq_meaning_normalize.specs.MadeNames.Order.{names_of_items}

abbrev pub is_from : ℕ → ℕ → Bool
is_from k x = not (nat_lt x k)

-- the names from this one on that a normal program binds
abbrev pub names_from : ℕ → List ItemTree → List ℕ
names_from k is = filter (is_from k) (names_of_items is)

-- The names that the normal form makes behind the binders of a text stand in the list in ascending order, and each does.
pub record AreInOrder (k : ℕ) (is : List ItemTree) : Type 0 where
  pub ascending : AreFrom k (names_from k (normal_items k is))
  pub all : k + length (names_from k (normal_items k is)) ≡ next_items k is

abbrev pub MadeNamesAreInOrder : Type 0
MadeNamesAreInOrder = (k : ℕ) (is : List ItemTree) → ItemsArePlain k is → AreInOrder k is

-- each binder of a text has a name
abbrev pub AllNamed : List (Option ℕ) → Type 0
AllNamed sources = (x : ℕ) → slice_get sources x ≡ Some None → ⊥

-- Where each binder of the text has a name, the made names are the names behind those binders, numbered from the first one on.
abbrev pub MadeNamesAreAlone : Type 0
MadeNamesAreAlone = (sources : List (Option ℕ)) (is : List ItemTree) → let k = length sources in AllNamed sources → ItemsArePlain k is
    → (x : ℕ) → (x < k → made_number sources (normal_items k is) x ≡ None)
    × (k ≤ x → x < next_items k is → made_number sources (normal_items k is) x ≡ Some (x - k + 1))
    × (next_items k is ≤ x → made_number sources (normal_items k is) x ≡ None)
