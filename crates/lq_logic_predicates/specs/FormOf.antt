-- The form that the code keeps for a term: its coefficients by the terms' numbers.
use Rattle.std.specs.Prelude.{◌≡◌, ℕ, ℤ, pos, ◌+ℤ◌, ◌-ℤ◌, ◌≤◌, Bool, true, false, List, length, unwrap_or, FitsSigned}
use Rattle.std.specs.Int.{w128}
use Rattle.std.specs.Ordering.{nat_cmp}
use Rattle.std.specs.BTreeMap.{BTreeMap, get}
use Rattle.lq_logic_predicates.specs.Sum.{Sum}
use Rattle.lq_logic_predicates.specs.Table.{index_of}
use Rattle.lq_logic_predicates.specs.LinearForm.{coefficient, constant_of}
use Rattle.lq_logic_predicates.specs.declared.form.Form.{Form}

-- the coefficient at a term's number
abbrev pub at : BTreeMap ℕ ℤ → ℕ → ℤ
at m q = unwrap_or (get nat_cmp m q) (pos 0)

abbrev pub AllFit : BTreeMap ℕ ℤ → Type 0
AllFit m = (q : ℕ) → FitsSigned w128 (at m q)

-- the difference or the sum
abbrev pub combined : Bool → ℤ → ℤ → ℤ
combined true x y = x -ℤ y
combined false x y = x +ℤ y

abbrev pub CanCombine : Bool → BTreeMap ℕ ℤ → BTreeMap ℕ ℤ → Type 0
CanCombine subtract m n = (q : ℕ) → FitsSigned w128 (combined subtract (at m q) (at n q))

abbrev pub IsCombined : Bool → BTreeMap ℕ ℤ → BTreeMap ℕ ℤ → BTreeMap ℕ ℤ → Type 0
IsCombined subtract m n r = (q : ℕ) → at r q ≡ combined subtract (at m q) (at n q)

abbrev pub FormFits : Form → Type 0
FormFits f = FitsSigned w128 f.constant × AllFit f.coefficients

-- the form has this constant and these coefficients, the terms numbered by the list
pub record HasForm (terms : List Sum) (f : Form) (constant_is : ℤ) (coefficient_is : Sum → ℤ) : Type 0 where
  pub constant : f.constant ≡ constant_is
  pub constant_fits : FitsSigned w128 f.constant
  pub coefficients : (t : Sum) → at f.coefficients (index_of terms t) ≡ coefficient_is t
  pub within : (q : ℕ) → length terms ≤ q → at f.coefficients q ≡ pos 0
  pub fit : AllFit f.coefficients

-- it is the form of a sum
abbrev pub IsFormOf : List Sum → Form → Sum → Type 0
IsFormOf terms f s = HasForm terms f (constant_of s) (coefficient s)
