-- Variables, each a form over the terms, and each a combination of the free ones.
use Rattle.std.specs.Prelude.{◌≡◌, ℕ, pos, ◌<◌, ◌≤◌, ◌⊎◌, List, [], ◌∷◌, Option, Some, None, length, slice_index_or}
use Rattle.lq_base_numbers.specs.Rationals.Rational.{ℚ, whole, ◌+ℚ◌, ◌*ℚ◌}
use Rattle.lq_base_numbers.specs.declared.fractions.frac.Frac.{Frac}
use Rattle.lq_logic_rows.specs.Row.{Valuation, sum_at}
use Rattle.lq_logic_rows.specs.Forms.{Parts, IsNormal}
use Rattle.lq_logic_rows.specs.Difference.{TermsBelow}
use Rattle.lq_logic_rows.specs.Steps.{valuation_of}
use Rattle.lq_prover_simplex.specs.declared.line.Entry.{Entry}
use Rattle.lq_prover_simplex.specs.Lines.{combine, factor_of, unit, IsLine}

-- the terms come first, as forms of one part; a combination and a value for each variable
pub record System : Type 0 where
  pub terms : ℕ
  pub forms : List Parts
  pub lines : List (List Entry)
  pub values : List Frac

abbrev pub form_at : List Parts → ℕ → Parts
form_at forms k = slice_index_or forms k []

abbrev pub line_at : List (List Entry) → ℕ → List Entry
line_at lines k = slice_index_or lines k []

-- each variable has the value of its form
abbrev pub Fits : List Parts → Valuation → Type 0
Fits forms x = (k : ℕ) → k < length forms → x k ≡ sum_at x (form_at forms k)

-- each variable has the value of its combination
abbrev pub Meets : List (List Entry) → Valuation → Type 0
Meets lines x = (k : ℕ) → k < length lines → x k ≡ combine x (line_at lines k)

-- a variable is free where it is its own combination
pub record IsFree (lines : List (List Entry)) (j : ℕ) : Type 0 where
  pub inside : j < length lines
  pub own : (i : ℕ) → factor_of (line_at lines j) i ≡ unit i j

-- as many variables are free as there are terms: one for each number below that of the terms, each once
pub record AreCounted (terms : ℕ) (lines : List (List Entry)) : Type 0 where
  pub free_at : ℕ → ℕ
  pub free : (t : ℕ) → t < terms → IsFree lines (free_at t)
  pub all : (j : ℕ) → IsFree lines j → (t : ℕ) × (t < terms) × (free_at t ≡ j)
  pub once : (t u : ℕ) → t < terms → u < terms → free_at t ≡ free_at u → t ≡ u

-- what the forms are at a valuation of the terms
abbrev pub form_values : List Parts → Valuation → Valuation
form_values forms v k = sum_at v (form_at forms k)

-- the forms of a system: the terms first, and forms over the terms, in their normal form and each once
pub record AreForms (terms : ℕ) (forms : List Parts) : Type 0 where
  pub terms_in : terms ≤ length forms
  pub named : (t : ℕ) → t < terms → form_at forms t ≡ (t, pos 1) ∷ []
  pub below : (k : ℕ) → TermsBelow terms (form_at forms k)
  pub normal : (k : ℕ) → k < length forms → IsNormal (form_at forms k)
  pub once : (j k : ℕ) → j < length forms → k < length forms → form_at forms j ≡ form_at forms k → j ≡ k

-- the combinations: each is of free variables alone, and they say the same as the forms
pub record AreLines (forms : List Parts) (lines : List (List Entry)) : Type 0 where
  pub same : length lines ≡ length forms
  pub line : (k : ℕ) → IsLine (line_at lines k)
  pub free : (k j : ℕ) → (factor_of (line_at lines k) j ≡ whole (pos 0)) ⊎ IsFree lines j
  pub meets : (x : Valuation) → Fits forms x → Meets lines x
  pub fits : (x : Valuation) → Meets lines x → Fits forms x

pub record IsSystem (s : System) : Type 0 where
  pub are_forms : AreForms s.terms s.forms
  pub are_lines : AreLines s.forms s.lines
  pub counted : AreCounted s.terms s.lines
  pub valued : length s.values ≡ length s.forms
  pub values : Meets s.lines (valuation_of s.values)

-- a list of forms goes on with further ones
abbrev pub GoesOn : List Parts → List Parts → Type 0
GoesOn old new = (k : ℕ) → k < length old → (k < length new) × (form_at new k ≡ form_at old k)

-- the line after a change, if there is one
abbrev pub after : Option (List Entry) → List Entry → List Entry
after (Some line) old = line
after None old = old

abbrev pub change_at : List (Option (List Entry)) → ℕ → Option (List Entry)
change_at changed k = slice_index_or changed k None

-- so many times a combination was added to a line as it has of the variable
pub record IsChange (old : List Entry) (variable : ℕ) (zero : List Entry) (new : Option (List Entry)) : Type 0 where
  pub sum : (x : Valuation) → combine x (after new old) ≡ combine x old +ℚ factor_of old variable *ℚ combine x zero
  pub line : IsLine (after new old)

-- it was added to each line
pub record IsAdded (lines : List (List Entry)) (variable : ℕ) (zero : List Entry) (changed : List (Option (List Entry))) : Type 0 where
  pub same : length changed ≡ length lines
  pub sum : (k : ℕ) (x : Valuation) → k < length lines
      → combine x (after (change_at changed k) (line_at lines k)) ≡ combine x (line_at lines k) +ℚ factor_of (line_at lines k) variable *ℚ combine x zero
  pub line : (k : ℕ) → IsLine (after (change_at changed k) (line_at lines k))

abbrev pub IsShifted : List (List Entry) → List Frac → ℕ → ℚ → List Frac → Type 0
IsShifted lines old variable by new =
    (length new ≡ length lines) × ((k : ℕ) → k < length lines → valuation_of new k ≡ valuation_of old k +ℚ factor_of (line_at lines k) variable *ℚ by)
