-- The variables of n terms and a list of rows: the terms, then the rows' forms of two or more terms, by first appearance.
use Rattle.std.specs.Prelude.{◌≡◌, ◌≢◌, ℕ, pos, ◌<◌, ◌≤◌, List, [], ◌∷◌, Some, Contains, length, slice_get}
use Rattle.lq_logic_rows.specs.Row.{Row}
use Rattle.lq_logic_rows.specs.Forms.{IsNormal, IsMultiple}
use Rattle.lq_prover_pivots.specs.Pivots.Rows.{Variables, size, form}

-- the row is a multiple of the variable's form
abbrev pub IsOf : Variables → ℕ → Row → Type 0
IsOf vs k row = IsMultiple (form vs k) row.parts

-- the row at this place is a multiple of the variable's form
abbrev pub ComesAt : Variables → List Row → ℕ → ℕ → Type 0
ComesAt vs rows k i = (row : Row) × (slice_get rows i ≡ Some row) × IsOf vs k row

-- the terms come first, each form is normal and stands once, each row with terms has its variable, and each further variable is the form
-- of two or more terms of a row; a smaller one comes earlier in the list
pub record AreVariables (rows : List Row) (vs : Variables) : Type 0 where
  pub terms_in : vs.terms ≤ size vs
  pub named : (t : ℕ) → t < vs.terms → form vs t ≡ (t, pos 1) ∷ []
  pub normal : (k : ℕ) → k < size vs → IsNormal (form vs k)
  pub once : (j k : ℕ) → j < size vs → k < size vs → form vs j ≡ form vs k → j ≡ k
  pub has : (row : Row) → Contains rows row → row.parts ≢ [] → (k : ℕ) × (k < size vs) × IsOf vs k row
  pub longer : (k : ℕ) → vs.terms ≤ k → k < size vs → 2 ≤ length (form vs k)
  pub comes : (k : ℕ) → vs.terms ≤ k → k < size vs → (i : ℕ) × ComesAt vs rows k i
  pub ordered : (j k i : ℕ) → vs.terms ≤ j → j < k → k < size vs → ComesAt vs rows k i → (h : ℕ) × (h < i) × ComesAt vs rows j h
