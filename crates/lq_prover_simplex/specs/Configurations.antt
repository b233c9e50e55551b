-- Which variables are free, and what each of these rests on.
use Rattle.std.specs.Prelude.{◌≡◌, ◌≢◌, ◌↔◌, ℕ, pos, ◌<◌, ◌≤◌, ◌⊎◌, List, [], ◌∷◌, Some, All, Contains, length, slice_get}
use Rattle.lq_base_numbers.specs.Rationals.Rational.{ℚ, whole}
use Rattle.lq_base_numbers.specs.Fractions.Value.{value_of}
use Rattle.lq_logic_rows.specs.Row.{Row, Valuation}
use Rattle.lq_logic_rows.specs.Steps.{valuation_of}
use Rattle.lq_prover_simplex.specs.declared.line.Entry.{Entry}
use Rattle.lq_prover_simplex.specs.declared.row.Bound.{Bound}
use Rattle.lq_prover_simplex.specs.declared.row.Standing.{Standing}
use Rattle.lq_logic_rows.specs.declared.bound.Side.{Side}
use Rattle.lq_prover_simplex.specs.declared.limits.Limit.{Limit}
use Rattle.lq_prover_simplex.specs.Lines.{combine}
use Rattle.lq_logic_rows.specs.Forms.{Parts, IsNormal, AreMultiples}
use Rattle.lq_prover_simplex.specs.Systems.{System, form_at, line_at, form_values, IsFree, AreCounted}
use Rattle.lq_prover_simplex.specs.Standing.{ReadsAs}
use Rattle.lq_prover_simplex.specs.Bounds.{Limits, limit_at, bound_value, Keeps}

-- a point at which the free variables have the values that were chosen
pub record IsChosen (s : System) (choice : Valuation) : Type 0 where
  pub point : Valuation
  pub meets : (j : ℕ) → IsFree s.lines j → form_values s.forms point j ≡ choice j

-- the terms come first, each form is normal, no two variables have one form, and rows that are multiples of one another bound one variable;
-- as many variables are free as there are terms, each variable is at every point the combination of free ones that its line says, the free
-- ones can be chosen freely, and the values are those at a point
pub record IsConfiguration (s : System) : Type 0 where
  pub terms_in : s.terms ≤ length s.forms
  pub named : (t : ℕ) → t < s.terms → form_at s.forms t ≡ (t, pos 1) ∷ []
  pub normal : (k : ℕ) → k < length s.forms → IsNormal (form_at s.forms k)
  pub once : (j k : ℕ) → j < length s.forms → k < length s.forms → form_at s.forms j ≡ form_at s.forms k → j ≡ k
  pub shared : (row other : Row) (j k : ℕ) → j < length s.forms → k < length s.forms → AreMultiples row.parts (form_at s.forms j)
      → AreMultiples other.parts (form_at s.forms k) → AreMultiples row.parts other.parts → j ≡ k
  pub counted : AreCounted s.terms s.lines
  pub over_free : (k at : ℕ) (e : Entry) → slice_get (line_at s.lines k) at ≡ Some e → IsFree s.lines e.variable
  pub combined : (point : Valuation) (k : ℕ) → k < length s.forms → form_values s.forms point k ≡ combine (form_values s.forms point) (line_at s.lines k)
  pub chosen : (choice : Valuation) → IsChosen s choice
  pub valued : (k : ℕ) → k < length s.forms → valuation_of s.values k ≡ form_values s.forms (valuation_of s.values) k

-- the row bounds the variable by this value
pub record Gives (forms : List Parts) (variable : ℕ) (x : ℚ) (row : Row) : Type 0 where
  pub bound : Bound
  pub reads : ReadsAs forms row bound
  pub bounds : bound.variable ≡ variable
  pub is : value_of bound.value ≡ x

-- one of the rows bounds the variable by this value
pub record IsGiven (rows : List Row) (forms : List Parts) (variable : ℕ) (x : ℚ) : Type 0 where
  pub row : Row
  pub there : Contains rows row
  pub gives : Gives forms variable x row

-- each free variable has the value 0 or a bound that one of the rows gives it
abbrev pub Rests : List Row → System → Type 0
Rests rows s = (j : ℕ) → IsFree s.lines j → (valuation_of s.values j ≡ whole (pos 0)) ⊎ IsGiven rows s.forms j (valuation_of s.values j)

-- each row that stands is one of the rows
abbrev pub AllAmong : List Row → List Standing → Type 0
AllAmong rows standing = All (λ s. Contains rows s.row) standing

-- the variable was free before, with the value that it has now
abbrev pub Stays : System → System → ℕ → Type 0
Stays old new j = IsFree old.lines j × (valuation_of new.values j ≡ valuation_of old.values j)

-- what is free now was so before, with the same value
abbrev pub AllStay : System → System → Type 0
AllStay old new = (j : ℕ) → IsFree new.lines j → Stays old new j

-- what is free now is the variable, with this value, or another that was free before, with the same value
abbrev pub Brings : System → System → ℕ → ℚ → Type 0
Brings old new variable x = (j : ℕ) → IsFree new.lines j → ((j ≡ variable) × (valuation_of new.values j ≡ x)) ⊎ ((j ≢ variable) × Stays old new j)

-- the leaving variable is free now, with this value, and the entering one isn't; each other one is free exactly where it was, with the
-- value that it had
pub record Exchanges (old new : System) (leaving entering : ℕ) (x : ℚ) : Type 0 where
  pub left : IsFree new.lines leaving
  pub takes : valuation_of new.values leaving ≡ x
  pub entered : ¬ (IsFree new.lines entering)
  pub others : (j : ℕ) → j ≢ leaving → j ≢ entering → IsFree new.lines j ↔ IsFree old.lines j
  pub stays : (j : ℕ) → IsFree old.lines j → j ≢ entering → valuation_of new.values j ≡ valuation_of old.values j

-- the value is a bound of the variable
pub record IsAtLimit (limits : Limits) (variable : ℕ) (x : ℚ) : Type 0 where
  pub side : Side
  pub limit : Limit
  pub is : limit_at limits side variable ≡ Some limit
  pub at : x ≡ bound_value limit

-- no free variable breaks a bound
abbrev pub FreeKeep : Limits → System → Type 0
FreeKeep limits s = (j : ℕ) → j < length s.forms → IsFree s.lines j → (side : Side) → Keeps side (valuation_of s.values j) (limit_at limits side j)

-- what is free now is at a bound, or was free before, with the same value
abbrev pub Settles : Limits → System → System → Type 0
Settles limits old new = (j : ℕ) → IsFree new.lines j → IsAtLimit limits j (valuation_of new.values j) ⊎ Stays old new j
