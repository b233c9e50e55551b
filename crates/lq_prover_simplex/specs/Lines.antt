-- Linear combinations of variables.
use Rattle.std.specs.Prelude.{◌≡◌, ◌==◌, if◌then◌else◌, ℕ, zero, suc, pos, ◌≤◌, ◌<◌, Bool, false, List, [], ◌∷◌, ◌++◌, Option, Some, None, length, ◌≢◌, ◌+◌, slice_get}
use Rattle.lq_base_numbers.specs.Rationals.Rational.{ℚ, whole, ◌+ℚ◌, ◌*ℚ◌}
use Rattle.lq_base_numbers.specs.declared.fractions.frac.Frac.{Frac}
use Rattle.lq_base_numbers.specs.Fractions.Value.{value_of}
use Rattle.lq_logic_rows.specs.Row.{Valuation}
use Rattle.lq_prover_simplex.specs.declared.line.Entry.{Entry}

abbrev pub combine : Valuation → List Entry → ℚ
combine x [] = whole (pos 0)
combine x (e ∷ es) = value_of e.factor *ℚ x e.variable +ℚ combine x es

-- 1 at one variable, 0 elsewhere
abbrev pub unit : ℕ → Valuation
unit k j = if k == j then whole (pos 1) else whole (pos 0)

abbrev pub factor_of : List Entry → ℕ → ℚ
factor_of es k = combine (unit k) es

-- the variables ascend, each at least `low`, and no factor is 0
abbrev pub AscendsFrom : ℕ → List Entry → Type 0
AscendsFrom low [] = Unit {0}
AscendsFrom low (e ∷ es) = (low ≤ e.variable) × (¬ (value_of e.factor ≡ whole (pos 0))) × AscendsFrom (suc e.variable) es

abbrev pub IsLine : List Entry → Type 0
IsLine es = AscendsFrom 0 es

-- the variable at a place, and 0 past the last
abbrev pub variable_at : List Entry → ℕ → ℕ
variable_at [] i = 0
variable_at (e ∷ es) zero = e.variable
variable_at (e ∷ es) (suc i) = variable_at es i

-- what stands at a place of this variable, and the place after it
abbrev pub IsHead : List Entry → ℕ → ℕ → Option Frac → ℕ → Type 0
IsHead es at variable None next = (next ≡ at) × (at < length es → variable_at es at ≢ variable)
IsHead es at variable (Some factor) next = (next ≡ at + 1) × (slice_get es at ≡ Some (record { variable = variable; factor = factor }))

-- one variable alone, once
pub record IsOwnLine (variable : ℕ) (line : List Entry) : Type 0 where
  pub factor : Frac
  pub is : line ≡ (record { variable = variable; factor = factor }) ∷ []
  pub one : value_of factor ≡ whole (pos 1)

-- one variable alone stands in the line, and it is this one
abbrev pub owns : List Entry → ℕ → Bool
owns [] variable = false
owns (e ∷ []) variable = e.variable == variable
owns (e ∷ f ∷ es) variable = false

abbrev pub VariablesBelow : ℕ → List Entry → Type 0
VariablesBelow n [] = Unit {0}
VariablesBelow n (e ∷ es) = (e.variable < n) × VariablesBelow n es

-- an entry was added, or its factor is 0
pub data IsPut (old : List Entry) (variable : ℕ) (factor : Frac) (new : List Entry) : Type 0 where
  added : ¬ (value_of factor ≡ whole (pos 0)) → new ≡ old ++ (record { variable = variable; factor = factor }) ∷ [] → IsPut old variable factor new
  left_out : value_of factor ≡ whole (pos 0) → new ≡ old → IsPut old variable factor new
