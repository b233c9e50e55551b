-- Rows with tags, and what contradicts them.
use Rattle.std.specs.Prelude.{◌≡◌, ◌≢◌, ℕ, pos, List, [], ◌∷◌, All, Option, Some, None, ◌==◌, if◌then◌else◌, MatchBool}
use Rattle.lq_base_numbers.specs.Rationals.Rational.{ℚ, whole, ◌+ℚ◌, ◌*ℚ◌}
use Rattle.lq_base_numbers.specs.Rationals.RationalOrder.{◌<ℚ◌, NotNegative}
use Rattle.lq_logic_rows.specs.Row.{Row, Valuation, level, RowHolds}

-- rows, each with its tag
abbrev pub Tagged : Type 0
Tagged = List (ℕ × Row)

abbrev pub Solves : Valuation → Tagged → Type 0
Solves v [] = Unit {0}
Solves v (r ∷ rows) = RowHolds v r.1 × Solves v rows

-- the first row with this tag
abbrev pub tagged : Tagged → ℕ → Option Row
tagged [] tag = None
tagged (r ∷ rows) tag = if r.0 == tag then Some r.1 else tagged rows tag

-- one multiplier names a row that stands, and isn't negative unless the row is an equation
abbrev pub IsFair : Option Row → ℚ → Type 0
IsFair None m = ⊥
IsFair (Some row) m = MatchBool row.equal (Unit {0}) (NotNegative m)

abbrev pub AllFair : Tagged → List (ℕ × ℚ) → Type 0
AllFair rows [] = Unit {0}
AllFair rows (m ∷ ms) = IsFair (tagged rows m.0) m.1 × AllFair rows ms

-- each tag is named at most once
abbrev pub NamesOnce : List (ℕ × ℚ) → Type 0
NamesOnce [] = Unit {0}
NamesOnce (m ∷ ms) = All (λ other. other.0 ≢ m.0) ms × NamesOnce ms

abbrev pub level_of : Valuation → Option Row → ℚ
level_of v None = whole (pos 0)
level_of v (Some row) = level v row

-- the sum of the named rows, each times its multiplier
abbrev pub weighted : Valuation → Tagged → List (ℕ × ℚ) → ℚ
weighted v rows [] = whole (pos 0)
weighted v rows (m ∷ ms) = m.1 *ℚ level_of v (tagged rows m.0) +ℚ weighted v rows ms

-- The sum is one number above 0, whatever the valuation: the rows sum to `0 <= -c` with c above 0.
pub record IsContradiction (rows : Tagged) (ms : List (ℕ × ℚ)) : Type 0 where
  pub fair : AllFair rows ms
  pub once : NamesOnce ms
  pub gap : ℚ
  pub above : whole (pos 0) <ℚ gap
  pub sum : (v : Valuation) → weighted v rows ms ≡ gap
