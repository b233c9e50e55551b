-- The rows that stand, and what each says of its variable.
use Rattle.std.specs.Prelude.{◌≡◌, ◌≢◌, ℕ, ℤ, pos, ◌<◌, Bool, true, false, List, [], ◌∷◌, Option, Some, None, length, MatchBool}
use Rattle.lq_base_numbers.specs.Rationals.RationalOrder.{◌≤ℚ◌}
use Rattle.std.specs.Int.Signed.{◌<ℤ◌}
use Rattle.lq_base_numbers.specs.Rationals.Rational.{ℚ, whole, ◌-ℚ◌, ◌*ℚ◌, neg_ℚ}
use Rattle.lq_base_numbers.specs.declared.fractions.frac.Frac.{Frac}
use Rattle.lq_base_numbers.specs.Fractions.Value.{value_of}
use Rattle.lq_logic_rows.specs.Row.{Row, Valuation, level, sum_at}
use Rattle.lq_logic_rows.specs.Contradiction.{Tagged}
use Rattle.lq_prover_simplex.specs.declared.row.Bound.{Bound}
use Rattle.lq_prover_simplex.specs.declared.row.Standing.{Standing}
use Rattle.lq_logic_rows.specs.Forms.{Parts, times, AreMultiples}
use Rattle.lq_prover_simplex.specs.RowParts.{turned_by}
use Rattle.lq_prover_simplex.specs.Systems.{form_at}

abbrev pub standing_of : List Standing → Tagged
standing_of [] = []
standing_of (s ∷ rows) = (s.tag, s.row) ∷ standing_of rows

abbrev pub multiplier_of : ℕ × Frac → ℕ × ℚ
multiplier_of m = (m.0, value_of m.1)

abbrev pub multipliers_of : List (ℕ × Frac) → List (ℕ × ℚ)
multipliers_of [] = []
multipliers_of (m ∷ ms) = multiplier_of m ∷ multipliers_of ms

abbrev pub signed : Bool → ℚ → ℚ
signed true x = neg_ℚ x
signed false x = x

-- what the row has for each unit by which its variable is above the bound
abbrev pub scale_of : Bound → ℚ
scale_of b = signed b.turned (whole b.divisor)

-- by which the form of its variable is multiplied in the row
abbrev pub multiple_of : Bound → ℤ
multiple_of b = turned_by b.turned b.divisor

-- the row is a multiple of the variable's form, and is read "so many times the variable minus the bound"
pub record ReadsAs (forms : List Parts) (row : Row) (b : Bound) : Type 0 where
  pub inside : b.variable < length forms
  pub form : AreMultiples row.parts (form_at forms b.variable)
  pub scaled : row.parts ≡ times (multiple_of b) (form_at forms b.variable)
  pub divides : pos 0 <ℤ b.divisor
  pub level : (v : Valuation) → level v row ≡ scale_of b *ℚ (sum_at v (form_at forms b.variable) -ℚ value_of b.value)

abbrev pub ReadsBy : List Parts → Row → Option Bound → Type 0
ReadsBy forms row None = row.parts ≡ []
ReadsBy forms row (Some b) = ReadsAs forms row b

abbrev pub Reads : List Parts → Standing → Type 0
Reads forms s = ReadsBy forms s.row s.bound

abbrev pub AllRead : List Parts → List Standing → Type 0
AllRead forms [] = Unit {0}
AllRead forms (s ∷ rows) = Reads forms s × AllRead forms rows

-- a row without terms holds
abbrev pub BareHolds : Row → Option Bound → Type 0
BareHolds row None = MatchBool row.equal (whole row.constant ≡ whole (pos 0)) (whole row.constant ≤ℚ whole (pos 0))
BareHolds row (Some b) = Unit {0}

abbrev pub AllBare : List Standing → Type 0
AllBare [] = Unit {0}
AllBare (s ∷ rows) = BareHolds s.row s.bound × AllBare rows

-- no tag stands twice
abbrev pub HasNoTag : ℕ → List Standing → Type 0
HasNoTag tag [] = Unit {0}
HasNoTag tag (s ∷ rows) = (s.tag ≢ tag) × HasNoTag tag rows

abbrev pub TagsApart : List Standing → Type 0
TagsApart [] = Unit {0}
TagsApart (s ∷ rows) = HasNoTag s.tag rows × TagsApart rows

-- the bound is of a variable below n
abbrev pub BoundBelow : ℕ → Option Bound → Type 0
BoundBelow n None = Unit {0}
BoundBelow n (Some b) = b.variable < n
