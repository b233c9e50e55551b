-- Why a variable can't be brought to its bound.
use Rattle.std.specs.Prelude.{◌≡◌, ℕ, pos, Bool, not, List, Some, slice_get, IfSome, length, ◌<◌}
use Rattle.lq_base_numbers.specs.Rationals.Rational.{ℚ, whole, neg_ℚ}
use Rattle.lq_base_numbers.specs.Fractions.Value.{value_of}
use Rattle.lq_logic_rows.specs.Row.{Valuation, sum_at}
use Rattle.lq_logic_rows.specs.Steps.{valuation_of}
use Rattle.lq_prover_simplex.specs.declared.line.Entry.{Entry}
use Rattle.lq_prover_simplex.specs.declared.row.Standing.{Standing}
use Rattle.lq_logic_rows.specs.declared.bound.Side.{Side}
use Rattle.lq_logic_rows.specs.declared.bound.Side.TheVariants.{Lower, Upper}
use Rattle.lq_prover_simplex.specs.declared.limits.Broken.{Broken}
use Rattle.lq_prover_simplex.specs.declared.limits.Limit.{Limit}
use Rattle.lq_prover_simplex.specs.Lines.{combine, IsLine}
use Rattle.lq_logic_rows.specs.Forms.{Parts}
use Rattle.lq_prover_simplex.specs.Systems.{System, IsSystem, form_at, form_values}
use Rattle.lq_prover_simplex.specs.Standing.{AllRead, TagsApart}
use Rattle.lq_prover_simplex.specs.Bounds.{Limits, limit_at, Keeps, IsLimit, Breaks, AllBlocked}

-- a number for the lower side, its negation for the upper
abbrev pub toward : Side → ℚ → ℚ
toward Lower x = x
toward Upper x = neg_ℚ x

-- whether the multiplier of a row has the other sign than its factor
abbrev pub negates : Side → Bool → Bool
negates Lower turned = turned
negates Upper turned = not turned

abbrev pub AllGiven : List Standing → Limits → Type 0
AllGiven rows limits = (side : Side) (k : ℕ) → IfSome (limit_at limits side k) (IsLimit rows side k)

-- each variable of a system keeps to its bounds
pub record AllKeep (limits : Limits) (s : System) : Type 0 where
  pub system : IsSystem s
  pub keeps : (k : ℕ) → k < length s.forms → (side : Side) → Keeps side (valuation_of s.values k) (limit_at limits side k)

-- the tag is that of the row that gives the limit
pub record Names (rows : List Standing) (tag : ℕ) (l : Limit) : Type 0 where
  pub standing : Standing
  pub stands : slice_get rows l.row ≡ Some standing
  pub gives : standing.bound ≡ Some l.bound
  pub is : standing.tag ≡ tag

-- the variable is the combination at every valuation, breaks its bound, and each entry keeps it from there
pub record IsKept (rows : List Standing) (limits : Limits) (broken : Broken) (line : List Entry) : Type 0 where
  pub forms : List Parts
  pub read : AllRead forms rows
  pub apart : TagsApart rows
  pub given : AllGiven rows limits
  pub values : Valuation
  pub breaks : Breaks limits (combine values line) broken
  pub blocked : AllBlocked limits broken.side values line
  pub ascends : IsLine line
  pub sum : (v : Valuation) → sum_at v (form_at forms broken.variable) ≡ combine (form_values forms v) line
  pub own : (k : ℕ) (e : Entry) → slice_get line k ≡ Some e → e.variable ≡ broken.variable → (value_of e.factor ≡ whole (pos 1)) × (combine values line ≡ values e.variable)
