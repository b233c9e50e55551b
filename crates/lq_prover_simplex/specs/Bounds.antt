-- The tightest bounds of variables.
use Rattle.std.specs.Prelude.{◌≡◌, if◌then◌else◌, ℕ, pos, ◌<◌, ◌⊎◌, Bool, true, false, List, [], ◌∷◌, Option, Some, None, slice_get, slice_index_or, IfSome}
use Rattle.lq_base_numbers.specs.Rationals.Rational.{ℚ, whole}
use Rattle.lq_base_numbers.specs.Rationals.RationalOrder.{◌≤ℚ◌}
use Rattle.lq_base_numbers.specs.Rationals.OrderLaws.{is_at_most}
use Rattle.lq_base_numbers.specs.Fractions.Value.{value_of}
use Rattle.lq_logic_rows.specs.Row.{Valuation}
use Rattle.lq_prover_simplex.specs.declared.line.Entry.{Entry}
use Rattle.lq_prover_simplex.specs.declared.row.Bound.{Bound}
use Rattle.lq_prover_simplex.specs.declared.row.Standing.{Standing}
use Rattle.lq_logic_rows.specs.declared.bound.Side.{Side}
use Rattle.lq_logic_rows.specs.declared.bound.Side.TheVariants.{Lower, Upper}
pub use Rattle.lq_logic_rows.specs.Bounds.{other, Within, Beyond}
use Rattle.lq_prover_simplex.specs.declared.limits.Limit.{Limit}
use Rattle.lq_prover_simplex.specs.declared.limits.Interval.{Interval}
pub use Rattle.lq_prover_simplex.specs.declared.limits.Limits.{Limits}
use Rattle.lq_prover_simplex.specs.declared.limits.Broken.{Broken}

-- a row bounds its variable on this side
abbrev pub IsOn : Side → Bool → Bool → Type 0
IsOn Lower equal turned = (equal ≡ true) ⊎ (turned ≡ true)
IsOn Upper equal turned = (equal ≡ true) ⊎ (turned ≡ false)

abbrev pub limit_of : Interval → Side → Option Limit
limit_of i Lower = i.lower
limit_of i Upper = i.upper

abbrev pub unlimited : Interval
unlimited = record { lower = None; upper = None }

-- a variable without a place has no limits
abbrev pub interval_in : List Interval → ℕ → Interval
interval_in intervals k = slice_index_or intervals k unlimited

abbrev pub interval_at : Limits → ℕ → Interval
interval_at limits k = interval_in limits.intervals.items k

abbrev pub limit_at : Limits → Side → ℕ → Option Limit
limit_at limits side k = limit_of (interval_at limits k) side

abbrev pub bound_value : Limit → ℚ
bound_value l = value_of l.bound.value

-- the limit is the bound that a row that stands gives the variable on this side
pub record IsLimit (rows : List Standing) (side : Side) (variable : ℕ) (l : Limit) : Type 0 where
  pub standing : Standing
  pub stands : slice_get rows l.row ≡ Some standing
  pub gives : standing.bound ≡ Some l.bound
  pub bounds : l.bound.variable ≡ variable
  pub on : IsOn side standing.row.equal l.bound.turned

abbrev pub Covers : Side → Option Limit → ℚ → Type 0
Covers side None bound = ⊥
Covers side (Some l) bound = Within side (bound_value l) bound

-- a limit, after a row's bound has come
pub record IsAdmitted (side : Side) (old : Option Limit) (row : ℕ) (equal : Bool) (b : Bound) (new : Option Limit) : Type 0 where
  pub given : (l : Limit) → new ≡ Some l → (old ≡ Some l) ⊎ ((l ≡ record { row = row; bound = b }) × IsOn side equal b.turned)
  pub covers : IsOn side equal b.turned → Covers side new (value_of b.value)
  pub kept : (v : ℚ) → Covers side old v → Covers side new v

-- the interval of a variable, after a row's bound has come
abbrev pub IsNarrowed : Interval → ℕ → Bool → Bound → Interval → Type 0
IsNarrowed old row equal b new = (side : Side) → IsAdmitted side (limit_of old side) row equal b (limit_of new side)

-- each limit is given by a row, and each row's bound on a side is no tighter than the limit there
pub record AreTightest (rows : List Standing) (intervals : ℕ → Interval) : Type 0 where
  pub given : (side : Side) (k : ℕ) → IfSome (limit_of (intervals k) side) (IsLimit rows side k)
  pub tight : (side : Side) (j : ℕ) (s : Standing) (b : Bound) → slice_get rows j ≡ Some s → s.bound ≡ Some b → IsOn side s.row.equal b.turned
      → Covers side (limit_of (intervals b.variable) side) (value_of b.value)

-- the value keeps to the limit
abbrev pub Keeps : Side → ℚ → Option Limit → Type 0
Keeps side value None = Unit {0}
Keeps side value (Some l) = Within side value (bound_value l)

-- the lower bound of the variable isn't above its upper one
abbrev pub IsUncrossed : Limits → ℕ → Type 0
IsUncrossed limits k = (lower upper : Limit) → limit_at limits Lower k ≡ Some lower → limit_at limits Upper k ≡ Some upper → bound_value lower ≤ℚ bound_value upper

abbrev pub AreUncrossed : Limits → ℕ → Type 0
AreUncrossed limits n = (k : ℕ) → k < n → IsUncrossed limits k

-- the variable breaks its limit
pub record Breaks (limits : Limits) (value : ℚ) (b : Broken) : Type 0 where
  pub limit : limit_at limits b.side b.variable ≡ Some b.limit
  pub beyond : Beyond b.side value (bound_value b.limit)

-- on which side an entry's variable has to have a bound to keep the sum from its bound on the given side
abbrev pub blocking_of : Side → ℚ → Side
blocking_of side factor = if is_at_most factor (whole (pos 0)) then side else other side

-- the entry's variable is at its limit on that side, or past it
pub record IsBlocked (limits : Limits) (side : Side) (x : Valuation) (e : Entry) : Type 0 where
  pub limit : Limit
  pub is : limit_at limits (blocking_of side (value_of e.factor)) e.variable ≡ Some limit
  pub past : Within (other (blocking_of side (value_of e.factor))) (x e.variable) (bound_value limit)

abbrev pub AllBlocked : Limits → Side → Valuation → List Entry → Type 0
AllBlocked limits side x [] = Unit {0}
AllBlocked limits side x (e ∷ line) = IsBlocked limits side x e × AllBlocked limits side x line
