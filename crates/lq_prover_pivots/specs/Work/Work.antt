-- The work of a tableau at a configuration: each operation on fractions that it does, with its operands. Sums are formed member by
-- member, each product before its sum.
use Rattle.std.specs.Prelude.{◌≡◌, ℕ, ℤ, pos, ◌*◌, ◌^◌, ◌<◌, ◌≤◌, ◌⊎◌, ◌==◌, if◌then◌else◌, neg_ℤ, List, Some, Contains, take, slice_get, unsigned_abs}
use Rattle.lq_base_numbers.specs.Rationals.Rational.{ℚ, whole, ◌-ℚ◌, ◌*ℚ◌, neg_ℚ}
use Rattle.lq_base_numbers.specs.Rationals.RationalQuotient.{◌/ℚ◌}
use Rattle.lq_base_numbers.specs.declared.fractions.past.NumOp.{NumOp}
use Rattle.lq_base_numbers.specs.declared.fractions.past.NumOp.TheVariants.{Add, Sub, Mul, Div, Neg}
use Rattle.lq_logic_rows.specs.Row.{Row, Valuation, sum_at}
use Rattle.lq_logic_rows.specs.Steps.{IsStep}
use Rattle.lq_logic_rows.specs.declared.bound.Side.{Side}
use Rattle.lq_prover_pivots.specs.Pivots.Rows.{Variables, size, form, Gives}
use Rattle.lq_prover_pivots.specs.Pivots.Configurations.{Configuration, Free}
use Rattle.lq_prover_pivots.specs.Work.Sizes.{IsDivisor, largest_constant, sum_of_constants}

-- ---- rows

-- a row's constant and its coefficients are negated, and its bound is the constant, or its negation, over the divisor
pub data IsReading (rows : List Row) : NumOp → ℚ → ℚ → Type 0 where
  negated_constant : (row : Row) → Contains rows row → IsReading rows Neg (whole row.constant) (whole row.constant)
  negated_coefficient : (row : Row) (k term : ℕ) (coefficient : ℤ) → Contains rows row → slice_get row.parts k ≡ Some (term, coefficient)
      → IsReading rows Neg (whole coefficient) (whole coefficient)
  bound : (row : Row) (g : ℕ) (z : ℤ) → Contains rows row → IsDivisor row.parts g → (z ≡ row.constant) ⊎ (z ≡ neg_ℤ row.constant)
      → IsReading rows Div (whole z) (whole (pos g))

-- ---- entries

-- the entry of a variable at a free one: a free variable has itself as its combination, with the entry 1
abbrev pub entry_of : Configuration → ℕ → ℕ → ℚ
entry_of c k j = if c.is_free k then (if k == j then whole (pos 1) else whole (pos 0)) else c.entry k j

pub record IsEntry (vs : Variables) (c : Configuration) (x : ℚ) : Type 0 where
  pub variable : ℕ
  pub free : ℕ
  pub inside : variable < size vs
  pub is_free : Free vs c free
  pub is : x ≡ entry_of c variable free

abbrev pub IsOneOrEntry : Variables → Configuration → ℚ → Type 0
IsOneOrEntry vs c x = (x ≡ whole (pos 1)) ⊎ IsEntry vs c x

-- ---- forms

-- the parts of a form at these values: each member, and the sum of the members before it with it
pub data IsSumming (v : Valuation) (vs : Variables) (k : ℕ) : NumOp → ℚ → ℚ → Type 0 where
  product : (i term : ℕ) (coefficient : ℤ) → slice_get (form vs k) i ≡ Some (term, coefficient) → IsSumming v vs k Mul (whole coefficient) (v term)
  sum : (i term : ℕ) (coefficient : ℤ) → slice_get (form vs k) i ≡ Some (term, coefficient)
      → IsSumming v vs k Add (sum_at v (take i (form vs k))) (whole coefficient *ℚ v term)

-- a form's coefficients times the entries of its terms at a free variable, or times their values
pub data IsForming (vs : Variables) (c : Configuration) (op : NumOp) (x y : ℚ) : Type 0 where
  entries : (k j : ℕ) → k < size vs → Free vs c j → IsSumming (λ t. entry_of c t j) vs k op x y → IsForming vs c op x y
  values : (k : ℕ) → k < size vs → IsSumming c.value vs k op x y → IsForming vs c op x y

-- ---- exchanges

-- the quotient of 1 or of an entry by an entry
pub record IsQuotient (vs : Variables) (c : Configuration) (q : ℚ) : Type 0 where
  pub left : ℚ
  pub right : ℚ
  pub dividend : IsOneOrEntry vs c left
  pub divisor : IsEntry vs c right
  pub apart : ¬ (right ≡ whole (pos 0))
  pub is : q ≡ left /ℚ right

-- such a quotient or its negation
abbrev pub IsSignedQuotient : Variables → Configuration → ℚ → Type 0
IsSignedQuotient vs c q = IsQuotient vs c q ⊎ ((p : ℚ) × IsQuotient vs c p × (q ≡ neg_ℚ p))

-- quotients of entries, their negations, their products with entries, and sums and differences of an entry and such a product
pub data IsExchanging (vs : Variables) (c : Configuration) : NumOp → ℚ → ℚ → Type 0 where
  quotient : (x y : ℚ) → IsOneOrEntry vs c x → IsEntry vs c y → ¬ (y ≡ whole (pos 0)) → IsExchanging vs c Div x y
  negation : (q : ℚ) → IsQuotient vs c q → IsExchanging vs c Neg q q
  left_product : (q e : ℚ) → IsSignedQuotient vs c q → IsEntry vs c e → IsExchanging vs c Mul q e
  right_product : (q e : ℚ) → IsSignedQuotient vs c q → IsEntry vs c e → IsExchanging vs c Mul e q
  sum : (x q e : ℚ) → IsEntry vs c x → IsSignedQuotient vs c q → IsEntry vs c e → IsExchanging vs c Add x (q *ℚ e)
  difference : (x q e : ℚ) → IsEntry vs c x → IsSignedQuotient vs c q → IsEntry vs c e → IsExchanging vs c Sub x (q *ℚ e)

-- ---- moves

-- a value of the configuration, or a bound that a row gives
pub data IsPlace (vs : Variables) (rows : List Row) (c : Configuration) (x : ℚ) : Type 0 where
  value : (k : ℕ) → k < size vs → x ≡ c.value k → IsPlace vs rows c x
  bound : (side : Side) (k : ℕ) → Gives vs rows side k x → IsPlace vs rows c x

-- the difference of two of these, or its quotient by an entry
pub data IsWay (vs : Variables) (rows : List Row) (c : Configuration) (x : ℚ) : Type 0 where
  difference : (u v : ℚ) → IsPlace vs rows c u → IsPlace vs rows c v → x ≡ u -ℚ v → IsWay vs rows c x
  quotient : (u v e : ℚ) → IsPlace vs rows c u → IsPlace vs rows c v → IsEntry vs c e → ¬ (e ≡ whole (pos 0)) → x ≡ (u -ℚ v) /ℚ e → IsWay vs rows c x

-- such a way, or its product with an entry
abbrev pub IsMove : Variables → List Row → Configuration → ℚ → Type 0
IsMove vs rows c x = IsWay vs rows c x ⊎ ((w : ℚ) × (e : ℚ) × IsWay vs rows c w × IsEntry vs c e × (x ≡ w *ℚ e))

-- differences of values and bounds, their quotients by entries, their products with entries, and sums of a value and any of these
pub data IsMoving (vs : Variables) (rows : List Row) (c : Configuration) : NumOp → ℚ → ℚ → Type 0 where
  difference : (u v : ℚ) → IsPlace vs rows c u → IsPlace vs rows c v → IsMoving vs rows c Sub u v
  quotient : (u v e : ℚ) → IsPlace vs rows c u → IsPlace vs rows c v → IsEntry vs c e → ¬ (e ≡ whole (pos 0)) → IsMoving vs rows c Div (u -ℚ v) e
  left_product : (w e : ℚ) → IsWay vs rows c w → IsEntry vs c e → IsMoving vs rows c Mul w e
  right_product : (w e : ℚ) → IsWay vs rows c w → IsEntry vs c e → IsMoving vs rows c Mul e w
  sum : (k : ℕ) (x : ℚ) → k < size vs → IsMove vs rows c x → IsMoving vs rows c Add (c.value k) x

-- ---- multipliers

-- the quotient of 1 or of an entry by a row's divisor, and its negation
pub data IsSharing (vs : Variables) (rows : List Row) (c : Configuration) : NumOp → ℚ → ℚ → Type 0 where
  quotient : (row : Row) (g : ℕ) (x : ℚ) → Contains rows row → IsDivisor row.parts g → IsOneOrEntry vs c x → IsSharing vs rows c Div x (whole (pos g))
  negation : (row : Row) (g : ℕ) (x q : ℚ) → Contains rows row → IsDivisor row.parts g → IsOneOrEntry vs c x → q ≡ x /ℚ whole (pos g)
      → IsSharing vs rows c Neg q q

-- ---- rows at values

-- whole values of the terms, no larger than the constants sum to and below 2^63 times the largest one
pub record AreWhole (vs : Variables) (rows : List Row) (v : Valuation) : Type 0 where
  pub at : ℕ → ℤ
  pub is : (t : ℕ) → t < vs.terms → v t ≡ whole (at t)
  pub within : (t : ℕ) → t < vs.terms → unsigned_abs (at t) ≤ sum_of_constants rows
  pub below : (t : ℕ) → t < vs.terms → unsigned_abs (at t) < 2 ^ 63 * largest_constant rows

-- a row's coefficients times the values of a configuration, and its constant
pub record IsLevel (rows : List Row) (c : Configuration) (op : NumOp) (x y : ℚ) : Type 0 where
  pub row : Row
  pub there : Contains rows row
  pub step : IsStep c.value row op x y

-- or times such whole values
pub record IsWholeLevel (vs : Variables) (rows : List Row) (op : NumOp) (x y : ℚ) : Type 0 where
  pub row : Row
  pub there : Contains rows row
  pub values : Valuation
  pub whole_values : AreWhole vs rows values
  pub step : IsStep values row op x y

-- ---- all of it
pub data IsWork (vs : Variables) (rows : List Row) (c : Configuration) (op : NumOp) (x y : ℚ) : Type 0 where
  reading : IsReading rows op x y → IsWork vs rows c op x y
  forming : IsForming vs c op x y → IsWork vs rows c op x y
  exchanging : IsExchanging vs c op x y → IsWork vs rows c op x y
  moving : IsMoving vs rows c op x y → IsWork vs rows c op x y
  sharing : IsSharing vs rows c op x y → IsWork vs rows c op x y
  level : IsLevel rows c op x y → IsWork vs rows c op x y
  whole_level : IsWholeLevel vs rows op x y → IsWork vs rows c op x y
