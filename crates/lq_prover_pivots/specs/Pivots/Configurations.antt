-- Configurations.
use Rattle.std.specs.Prelude.{◌≡◌, ℕ, pos, ◌<◌, ◌⊎◌, Bool, true, false, List}
use Rattle.lq_base_numbers.specs.Rationals.Rational.{ℚ, whole}
use Rattle.lq_prover_pivots.specs.Pivots.Ranges.{count_below, combine}
use Rattle.lq_logic_rows.specs.Row.{Row, Valuation}
use Rattle.lq_logic_rows.specs.declared.bound.Side.{Side}
use Rattle.lq_prover_pivots.specs.Pivots.Rows.{Variables, size, at, Gives}

-- which variables are free, the combination of free ones that each other one is, and a value for each
pub record Configuration : Type 0 where
  pub is_free : ℕ → Bool
  pub entry : ℕ → ℕ → ℚ
  pub value : ℕ → ℚ

abbrev pub Free : Variables → Configuration → ℕ → Type 0
Free vs c k = (k < size vs) × (c.is_free k ≡ true)

abbrev pub Basic : Variables → Configuration → ℕ → Type 0
Basic vs c k = (k < size vs) × (c.is_free k ≡ false)

-- the variable is, at every valuation of the terms, this combination of the free ones
pub record IsCombination (vs : Variables) (c : Configuration) (k : ℕ) (a : ℕ → ℚ) : Type 0 where
  pub always : (v : Valuation) → at vs v k ≡ combine (size vs) c.is_free a (at vs v)

-- as many are free as there are terms; each basis member is a combination of the free ones, in exactly one way; a free one has the
-- value 0 or a bound that the listed rows give it, and a basis member the value of its combination
pub record IsConfiguration (vs : Variables) (listed : List Row) (c : Configuration) : Type 0 where
  pub count : count_below (size vs) c.is_free ≡ vs.terms
  pub combined : (k : ℕ) → Basic vs c k → IsCombination vs c k (c.entry k)
  pub once : (k : ℕ) (a : ℕ → ℚ) → Basic vs c k → IsCombination vs c k a → (j : ℕ) → Free vs c j → a j ≡ c.entry k j
  pub rests : (j : ℕ) → Free vs c j → (c.value j ≡ whole (pos 0)) ⊎ ((side : Side) × Gives vs listed side j (c.value j))
  pub valued : (k : ℕ) → Basic vs c k → c.value k ≡ combine (size vs) c.is_free (c.entry k) c.value

-- the same ones are free, with the same values
pub record Same (vs : Variables) (c d : Configuration) : Type 0 where
  pub free : (j : ℕ) → j < size vs → c.is_free j ≡ d.is_free j
  pub values : (j : ℕ) → Free vs c j → c.value j ≡ d.value j
