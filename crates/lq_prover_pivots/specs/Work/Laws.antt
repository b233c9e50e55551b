-- What holds of the work of a tableau.
use Rattle.std.specs.Prelude.{◌≡◌, ℕ, ℤ, pos, ◌+◌, ◌*◌, ◌^◌, ◌<◌, ◌≤◌, ◌*ℤ◌, List, unsigned_abs}
use Rattle.lq_base_numbers.specs.Rationals.Rational.{ℚ, whole, ◌*ℚ◌}
use Rattle.lq_base_numbers.specs.Fractions.Past.{IsPast}
use Rattle.lq_base_numbers.specs.Fractions.Value.{value_of}
use Rattle.lq_base_numbers.specs.declared.fractions.past.NumOp.{NumOp}
use Rattle.lq_base_numbers.specs.declared.fractions.past.NumberPast.{NumberPast}
use Rattle.lq_logic_rows.specs.Row.{Row}
use Rattle.lq_prover_pivots.specs.Pivots.Rows.{Variables, size}
use Rattle.lq_prover_pivots.specs.Pivots.Configurations.{Configuration, Free, IsConfiguration}
use Rattle.lq_prover_pivots.specs.Cramer.Sizes.{WithinWhole}
use Rattle.lq_prover_pivots.specs.Work.Needs.{Needs}
use Rattle.lq_prover_pivots.specs.Work.Sizes.{entry_limit, value_limit, AreSized, AreSmall}
use Rattle.lq_prover_pivots.specs.Work.Work.{entry_of, IsReading, IsForming, IsExchanging, IsMoving, IsSharing, IsLevel, IsWholeLevel, IsWork}

-- an operation that needs no number of 2^127 or more isn't past 128 bits
abbrev pub SmallFit : Type 0
SmallFit =
    (numer denom : ℕ) (e : NumberPast) → numer < 2 ^ 127 → denom < 2 ^ 127 → Needs numer denom e.op (value_of e.left) (value_of e.right)
    → ¬ IsPast e

-- one whole number d, not 0 and of size at most k! * c^k, by which each entry becomes whole, of size at most that too, and by which times
-- the least common multiple each value becomes whole, of size at most the limit of the values times that multiple
pub record HasScale (vs : Variables) (rows : List Row) (c : Configuration) (multiple : ℕ) : Type 0 where
  pub denominator : ℤ
  pub some : ¬ (denominator ≡ pos 0)
  pub within : unsigned_abs denominator ≤ entry_limit vs
  pub entries : (k j : ℕ) → k < size vs → Free vs c j → WithinWhole (entry_limit vs) (entry_of c k j *ℚ whole denominator)
  pub values : (k : ℕ) → k < size vs → WithinWhole (value_limit vs rows * multiple) (c.value k *ℚ whole (denominator *ℤ pos multiple))

abbrev pub ValuesAreQuotients : Type 0
ValuesAreQuotients =
    (vs : Variables) (rows : List Row) (c : Configuration) → (sized : AreSized rows vs) → IsConfiguration vs rows c
    → HasScale vs rows c sized.multiple

-- what is done at a configuration of rows of small sizes needs numbers no larger than these
abbrev pub Small : (Variables → List Row → Configuration → NumOp → ℚ → ℚ → Type 0) → ℕ → ℕ → Type 0
Small Is numer denom =
    (vs : Variables) (rows : List Row) (c : Configuration) (op : NumOp) (x y : ℚ) → AreSmall rows vs → IsConfiguration vs rows c
    → Is vs rows c op x y → Needs numer denom op x y

abbrev pub ReadingIsSmall : Type 0
ReadingIsSmall = Small (λ vs rows c op x y. IsReading rows op x y) (2 ^ 40) (2 ^ 40)

abbrev pub FormingIsSmall : Type 0
FormingIsSmall = Small (λ vs rows c op x y. IsForming vs c op x y) (2 ^ 80) (2 ^ 40)

abbrev pub ExchangingIsSmall : Type 0
ExchangingIsSmall = Small (λ vs rows c op x y. IsExchanging vs c op x y) (2 ^ 81) (2 ^ 80)

abbrev pub MovingIsSmall : Type 0
MovingIsSmall = Small (λ vs rows c op x y. IsMoving vs rows c op x y) (2 ^ 82) (2 ^ 80)

abbrev pub SharingIsSmall : Type 0
SharingIsSmall = Small (λ vs rows c op x y. IsSharing vs rows c op x y) (2 ^ 40) (2 ^ 40)

abbrev pub LevelIsSmall : Type 0
LevelIsSmall = Small (λ vs rows c op x y. IsLevel rows c op x y) (2 ^ 80 + 2 ^ 40) (2 ^ 40)

abbrev pub WholeLevelIsSmall : Type 0
WholeLevelIsSmall = Small (λ vs rows c op x y. IsWholeLevel vs rows op x y) (2 ^ 103 + 2 ^ 40) 1

-- none of the work needs a numerator of 2^104 or more, or a denominator above 2^80
abbrev pub WorkIsSmall : Type 0
WorkIsSmall = Small IsWork (2 ^ 103 + 2 ^ 40) (2 ^ 80)

-- so none of it is past 128 bits
abbrev pub WorkFits : Type 0
WorkFits =
    (vs : Variables) (rows : List Row) (c : Configuration) (e : NumberPast) → AreSmall rows vs → IsConfiguration vs rows c
    → IsWork vs rows c e.op (value_of e.left) (value_of e.right) → ¬ IsPast e
