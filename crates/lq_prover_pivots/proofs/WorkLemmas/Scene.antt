-- What the sizes say of a configuration, and what follows of products of them.
use Rattle.std.proofs.Common.{◌≡◌, ℕ, ℤ, pos, ◌*◌, ◌<◌, ◌≤◌, arith, List, length, unsigned_abs}
use Rattle.std.specs.List.{Contains}
use Rattle.std.proofs.Math.IntN.{◌*ℤ◌}
use Rattle.std.proofs.Math.Nat.{mul-le-mul_left}
use Rattle.lq_base_numbers.specs.Rationals.Rational.{ℚ, whole, ◌*ℚ◌}
use Rattle.lq_logic_rows.specs.Difference.{TermsBelow}
use Rattle.lq_logic_rows.specs.Forms.{Parts}
use Rattle.lq_logic_rows.specs.Row.{Row}
use Rattle.lq_logic_rows.specs.declared.bound.Side.{Side}
use Rattle.lq_prover_pivots.specs.Pivots.Rows.{Variables, size, form, Gives}
use Rattle.lq_prover_pivots.specs.Pivots.Configurations.{Configuration, Free}
use Rattle.lq_prover_pivots.specs.Cramer.Sizes.{WithinWhole}
use Rattle.lq_prover_pivots.proofs.CramerLemmas.Parts.{AllWithin}
use Rattle.lq_prover_pivots.specs.Work.Sizes.{IsDivisor, largest_constant}
use Rattle.lq_prover_pivots.specs.Work.Work.{entry_of}

-- n terms, coefficients of forms up to c, entries up to d, constants up to k, divisors up to g
pub record Numbers (n c d k g most : ℕ) : Type 0 where
  pub terms : 1 ≤ n
  pub coefficient : 1 ≤ c
  pub constant : 1 ≤ k
  pub divisor : 1 ≤ g
  pub entry : c ≤ d
  pub all : n * (d * (k * g)) ≤ most

-- parts over n terms with coefficients up to c
pub record AreParts (n c : ℕ) (parts : Parts) : Type 0 where
  pub below : TermsBelow n parts
  pub within : AllWithin c parts
  pub short : length parts ≤ n

-- what the sizes say of the rows alone
pub record Listed (vs : Variables) (rows : List Row) (most : ℕ) : Type 0 where
  pub coefficient : ℕ
  pub entry : ℕ
  pub constant : ℕ
  pub divisor : ℕ
  pub constant_is : constant ≡ largest_constant rows
  pub numbers : Numbers vs.terms coefficient entry constant divisor most
  pub rows_are : (row : Row) → Contains rows row → AreParts vs.terms (coefficient * divisor) row.parts
  pub constants : (row : Row) → Contains rows row → unsigned_abs row.constant ≤ constant
  pub divisors : (row : Row) (g : ℕ) → Contains rows row → IsDivisor row.parts g → (0 < g) × (g ≤ divisor)

-- and of a configuration of these rows
pub record Scene (vs : Variables) (rows : List Row) (c : Configuration) (most : ℕ) : Type 0 where
  pub listed : Listed vs rows most
  pub open listed use *
  pub terms_in : vs.terms ≤ size vs
  pub forms : (k : ℕ) → k < size vs → AreParts vs.terms coefficient (form vs k)
  pub bounds : (side : Side) (k : ℕ) (x : ℚ) → Gives vs rows side k x → WithinWhole (constant * divisor) (x *ℚ whole (pos divisor))
  pub denominator : ℤ
  pub some : ¬ (denominator ≡ pos 0)
  pub within : unsigned_abs denominator ≤ entry
  pub entries : (k j : ℕ) → k < size vs → Free vs c j → WithinWhole entry (entry_of c k j *ℚ whole denominator)
  pub values : (k : ℕ) → k < size vs → WithinWhole most (c.value k *ℚ whole (denominator *ℤ pos divisor))

-- ---- products
pub at_least : (a b : ℕ) → 1 ≤ a → b ≤ a * b
at_least a b h = let k : b * 1 ≤ b * a = mul-le-mul_left b h in omega arith

pub record Products (n c d k g most : ℕ) : Type 0 where
  pub entry_divisor : d * g ≤ most
  pub entry : d ≤ most
  pub divisor : g ≤ most
  pub constant : k ≤ most
  pub coefficient : c ≤ most
  pub bound : d * (k * g) ≤ most
  pub row : n * (c * g) ≤ most
  pub row_constant : n * (c * (g * k)) ≤ most
  pub form : n * c ≤ most
  pub part : c * g ≤ most

pub products : (n c d k g most : ℕ) → Numbers n c d k g most → Products n c d k g most
products n c d k g most is =
    let all = is.all in
    let one = is.entry in
    let two = is.coefficient in
    let some : 1 ≤ d = omega arith in
    let bound : d * (k * g) ≤ n * (d * (k * g)) = at_least n (d * (k * g)) is.terms in
    let kg : k * g ≤ d * (k * g) = at_least d (k * g) some in
    let g_in : g ≤ k * g = at_least k g is.constant in
    let k_in : k ≤ g * k = at_least g k is.divisor in
    let dg : d * g ≤ k * (d * g) = at_least k (d * g) is.constant in
    let d_in : d ≤ g * d = at_least g d is.divisor in
    let turned : n * (k * g) * c ≤ n * (k * g) * d = mul-le-mul_left (n * (k * g)) is.entry in
    let row : n * (c * g) ≤ k * (n * (c * g)) = at_least k (n * (c * g)) is.constant in
    let form : n * c ≤ g * (n * c) = at_least g (n * c) is.divisor in
    let part : c * g ≤ n * (c * g) = at_least n (c * g) is.terms in
    let product : d * (k * g) ≡ k * (d * g) = omega arith in
    let row_most : n * (c * (g * k)) ≤ most = omega arith in
    let row_in : n * (c * g) ≤ most = omega arith in
    let dg_in : d * g ≤ most = omega arith in
    record {
      entry_divisor = dg_in;
      entry = omega arith;
      divisor = omega arith;
      constant = omega arith;
      coefficient = omega arith;
      bound = omega arith;
      row = row_in;
      row_constant = row_most;
      form = omega arith;
      part = omega arith;
    }
