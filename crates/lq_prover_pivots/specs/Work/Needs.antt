-- How large the numbers are that an operation on fractions needs: those of its result in lowest terms, and in a sum or a difference
-- those of both operands and of the result over the least common multiple of the denominators.
use Rattle.std.specs.Prelude.{ℕ, ℤ, pos, ◌/◌, ◌≤◌, ◌*ℤ◌, ◌-ℤ◌, unsigned_abs}
use Rattle.std.proofs.Math.IntN.{◌+ℤ◌}
use Rattle.lq_base_numbers.specs.Rationals.Lcm.{IsLcm}
use Rattle.lq_base_numbers.specs.Rationals.LowestTerms.{IsLowest}
use Rattle.lq_base_numbers.specs.Rationals.Rational.{ℚ, ◌*ℚ◌, neg_ℚ}
use Rattle.lq_base_numbers.specs.Rationals.RationalQuotient.{◌/ℚ◌}
use Rattle.lq_base_numbers.specs.declared.fractions.past.NumOp.{NumOp}
use Rattle.lq_base_numbers.specs.declared.fractions.past.NumOp.TheVariants.{Add, Sub, Mul, Div, Neg}

-- a / b is no larger
pub record IsWithin (numer denom : ℕ) (a : ℤ) (b : ℕ) : Type 0 where
  pub above : unsigned_abs a ≤ numer
  pub below : b ≤ denom

-- x in lowest terms
abbrev pub LowestWithin : ℕ → ℕ → ℚ → Type 0
LowestWithin numer denom x = (a : ℤ) (b : ℕ) → IsLowest x a b → IsWithin numer denom a b

-- a / b and c / d over m, and what the operation makes of their numerators
pub record AreWithin (numer denom : ℕ) (op : ℤ → ℤ → ℤ) (a c : ℤ) (b d m : ℕ) : Type 0 where
  pub multiple : m ≤ denom
  pub first : unsigned_abs (a *ℤ pos (m / b)) ≤ numer
  pub second : unsigned_abs (c *ℤ pos (m / d)) ≤ numer
  pub total : unsigned_abs (op (a *ℤ pos (m / b)) (c *ℤ pos (m / d))) ≤ numer

abbrev pub TogetherWithin : ℕ → ℕ → (ℤ → ℤ → ℤ) → ℚ → ℚ → Type 0
TogetherWithin numer denom op x y =
    (a c : ℤ) (b d m : ℕ) → IsLowest x a b → IsLowest y c d → IsLcm b d m → AreWithin numer denom op a c b d m

-- an operation on x and y; a negation has its operand on both sides
abbrev pub Needs : ℕ → ℕ → NumOp → ℚ → ℚ → Type 0
Needs numer denom Add x y = TogetherWithin numer denom (λ s t. s +ℤ t) x y
Needs numer denom Sub x y = TogetherWithin numer denom (λ s t. s -ℤ t) x y
Needs numer denom Mul x y = LowestWithin numer denom (x *ℚ y)
Needs numer denom Div x y = LowestWithin numer denom (x /ℚ y)
Needs numer denom Neg x y = LowestWithin numer denom (neg_ℚ x)
