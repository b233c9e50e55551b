-- Products and the order of the whole numbers, which `omega` doesn't know. Example: `tripled`.
use Rattle.std.proofs.Common.{◌≡◌, suc, zero, arith}
use Rattle.std.proofs.Math.IntN.{ℤ, pos, negsuc, ◌-ℤ◌, ◌*ℤ◌}
use Rattle.std.specs.Int.Signed.{◌≤ℤ◌, ◌<ℤ◌}
use Rattle.std.proofs.lemmas.Int.{ints, by_lt_z}
use Rattle.lq_base_numbers.specs.Rationals.IntRing.{at, ◌⊖◌, ◌⊗◌, ring_le, ring_lt, le_parts, lt_parts}

pub mul_nonneg : (a b : ℤ) → pos 0 ≤ℤ a → pos 0 ≤ℤ b → pos 0 ≤ℤ (a *ℤ b)
mul_nonneg (pos m) (pos n) h k = omega (arith, ints)
mul_nonneg (pos m) (negsuc n) h k = absurd (omega (arith, ints))
mul_nonneg (negsuc m) b h k = absurd (omega (arith, ints))

pub mul_positive : (a b : ℤ) → pos 0 <ℤ a → pos 0 <ℤ b → pos 0 <ℤ (a *ℤ b)
mul_positive (pos (suc m)) (pos (suc n)) h k = omega (arith, ints)
mul_positive (pos (suc m)) (pos zero) h k = absurd (omega (arith, ints))
mul_positive (pos (suc m)) (negsuc n) h k = absurd (omega (arith, ints))
mul_positive (pos zero) b h k = absurd (omega (arith, ints))
mul_positive (negsuc m) b h k = absurd (omega (arith, ints))

pub mul_le : (a b c : ℤ) → pos 0 ≤ℤ c → a ≤ℤ b → (a *ℤ c) ≤ℤ (b *ℤ c)
mul_le a b c k h =
    let p : pos 0 ≤ℤ ((b -ℤ a) *ℤ c) = mul_nonneg (b -ℤ a) c (omega (arith, ints)) k in
    ring_le (at a ⊗ at c) (at b ⊗ at c) (omega (arith, le_parts (at (pos 0)) ((at b ⊖ at a) ⊗ at c) p))

pub mul_lt : (a b c : ℤ) → pos 0 <ℤ c → a <ℤ b → (a *ℤ c) <ℤ (b *ℤ c)
mul_lt a b c k h =
    let p : pos 0 <ℤ ((b -ℤ a) *ℤ c) = mul_positive (b -ℤ a) c (omega (arith, ints)) k in
    ring_lt (at a ⊗ at c) (at b ⊗ at c) (omega (arith, lt_parts (at (pos 0)) ((at b ⊖ at a) ⊗ at c) p))

pub le_of_mul_le : (a b c : ℤ) → pos 0 <ℤ c → (a *ℤ c) ≤ℤ (b *ℤ c) → a ≤ℤ b
le_of_mul_le a b c k h =
    by_lt_z {P = a ≤ℤ b} b a (λ l. absurd (let q = mul_lt b a c k l in omega (arith, ints))) (λ l. l)

pub lt_of_mul_lt : (a b c : ℤ) → pos 0 <ℤ c → (a *ℤ c) <ℤ (b *ℤ c) → a <ℤ b
lt_of_mul_lt a b c k h =
    by_lt_z {P = a <ℤ b} a b (λ l. l) (λ l. absurd (let z : pos 0 ≤ℤ c = omega (arith, ints) in let q = mul_le b a c z l in omega (arith, ints)))

pub mul_cancel : (a b c : ℤ) → pos 0 <ℤ c → a *ℤ c ≡ b *ℤ c → a ≡ b
mul_cancel a b c k e =
    let x : (a *ℤ c) ≤ℤ (b *ℤ c) = omega (arith, ints) in
    let y : (b *ℤ c) ≤ℤ (a *ℤ c) = omega (arith, ints) in
    let p = le_of_mul_le a b c k x in let q = le_of_mul_le b a c k y in omega (arith, ints)

-- an example of use
tripled : (a b : ℤ) → a ≤ℤ b → (a *ℤ pos 3) ≤ℤ (b *ℤ pos 3)
tripled a b = mul_le a b (pos 3) (omega (arith, ints))
