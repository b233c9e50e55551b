-- Which numbers an operation needs, by a common denominator of its operands or of its result.
use Rattle.std.proofs.Common.{◌≡◌, ℕ, ℤ, pos, ◌+◌, ◌*◌, ◌/◌, ◌≤◌, arith, sym, subst, unsigned_abs}
use Rattle.std.proofs.Math.IntN.{◌+ℤ◌, ◌-ℤ◌, ◌*ℤ◌}
use Rattle.std.proofs.Math.Nat.{div-mul_cancel, dvd-mul_left}
use Rattle.std.specs.Int.{◌∣◌}
use Rattle.std.proofs.lemmas.Int.{ints, unsigned_abs-mul}
use Rattle.lq_base_numbers.specs.Rationals.Rational.{ℚ, whole, ◌*ℚ◌}
use Rattle.lq_prover_pivots.specs.Work.Needs.{LowestWithin, TogetherWithin}
use Rattle.lq_prover_pivots.proofs.WorkLemmas.Scaled.{part_within, over_within, some_size, some_times, lowest_scaled}

-- the result times q is the whole number z
pub lowest_within : (n d : ℕ) (x : ℚ) (q z : ℤ) → ¬ (q ≡ pos 0) → unsigned_abs q ≤ d → x *ℚ whole q ≡ whole z → unsigned_abs z ≤ n → LowestWithin n d x
lowest_within n d x q z apart l e m a b low =
    let s = lowest_scaled x a b q z low apart e in
    let above = part_within s.times (unsigned_abs a) (unsigned_abs z) s.some s.numer in
    let below = part_within s.times b (unsigned_abs q) s.some s.denom in
    record { above = omega arith; below = omega arith }

abs_sum : (a b : ℤ) → unsigned_abs (a +ℤ b) ≤ unsigned_abs a + unsigned_abs b
abs_sum a b = omega (arith, ints)

abs_difference : (a b : ℤ) → unsigned_abs (a -ℤ b) ≤ unsigned_abs a + unsigned_abs b
abs_difference a b = omega (arith, ints)

-- both operands times q are whole
pub together_within : (n d : ℕ) (op : ℤ → ℤ → ℤ) (x y : ℚ) (q z w : ℤ) → ((s t : ℤ) → unsigned_abs (op s t) ≤ unsigned_abs s + unsigned_abs t)
    → ¬ (q ≡ pos 0) → unsigned_abs q ≤ d → x *ℚ whole q ≡ whole z → y *ℚ whole q ≡ whole w → unsigned_abs z + unsigned_abs w ≤ n
    → TogetherWithin n d op x y
together_within n d op x y q z w sub apart l e f within a c b k m low other least =
    let s = lowest_scaled x a b q z low apart e in
    let t = lowest_scaled y c k q w other apart f in
    let divides : m ∣ unsigned_abs q =
    least.2 (unsigned_abs q) (subst (λ j. b ∣ j) (sym s.denom) (dvd-mul_left b s.times)) (subst (λ j. k ∣ j) (sym t.denom) (dvd-mul_left k t.times)) in
    let over : unsigned_abs q / m * m ≡ unsigned_abs q = div-mul_cancel m divides in
    let some = some_times (unsigned_abs q / m) m (unsigned_abs q) (some_size q apart) (sym over) in
    let below = part_within (unsigned_abs q / m) m (unsigned_abs q) some (sym over) in
    let first = over_within (unsigned_abs a) b (unsigned_abs q) (unsigned_abs z) m (unsigned_abs q / m) low.positive some s least.0 (sym over) in
    let second = over_within (unsigned_abs c) k (unsigned_abs q) (unsigned_abs w) m (unsigned_abs q / m) other.positive some t least.1 (sym over) in
    let p : unsigned_abs (a *ℤ pos (m / b)) ≡ unsigned_abs a * (m / b) = unsigned_abs-mul a (pos (m / b)) in
    let r : unsigned_abs (c *ℤ pos (m / k)) ≡ unsigned_abs c * (m / k) = unsigned_abs-mul c (pos (m / k)) in
    let sum = sub (a *ℤ pos (m / b)) (c *ℤ pos (m / k)) in
    record { multiple = omega arith; first = omega arith; second = omega arith; total = omega arith }

pub sum_within : (n d : ℕ) (x y : ℚ) (q z w : ℤ) → ¬ (q ≡ pos 0) → unsigned_abs q ≤ d → x *ℚ whole q ≡ whole z → y *ℚ whole q ≡ whole w
    → unsigned_abs z + unsigned_abs w ≤ n → TogetherWithin n d (λ s t. s +ℤ t) x y
sum_within n d x y q z w = together_within n d (λ s t. s +ℤ t) x y q z w abs_sum

pub difference_within : (n d : ℕ) (x y : ℚ) (q z w : ℤ) → ¬ (q ≡ pos 0) → unsigned_abs q ≤ d → x *ℚ whole q ≡ whole z → y *ℚ whole q ≡ whole w
    → unsigned_abs z + unsigned_abs w ≤ n → TogetherWithin n d (λ s t. s -ℤ t) x y
difference_within n d x y q z w = together_within n d (λ s t. s -ℤ t) x y q z w abs_difference
