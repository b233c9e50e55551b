-- Numbers that a whole number makes whole: their products, their quotients, and which numbers the operations on them need.
use Rattle.std.proofs.Common.{◌≡◌, ℕ, ℤ, pos, ◌+◌, ◌*◌, ◌<◌, ◌≤◌, arith, refl, sym, ap, subst, ◌∙◌, [], ◌∷◌, unsigned_abs}
use Rattle.std.proofs.Math.IntN.{◌+ℤ◌, ◌-ℤ◌, ◌*ℤ◌}
use Rattle.std.proofs.Math.Nat.{mul-pos}
use Rattle.std.proofs.lemmas.Int.{ints, unsigned_abs-mul}
use Rattle.lq_base_numbers.specs.Rationals.Rational.{ℚ, whole, ◌+ℚ◌, ◌-ℚ◌, ◌*ℚ◌, neg_ℚ}
use Rattle.lq_base_numbers.specs.Rationals.RationalQuotient.{◌/ℚ◌, /ℚ_is, *ℚ_apart}
use Rattle.lq_base_numbers.specs.Rationals.Solver.{var, con, ◌⊕◌, ◌⊖◌, ◌⊗◌, solve}
use Rattle.lq_base_numbers.specs.Rationals.Whole.{whole-product, whole_once}
use Rattle.lq_prover_pivots.specs.Cramer.Sizes.{WithinWhole}
use Rattle.lq_prover_pivots.proofs.CramerLemmas.Sizes.{mul_at_most, within_same, within_product, within_sum, within_neg}
use Rattle.lq_prover_pivots.specs.Work.Needs.{LowestWithin, TogetherWithin}
use Rattle.lq_prover_pivots.proofs.WorkLemmas.Scaled.{some_size}
use Rattle.lq_prover_pivots.proofs.WorkLemmas.Common.{lowest_within, sum_within, difference_within}

pub lowest_by : (n d : ℕ) (x : ℚ) (q : ℤ) → ¬ (q ≡ pos 0) → unsigned_abs q ≤ d → WithinWhole n (x *ℚ whole q) → LowestWithin n d x
lowest_by n d x q apart l w = lowest_within n d x q w.number apart l w.is w.within

pub sum_by : (n d l m : ℕ) (x y : ℚ) (q : ℤ) → ¬ (q ≡ pos 0) → unsigned_abs q ≤ d → WithinWhole l (x *ℚ whole q) → WithinWhole m (y *ℚ whole q)
    → l + m ≤ n → TogetherWithin n d (λ s t. s +ℤ t) x y
sum_by n d l m x y q apart h v w e =
    let i = v.within in
    let j = w.within in
    sum_within n d x y q v.number w.number apart h v.is w.is (omega arith)

pub difference_by : (n d l m : ℕ) (x y : ℚ) (q : ℤ) → ¬ (q ≡ pos 0) → unsigned_abs q ≤ d → WithinWhole l (x *ℚ whole q)
    → WithinWhole m (y *ℚ whole q) → l + m ≤ n → TogetherWithin n d (λ s t. s -ℤ t) x y
difference_by n d l m x y q apart h v w e =
    let i = v.within in
    let j = w.within in
    difference_within n d x y q v.number w.number apart h v.is w.is (omega arith)

one_apart : ¬ (pos 1 ≡ pos 0)
one_apart e = absurd (omega (arith, ints))

pub lowest_whole : (n d : ℕ) (x : ℚ) → 1 ≤ d → WithinWhole n x → LowestWithin n d x
lowest_whole n d x l w =
    lowest_by n d x (pos 1) one_apart l (within_same n (x *ℚ whole (pos 1)) x (solve (x ∷ []) (var 0 ⊗ con (pos 1)) (var 0) refl) w)

-- ---- whole numbers
pub within_whole : (l : ℕ) (a : ℤ) → unsigned_abs a ≤ l → WithinWhole l (whole a)
within_whole l a h = record { number = a; is = refl; within = h }

pub size_product : (l m : ℕ) (a b : ℤ) → unsigned_abs a ≤ l → unsigned_abs b ≤ m → unsigned_abs (a *ℤ b) ≤ l * m
size_product l m a b h k = subst (λ t. t ≤ l * m) (sym (unsigned_abs-mul a b)) (mul_at_most (unsigned_abs a) (unsigned_abs b) l m h k)

no_size : (a : ℤ) → a ≡ pos 0 → unsigned_abs a ≡ 0
no_size a e = omega (arith, ints)

pub apart_product : (a b : ℤ) → ¬ (a ≡ pos 0) → ¬ (b ≡ pos 0) → ¬ (a *ℤ b ≡ pos 0)
apart_product a b h k e =
    let p : 0 < unsigned_abs a * unsigned_abs b = mul-pos (some_size a h) (some_size b k) in
    let q = unsigned_abs-mul a b in
    let r = no_size (a *ℤ b) e in
    absurd (omega arith)

-- ---- products
pub by_product : (x : ℚ) (a b : ℤ) → x *ℚ whole (a *ℤ b) ≡ x *ℚ whole a *ℚ whole b
by_product x a b =
    ap (λ t. x *ℚ t) (sym (whole-product a b)) ∙ solve (x ∷ whole a ∷ whole b ∷ []) (var 0 ⊗ (var 1 ⊗ var 2)) (var 0 ⊗ var 1 ⊗ var 2) refl

pub within_times : (l m : ℕ) (x : ℚ) (a b : ℤ) → WithinWhole l (x *ℚ whole a) → unsigned_abs b ≤ m → WithinWhole (l * m) (x *ℚ whole (a *ℤ b))
within_times l m x a b w h =
    within_same (l * m) (x *ℚ whole (a *ℤ b)) (x *ℚ whole a *ℚ whole b) (by_product x a b) (within_product l m (x *ℚ whole a) (whole b) w (within_whole m b h))

-- a times b, of which b makes x whole
pub within_before : (l m : ℕ) (x : ℚ) (a b : ℤ) → WithinWhole l (x *ℚ whole b) → unsigned_abs a ≤ m → WithinWhole (l * m) (x *ℚ whole (a *ℤ b))
within_before l m x a b w h =
    within_same (l * m) (x *ℚ whole (a *ℤ b)) (x *ℚ whole b *ℚ whole a)
    (by_product x a b ∙ solve (x ∷ whole a ∷ whole b ∷ []) (var 0 ⊗ var 1 ⊗ var 2) (var 0 ⊗ var 2 ⊗ var 1) refl)
    (within_product l m (x *ℚ whole b) (whole a) w (within_whole m a h))

pub within_difference : (l m : ℕ) (x y : ℚ) (a : ℤ) → WithinWhole l (x *ℚ whole a) → WithinWhole m (y *ℚ whole a)
    → WithinWhole (l + m) ((x -ℚ y) *ℚ whole a)
within_difference l m x y a v w =
    within_same (l + m) ((x -ℚ y) *ℚ whole a) (x *ℚ whole a +ℚ neg_ℚ (y *ℚ whole a))
    (solve (x ∷ y ∷ whole a ∷ []) ((var 0 ⊖ var 1) ⊗ var 2) (var 0 ⊗ var 2 ⊕ (con (pos 0) ⊖ var 1 ⊗ var 2)) refl)
    (within_sum l m (x *ℚ whole a) (neg_ℚ (y *ℚ whole a)) v (within_neg m (y *ℚ whole a) w))

pub within_turned : (l : ℕ) (x y : ℚ) (a : ℤ) → WithinWhole l (x *ℚ y *ℚ whole a) → WithinWhole l (y *ℚ x *ℚ whole a)
within_turned l x y a w =
    within_same l (y *ℚ x *ℚ whole a) (x *ℚ y *ℚ whole a) (solve (x ∷ y ∷ whole a ∷ []) (var 1 ⊗ var 0 ⊗ var 2) (var 0 ⊗ var 1 ⊗ var 2) refl) w

pub within_cross : (l m : ℕ) (x y : ℚ) (a b : ℤ) → WithinWhole l (x *ℚ whole a) → WithinWhole m (y *ℚ whole b)
    → WithinWhole (l * m) (x *ℚ y *ℚ whole (a *ℤ b))
within_cross l m x y a b v w =
    within_same (l * m) (x *ℚ y *ℚ whole (a *ℤ b)) (x *ℚ whole a *ℚ (y *ℚ whole b))
    (by_product (x *ℚ y) a b
    ∙ solve (x ∷ y ∷ whole a ∷ whole b ∷ []) (var 0 ⊗ var 1 ⊗ var 2 ⊗ var 3) (var 0 ⊗ var 2 ⊗ (var 1 ⊗ var 3)) refl)
    (within_product l m (x *ℚ whole a) (y *ℚ whole b) v w)

pub within_negated : (l : ℕ) (x : ℚ) (a : ℤ) → WithinWhole l (x *ℚ whole a) → WithinWhole l (neg_ℚ x *ℚ whole a)
within_negated l x a w =
    within_same l (neg_ℚ x *ℚ whole a) (neg_ℚ (x *ℚ whole a))
    (solve (x ∷ whole a ∷ []) ((con (pos 0) ⊖ var 0) ⊗ var 1) (con (pos 0) ⊖ var 0 ⊗ var 1) refl)
    (within_neg l (x *ℚ whole a) w)

-- ---- quotients, where the divisor times b is the whole number z
pub number_apart : (y : ℚ) (b z : ℤ) → ¬ (y ≡ whole (pos 0)) → ¬ (b ≡ pos 0) → y *ℚ whole b ≡ whole z → ¬ (z ≡ pos 0)
number_apart y b z h k e f = *ℚ_apart y (whole b) h (λ g. k (whole_once b (pos 0) g)) (e ∙ ap whole f)

pub quotient_is : (x y : ℚ) (b z : ℤ) → ¬ (y ≡ whole (pos 0)) → y *ℚ whole b ≡ whole z → (x /ℚ y) *ℚ whole z ≡ x *ℚ whole b
quotient_is x y b z h e =
    ap (λ t. (x /ℚ y) *ℚ t) (sym e)
    ∙ solve ((x /ℚ y) ∷ y ∷ whole b ∷ []) (var 0 ⊗ (var 1 ⊗ var 2)) (var 0 ⊗ var 1 ⊗ var 2) refl
    ∙ ap (λ t. t *ℚ whole b) (/ℚ_is x y h)
