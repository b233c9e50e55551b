-- The inverse of a rational, and quotients: where y isn't 0, `x /ℚ y` is the one number z with z *ℚ y ≡ x. At 0 both are 0.
-- Example: `half_twice`.
use Rattle.std.proofs.Common.{◌≡◌, ℕ, suc, zero, arith, refl, sym, ap, ◌∙◌, [], ◌∷◌}
use Rattle.std.proofs.Math.IntN.{ℤ, pos, negsuc, ◌*ℤ◌}
use Rattle.std.proofs.lemmas.Int.{ints}
use std.Quotient.{/_set, /_rec, /_elim_prop}
use Rattle.lq_base_numbers.specs.Rationals.Pairs.{Pair, Same, pair_product}
use Rattle.lq_base_numbers.specs.Rationals.Rational.{ℚ, class, whole, same_class, ◌*ℚ◌, product-class}
use Rattle.lq_base_numbers.specs.Rationals.Whole.{whole_once}
use Rattle.lq_base_numbers.specs.Rationals.Solver.{var, con, ◌⊗◌, solve}

-- n / (d + 1) turned over
abbrev pub turned : ℤ → ℕ → Pair
turned (pos zero) d = (pos 0, 0)
turned (pos (suc k)) d = (pos (suc d), k)
turned (negsuc k) d = (negsuc d, k)

turned-same : (n m : ℤ) (d e : ℕ) → n *ℤ pos (suc e) ≡ m *ℤ pos (suc d) → Same (turned n d) (turned m e)
turned-same (pos zero) (pos zero) d e h = refl
turned-same (pos zero) (pos (suc j)) d e h = absurd (omega (arith, ints))
turned-same (pos zero) (negsuc j) d e h = absurd (omega (arith, ints))
turned-same (pos (suc k)) (pos zero) d e h = absurd (omega (arith, ints))
turned-same (pos (suc k)) (pos (suc j)) d e h = omega (arith, ints)
turned-same (pos (suc k)) (negsuc j) d e h = absurd (omega (arith, ints))
turned-same (negsuc k) (pos zero) d e h = absurd (omega (arith, ints))
turned-same (negsuc k) (pos (suc j)) d e h = absurd (omega (arith, ints))
turned-same (negsuc k) (negsuc j) d e h = omega (arith, ints)

pub inverse : ℚ → ℚ
inverse = /_rec /_set (λ a. class (turned a.0 a.1)) (λ a b e. same_class (turned a.0 a.1) (turned b.0 b.1) (turned-same a.0 b.0 a.1 b.1 e))

pub inverse-class : (a : Pair) → inverse (class a) ≡ class (turned a.0 a.1)
unfolding inverse /_rec
inverse-class a = refl

infixl 7 ◌/ℚ◌
abbrev pub ◌/ℚ◌ : ℚ → ℚ → ℚ
x /ℚ y = x *ℚ inverse y

turned-product : (n : ℤ) (d : ℕ) → ¬ (class (n, d) ≡ whole (pos 0)) → Same (pair_product (n, d) (turned n d)) (pos 1, 0)
turned-product (pos zero) d h = absurd (h (same_class (pos 0, d) (pos 0, 0) (omega (arith, ints))))
turned-product (pos (suc k)) d h = omega (arith, ints)
turned-product (negsuc k) d h = omega (arith, ints)

pub *ℚ_inverse : (x : ℚ) → ¬ (x ≡ whole (pos 0)) → x *ℚ inverse x ≡ whole (pos 1)
*ℚ_inverse =
    /_elim_prop (λ x. ¬ (x ≡ whole (pos 0)) → x *ℚ inverse x ≡ whole (pos 1)) (λ x. hlevel (/_set {A = Pair} {R = Same}))
    (λ a h. ap (λ y. class a *ℚ y) (inverse-class a) ∙ product-class a (turned a.0 a.1)
    ∙ same_class (pair_product a (turned a.0 a.1)) (pos 1, 0) (turned-product a.0 a.1 h))

pub inverse_zero : inverse (whole (pos 0)) ≡ whole (pos 0)
inverse_zero = inverse-class (pos 0, 0)

-- the quotient's two laws: it times y is x, and no other number is
pub /ℚ_is : (x y : ℚ) → ¬ (y ≡ whole (pos 0)) → (x /ℚ y) *ℚ y ≡ x
/ℚ_is x y h =
    solve (x ∷ y ∷ inverse y ∷ []) (var 0 ⊗ var 2 ⊗ var 1) (var 0 ⊗ (var 1 ⊗ var 2)) refl
    ∙ ap (λ t. x *ℚ t) (*ℚ_inverse y h) ∙ solve (x ∷ []) (var 0 ⊗ con (pos 1)) (var 0) refl

pub /ℚ_once : (x y z : ℚ) → ¬ (y ≡ whole (pos 0)) → z *ℚ y ≡ x → z ≡ x /ℚ y
/ℚ_once x y z h e =
    sym (
    ap (λ t. t *ℚ inverse y) (sym e)
    ∙ solve (z ∷ y ∷ inverse y ∷ []) (var 0 ⊗ var 1 ⊗ var 2) (var 0 ⊗ (var 1 ⊗ var 2)) refl
    ∙ ap (λ t. z *ℚ t) (*ℚ_inverse y h) ∙ solve (z ∷ []) (var 0 ⊗ con (pos 1)) (var 0) refl
    )

-- a factor that isn't 0 can be taken away
pub *ℚ_cancel : (x y z : ℚ) → ¬ (y ≡ whole (pos 0)) → x *ℚ y ≡ z *ℚ y → x ≡ z
*ℚ_cancel x y z h e = /ℚ_once (z *ℚ y) y x h e ∙ sym (/ℚ_once (z *ℚ y) y z h refl)

-- a product is 0 only where a factor is
pub *ℚ_apart : (x y : ℚ) → ¬ (x ≡ whole (pos 0)) → ¬ (y ≡ whole (pos 0)) → ¬ (x *ℚ y ≡ whole (pos 0))
*ℚ_apart x y h k e = h (*ℚ_cancel x y (whole (pos 0)) k (e ∙ sym (solve (y ∷ []) (con (pos 0) ⊗ var 0) (con (pos 0)) refl)))

-- an example of use
half_twice : (x : ℚ) → x /ℚ whole (pos 2) *ℚ whole (pos 2) ≡ x
half_twice x = /ℚ_is x (whole (pos 2)) (λ e. let two_is_zero : pos 2 ≡ pos 0 = whole_once (pos 2) (pos 0) e in omega (arith, ints))
