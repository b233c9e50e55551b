-- The laws of sums, differences and products of rationals, each an identity of the cross products. Any further identity is one line
-- by `Solver`. Example: `+ℚ_comm`.
use Rattle.std.proofs.Common.{◌≡◌, ℕ, suc, ◌+◌, arith, refl, sym, ap, ◌∙◌}
use Rattle.std.proofs.Math.IntN.{pos, ◌*ℤ◌}
use std.Quotient.{/_set, /_elim_prop, /_elim_prop₂, /_elim_prop₃}
use Rattle.lq_base_numbers.specs.Rationals.IntRing.{Poly, at, nat, ◌⊕◌, ◌⊖◌, ◌⊗◌, value, plus, minus, ring}
use Rattle.lq_base_numbers.specs.Rationals.Pairs.{Pair, Same, below, times, pair_sum, pair_difference, pair_product}
use Rattle.lq_base_numbers.specs.Rationals.Rational.{ℚ, class, whole, same_class, ◌+ℚ◌, ◌-ℚ◌, ◌*ℚ◌, sum-class, difference-class, product-class}

-- ---- polynomials of rationals
infixl 6 ◌⊞◌ ◌⊟◌
infixl 7 ◌⊠◌
pub data Expr : Type 0 where
  of : (a : Pair) (D : ℕ) → suc a.1 ≡ D → Expr
  ◌⊞◌ : Expr → Expr → Expr
  ◌⊟◌ : Expr → Expr → Expr
  ◌⊠◌ : Expr → Expr → Expr

abbrev pub rational : Expr → ℚ
rational (of a D e) = class a
rational (p ⊞ q) = rational p +ℚ rational q
rational (p ⊟ q) = rational p -ℚ rational q
rational (p ⊠ q) = rational p *ℚ rational q

abbrev pub pair : Expr → Pair
pair (of a D e) = a
pair (p ⊞ q) = pair_sum (pair p) (pair q)
pair (p ⊟ q) = pair_difference (pair p) (pair q)
pair (p ⊠ q) = pair_product (pair p) (pair q)

-- the numerator and the denominator, as polynomials
abbrev pub bottom : Expr → Poly
bottom (of a D e) = nat D
bottom (p ⊞ q) = bottom p ⊗ bottom q
bottom (p ⊟ q) = bottom p ⊗ bottom q
bottom (p ⊠ q) = bottom p ⊗ bottom q

abbrev pub top : Expr → Poly
top (of a D e) = at a.0
top (p ⊞ q) = top p ⊗ bottom q ⊕ top q ⊗ bottom p
top (p ⊟ q) = top p ⊗ bottom q ⊖ top q ⊗ bottom p
top (p ⊠ q) = top p ⊗ top q

times-below : (d e : ℕ) → pos (suc d) *ℤ pos (suc e) ≡ pos (suc (times d e))
times-below d e = ap pos (omega arith)

is_class : (p : Expr) → rational p ≡ class (pair p)
is_class (of a D e) = refl
is_class (p ⊞ q) = ap (λ x. x +ℚ rational q) (is_class p) ∙ ap (λ x. class (pair p) +ℚ x) (is_class q) ∙ sum-class (pair p) (pair q)
is_class (p ⊟ q) = ap (λ x. x -ℚ rational q) (is_class p) ∙ ap (λ x. class (pair p) -ℚ x) (is_class q) ∙ difference-class (pair p) (pair q)
is_class (p ⊠ q) = ap (λ x. x *ℚ rational q) (is_class p) ∙ ap (λ x. class (pair p) *ℚ x) (is_class q) ∙ product-class (pair p) (pair q)

bottom_is : (p : Expr) → value (bottom p) ≡ below (pair p)
bottom_is (of a D e) = ap pos (sym e)
bottom_is (p ⊞ q) = ap (λ x. x *ℤ value (bottom q)) (bottom_is p) ∙ ap (λ x. below (pair p) *ℤ x) (bottom_is q) ∙ times-below (pair p).1 (pair q).1
bottom_is (p ⊟ q) = ap (λ x. x *ℤ value (bottom q)) (bottom_is p) ∙ ap (λ x. below (pair p) *ℤ x) (bottom_is q) ∙ times-below (pair p).1 (pair q).1
bottom_is (p ⊠ q) = ap (λ x. x *ℤ value (bottom q)) (bottom_is p) ∙ ap (λ x. below (pair p) *ℤ x) (bottom_is q) ∙ times-below (pair p).1 (pair q).1

top_is : (p : Expr) → value (top p) ≡ (pair p).0
top_is (of a D e) = refl
top_is (p ⊞ q) = simp (top_is p, top_is q, bottom_is p, bottom_is q)
top_is (p ⊟ q) = simp (top_is p, top_is q, bottom_is p, bottom_is q)
top_is (p ⊠ q) = simp (top_is p, top_is q)

-- an identity of rationals is one of their cross products
pub q_ring : (p q : Expr) → plus (top p ⊗ bottom q) + minus (top q ⊗ bottom p) ≡ minus (top p ⊗ bottom q) + plus (top q ⊗ bottom p) → rational p ≡ rational q
q_ring p q e =
    let s : Same (pair p) (pair q) =
    ap (λ x. x *ℤ below (pair q)) (sym (top_is p)) ∙ ap (λ x. value (top p) *ℤ x) (sym (bottom_is q))
    ∙ ring (top p ⊗ bottom q) (top q ⊗ bottom p) e
    ∙ ap (λ x. x *ℤ value (bottom p)) (top_is q) ∙ ap (λ x. (pair q).0 *ℤ x) (bottom_is p) in
    is_class p ∙ same_class (pair p) (pair q) s ∙ sym (is_class q)

-- ---- the laws

+ℚ_comm-pairs : (a b : Pair) (D E : ℕ) → suc a.1 ≡ D → suc b.1 ≡ E → class a +ℚ class b ≡ class b +ℚ class a
+ℚ_comm-pairs a b D E ha hb = let pa = of a D ha in let pb = of b E hb in q_ring (pa ⊞ pb) (pb ⊞ pa) (omega arith)

pub +ℚ_comm : (x y : ℚ) → x +ℚ y ≡ y +ℚ x
+ℚ_comm = /_elim_prop₂ (λ x y. x +ℚ y ≡ y +ℚ x) (λ x y. /_set _ _) (λ a b. +ℚ_comm-pairs a b (suc a.1) (suc b.1) refl refl)

+ℚ_assoc-pairs : (a b c : Pair) (D E F : ℕ) → suc a.1 ≡ D → suc b.1 ≡ E → suc c.1 ≡ F → (class a +ℚ class b) +ℚ class c ≡ class a +ℚ (class b +ℚ class c)
+ℚ_assoc-pairs a b c D E F ha hb hc = let pa = of a D ha in let pb = of b E hb in let pc = of c F hc in q_ring ((pa ⊞ pb) ⊞ pc) (pa ⊞ (pb ⊞ pc)) (omega arith)

pub +ℚ_assoc : (x y z : ℚ) → (x +ℚ y) +ℚ z ≡ x +ℚ (y +ℚ z)
+ℚ_assoc = /_elim_prop₃ (λ x y z. (x +ℚ y) +ℚ z ≡ x +ℚ (y +ℚ z)) (λ x y z. /_set _ _) (λ a b c. +ℚ_assoc-pairs a b c (suc a.1) (suc b.1) (suc c.1) refl refl refl)

*ℚ_comm-pairs : (a b : Pair) (D E : ℕ) → suc a.1 ≡ D → suc b.1 ≡ E → class a *ℚ class b ≡ class b *ℚ class a
*ℚ_comm-pairs a b D E ha hb = let pa = of a D ha in let pb = of b E hb in q_ring (pa ⊠ pb) (pb ⊠ pa) (omega arith)

pub *ℚ_comm : (x y : ℚ) → x *ℚ y ≡ y *ℚ x
*ℚ_comm = /_elim_prop₂ (λ x y. x *ℚ y ≡ y *ℚ x) (λ x y. /_set _ _) (λ a b. *ℚ_comm-pairs a b (suc a.1) (suc b.1) refl refl)

*ℚ_assoc-pairs : (a b c : Pair) (D E F : ℕ) → suc a.1 ≡ D → suc b.1 ≡ E → suc c.1 ≡ F → (class a *ℚ class b) *ℚ class c ≡ class a *ℚ (class b *ℚ class c)
*ℚ_assoc-pairs a b c D E F ha hb hc = let pa = of a D ha in let pb = of b E hb in let pc = of c F hc in q_ring ((pa ⊠ pb) ⊠ pc) (pa ⊠ (pb ⊠ pc)) (omega arith)

pub *ℚ_assoc : (x y z : ℚ) → (x *ℚ y) *ℚ z ≡ x *ℚ (y *ℚ z)
*ℚ_assoc = /_elim_prop₃ (λ x y z. (x *ℚ y) *ℚ z ≡ x *ℚ (y *ℚ z)) (λ x y z. /_set _ _) (λ a b c. *ℚ_assoc-pairs a b c (suc a.1) (suc b.1) (suc c.1) refl refl refl)

*ℚ-+ℚ-pairs : (a b c : Pair) (D E F : ℕ) → suc a.1 ≡ D → suc b.1 ≡ E → suc c.1 ≡ F → class a *ℚ (class b +ℚ class c) ≡ class a *ℚ class b +ℚ class a *ℚ class c
*ℚ-+ℚ-pairs a b c D E F ha hb hc = let pa = of a D ha in let pb = of b E hb in let pc = of c F hc in q_ring (pa ⊠ (pb ⊞ pc)) (pa ⊠ pb ⊞ pa ⊠ pc) (omega arith)

pub *ℚ-+ℚ : (x y z : ℚ) → x *ℚ (y +ℚ z) ≡ x *ℚ y +ℚ x *ℚ z
*ℚ-+ℚ = /_elim_prop₃ (λ x y z. x *ℚ (y +ℚ z) ≡ x *ℚ y +ℚ x *ℚ z) (λ x y z. /_set _ _) (λ a b c. *ℚ-+ℚ-pairs a b c (suc a.1) (suc b.1) (suc c.1) refl refl refl)

*ℚ--ℚ-pairs : (a b c : Pair) (D E F : ℕ) → suc a.1 ≡ D → suc b.1 ≡ E → suc c.1 ≡ F → class a *ℚ (class b -ℚ class c) ≡ class a *ℚ class b -ℚ class a *ℚ class c
*ℚ--ℚ-pairs a b c D E F ha hb hc = let pa = of a D ha in let pb = of b E hb in let pc = of c F hc in q_ring (pa ⊠ (pb ⊟ pc)) (pa ⊠ pb ⊟ pa ⊠ pc) (omega arith)

pub *ℚ--ℚ : (x y z : ℚ) → x *ℚ (y -ℚ z) ≡ x *ℚ y -ℚ x *ℚ z
*ℚ--ℚ = /_elim_prop₃ (λ x y z. x *ℚ (y -ℚ z) ≡ x *ℚ y -ℚ x *ℚ z) (λ x y z. /_set _ _) (λ a b c. *ℚ--ℚ-pairs a b c (suc a.1) (suc b.1) (suc c.1) refl refl refl)

-ℚ-+ℚ-pairs : (a b : Pair) (D E : ℕ) → suc a.1 ≡ D → suc b.1 ≡ E → (class a -ℚ class b) +ℚ class b ≡ class a
-ℚ-+ℚ-pairs a b D E ha hb = let pa = of a D ha in let pb = of b E hb in q_ring ((pa ⊟ pb) ⊞ pb) (pa) (omega arith)

pub -ℚ-+ℚ : (x y : ℚ) → (x -ℚ y) +ℚ y ≡ x
-ℚ-+ℚ = /_elim_prop₂ (λ x y. (x -ℚ y) +ℚ y ≡ x) (λ x y. /_set _ _) (λ a b. -ℚ-+ℚ-pairs a b (suc a.1) (suc b.1) refl refl)

+ℚ--ℚ-pairs : (a b c : Pair) (D E F : ℕ) → suc a.1 ≡ D → suc b.1 ≡ E → suc c.1 ≡ F → class a +ℚ (class b -ℚ class c) ≡ (class a +ℚ class b) -ℚ class c
+ℚ--ℚ-pairs a b c D E F ha hb hc = let pa = of a D ha in let pb = of b E hb in let pc = of c F hc in q_ring (pa ⊞ (pb ⊟ pc)) ((pa ⊞ pb) ⊟ pc) (omega arith)

pub +ℚ--ℚ : (x y z : ℚ) → x +ℚ (y -ℚ z) ≡ (x +ℚ y) -ℚ z
+ℚ--ℚ = /_elim_prop₃ (λ x y z. x +ℚ (y -ℚ z) ≡ (x +ℚ y) -ℚ z) (λ x y z. /_set _ _) (λ a b c. +ℚ--ℚ-pairs a b c (suc a.1) (suc b.1) (suc c.1) refl refl refl)

-- ---- zero, one, and differences in turn
-ℚ--ℚ-pairs : (a b c : Pair) (D E F : ℕ) → suc a.1 ≡ D → suc b.1 ≡ E → suc c.1 ≡ F → (class a -ℚ class b) -ℚ class c ≡ class a -ℚ (class b +ℚ class c)
-ℚ--ℚ-pairs a b c D E F ha hb hc = let pa = of a D ha in let pb = of b E hb in let pc = of c F hc in q_ring (pa ⊟ pb ⊟ pc) (pa ⊟ (pb ⊞ pc)) (omega arith)

pub -ℚ--ℚ : (x y z : ℚ) → (x -ℚ y) -ℚ z ≡ x -ℚ (y +ℚ z)
-ℚ--ℚ = /_elim_prop₃ (λ x y z. (x -ℚ y) -ℚ z ≡ x -ℚ (y +ℚ z)) (λ x y z. /_set _ _) (λ a b c. -ℚ--ℚ-pairs a b c (suc a.1) (suc b.1) (suc c.1) refl refl refl)

zero-pairs : (a : Pair) (D : ℕ) → suc a.1 ≡ D → (class a +ℚ whole (pos 0) ≡ class a) × (class a *ℚ whole (pos 0) ≡ whole (pos 0)) × (class a *ℚ whole (pos 1) ≡ class a) × (class a -ℚ class a ≡ whole (pos 0))
zero-pairs a D h =
    let p = of a D h in let z = of (pos 0, 0) 1 refl in let i = of (pos 1, 0) 1 refl in
    (q_ring (p ⊞ z) p (omega arith), q_ring (p ⊠ z) z (omega arith), q_ring (p ⊠ i) p (omega arith), q_ring (p ⊟ p) z (omega arith))

pub +ℚ_zero : (x : ℚ) → x +ℚ whole (pos 0) ≡ x
+ℚ_zero = /_elim_prop (λ x. x +ℚ whole (pos 0) ≡ x) (λ x. /_set _ _) (λ a. (zero-pairs a (suc a.1) refl).0)

pub *ℚ_zero : (x : ℚ) → x *ℚ whole (pos 0) ≡ whole (pos 0)
*ℚ_zero = /_elim_prop (λ x. x *ℚ whole (pos 0) ≡ whole (pos 0)) (λ x. /_set _ _) (λ a. (zero-pairs a (suc a.1) refl).1)

pub *ℚ_one : (x : ℚ) → x *ℚ whole (pos 1) ≡ x
*ℚ_one = /_elim_prop (λ x. x *ℚ whole (pos 1) ≡ x) (λ x. /_set _ _) (λ a. (zero-pairs a (suc a.1) refl).2)

pub -ℚ_self : (x : ℚ) → x -ℚ x ≡ whole (pos 0)
-ℚ_self = /_elim_prop (λ x. x -ℚ x ≡ whole (pos 0)) (λ x. /_set _ _) (λ a. (zero-pairs a (suc a.1) refl).3)
