-- Signs: which multipliers are fair, and what a blocked entry gives.
use Rattle.std.proofs.Common.{◌≡◌, pos, inl, inr, arith, refl, sym, ap, subst, ◌∙◌, Bool, true, false, if◌then◌else◌, [], ◌∷◌, MatchBool}
use Rattle.std.proofs.Math.IntN.{ℤ}
use Rattle.std.specs.Int.Signed.{◌<ℤ◌}
use Rattle.std.proofs.lemmas.Int.{ints}
use Rattle.lq_base_numbers.specs.Rationals.Rational.{ℚ, whole, ◌+ℚ◌, ◌-ℚ◌, ◌*ℚ◌, neg_ℚ}
use Rattle.lq_base_numbers.specs.Rationals.RationalOrder.{◌≤ℚ◌, ◌<ℚ◌, NotNegative}
use Rattle.lq_base_numbers.specs.Rationals.OrderLaws.{≤ℚ_sum, ≤ℚ_from_below, ≤ℚ_from_same, ≤ℚ_product, ≤ℚ_product_turned, ≤ℚ_uncross, NotNegative_of, of_NotNegative, is_at_most, <ℚ-≤ℚ_trans, ≤ℚ-<ℚ_trans, difference_above_zero, <ℚ_apart}
use Rattle.lq_base_numbers.specs.Rationals.Whole.{whole_below}
use Rattle.lq_base_numbers.specs.Rationals.Solver.{var, con, ◌⊕◌, ◌⊖◌, ◌⊗◌, solve}
use Rattle.lq_prover_simplex.specs.declared.row.Bound.{Bound}
use Rattle.lq_logic_rows.specs.declared.bound.Side.{Side}
use Rattle.lq_logic_rows.specs.declared.bound.Side.TheVariants.{Lower, Upper}
use Rattle.lq_prover_simplex.specs.Standing.{signed, scale_of}
use Rattle.lq_prover_simplex.specs.Bounds.{other, Within, Beyond, IsOn, blocking_of}
use Rattle.lq_prover_simplex.specs.Conflicts.{toward, negates}
use Rattle.lq_base_numbers.specs.Rationals.RationalQuotient.{◌/ℚ◌, /ℚ_is}

-- the two signs of a factor
pub data Sign (side : Side) (f : ℚ) : Type 0 where
  below : f ≤ℚ whole (pos 0) → blocking_of side f ≡ side → Sign side f
  above : whole (pos 0) ≤ℚ f → blocking_of side f ≡ other side → Sign side f

pub sign : (side : Side) (f : ℚ) → Sign side f
sign side f = by (is_at_most f (whole (pos 0))) refl
  where
    by : (b : Bool) → is_at_most f (whole (pos 0)) ≡ b → Sign side f
    by true e = below (record { at_most = e }) (ap (λ b. if b then side else other side) e)
    by false e = above (≤ℚ_from_below (whole (pos 0)) f (λ h. apart (sym e ∙ h.at_most))) (ap (λ b. if b then side else other side) e)
      where
        apart : false ≡ true → ⊥
        apart h = cc

pub one_above : whole (pos 0) <ℚ whole (pos 1)
one_above = whole_below (pos 0) (pos 1) (omega (arith, ints))

pub other_other : (side : Side) → other (other side) ≡ side
other_other Lower = refl
other_other Upper = refl

pub blocking_one : (side : Side) (f : ℚ) → f ≡ whole (pos 1) → blocking_of side f ≡ other side
blocking_one side f e = by (is_at_most f (whole (pos 0))) refl
  where
    by : (b : Bool) → is_at_most f (whole (pos 0)) ≡ b → blocking_of side f ≡ other side
    by true q = absurd (one_above (subst (λ t. t ≤ℚ whole (pos 0)) e (record { at_most = q })))
    by false q = ap (λ b. if b then side else other side) q

-- ---- fair multipliers
quotient_sign : (d : ℤ) (m g : ℚ) → pos 0 <ℤ d → m *ℚ whole d ≡ g → whole (pos 0) ≤ℚ g → NotNegative m
quotient_sign d m g h e k =
    NotNegative_of m
    (≤ℚ_uncross (whole d) (whole (pos 0)) m (whole_below (pos 0) d h)
    (subst (λ t. t ≤ℚ (whole d *ℚ m)) (solve (whole d ∷ []) (con (pos 0)) (var 0 ⊗ con (pos 0)) refl)
    (subst (λ t. whole (pos 0) ≤ℚ t) (sym (solve (whole d ∷ m ∷ []) (var 0 ⊗ var 1) (var 1 ⊗ var 0) refl ∙ e)) k)))

turned_product : (m d g : ℚ) → m *ℚ neg_ℚ d ≡ g → m *ℚ d ≡ neg_ℚ g
turned_product m d g e = solve (m ∷ d ∷ []) (var 0 ⊗ var 1) (con (pos 0) ⊖ var 0 ⊗ (con (pos 0) ⊖ var 1)) refl ∙ ap neg_ℚ e

negated_above : (f : ℚ) → f ≤ℚ whole (pos 0) → whole (pos 0) ≤ℚ neg_ℚ f
negated_above f h = of_NotNegative (neg_ℚ f) h.at_most

twice : (f : ℚ) → neg_ℚ (neg_ℚ f) ≡ f
twice f = solve (f ∷ []) (con (pos 0) ⊖ (con (pos 0) ⊖ var 0)) (var 0) refl

scale_turned : (b : Bound) (t : Bool) → b.turned ≡ t → scale_of b ≡ signed t (whole b.divisor)
scale_turned b t e = ap (λ s. signed s (whole b.divisor)) e

on_lower : (equal turned : Bool) → IsOn Lower equal turned → equal ≡ false → turned ≡ true
on_lower equal turned (inl e) h = absurd (let k : ⊥ = (let q : true ≡ false = sym e ∙ h in cc) in k)
on_lower equal turned (inr e) h = e

on_upper : (equal turned : Bool) → IsOn Upper equal turned → equal ≡ false → turned ≡ false
on_upper equal turned (inl e) h = absurd (let k : ⊥ = (let q : true ≡ false = sym e ∙ h in cc) in k)
on_upper equal turned (inr e) h = e

fair_by : (side : Side) (f m : ℚ) (b : Bound) (equal : Bool) → pos 0 <ℤ b.divisor → IsOn (blocking_of side f) equal b.turned → m *ℚ scale_of b ≡ toward side f → equal ≡ false → Sign side f → NotNegative m
fair_by Lower f m b equal d on e q (below h s) =
    let t : b.turned ≡ true = on_lower equal b.turned (subst (λ x. IsOn x equal b.turned) s on) q in
    quotient_sign b.divisor m (neg_ℚ f) d (turned_product m (whole b.divisor) f (ap (λ x. m *ℚ x) (sym (scale_turned b true t)) ∙ e)) (negated_above f h)
fair_by Lower f m b equal d on e q (above h s) =
    let t : b.turned ≡ false = on_upper equal b.turned (subst (λ x. IsOn x equal b.turned) s on) q in
    quotient_sign b.divisor m f d (ap (λ x. m *ℚ x) (sym (scale_turned b false t)) ∙ e) h
fair_by Upper f m b equal d on e q (below h s) =
    let t : b.turned ≡ false = on_upper equal b.turned (subst (λ x. IsOn x equal b.turned) s on) q in
    quotient_sign b.divisor m (neg_ℚ f) d (ap (λ x. m *ℚ x) (sym (scale_turned b false t)) ∙ e) (negated_above f h)
fair_by Upper f m b equal d on e q (above h s) =
    let t : b.turned ≡ true = on_lower equal b.turned (subst (λ x. IsOn x equal b.turned) s on) q in
    quotient_sign b.divisor m f d (turned_product m (whole b.divisor) (neg_ℚ f) (ap (λ x. m *ℚ x) (sym (scale_turned b true t)) ∙ e) ∙ twice f) h

pub fair : (side : Side) (f m : ℚ) (b : Bound) (equal : Bool) → pos 0 <ℤ b.divisor → IsOn (blocking_of side f) equal b.turned → m *ℚ scale_of b ≡ toward side f
    → MatchBool equal (Unit {0}) (NotNegative m)
fair side f m b equal d on e = by equal refl
  where
    by : (t : Bool) → equal ≡ t → MatchBool t (Unit {0}) (NotNegative m)
    by true q = tt
    by false q = fair_by side f m b equal d on e q (sign side f)

-- ---- how a multiplier is made
multiplier_by : (side : Side) (turned : Bool) (d q f : ℚ) → q *ℚ d ≡ f → signed (negates side turned) q *ℚ signed turned d ≡ toward side f
multiplier_by Lower true d q f e = solve (q ∷ d ∷ []) ((con (pos 0) ⊖ var 0) ⊗ (con (pos 0) ⊖ var 1)) (var 0 ⊗ var 1) refl ∙ e
multiplier_by Lower false d q f e = e
multiplier_by Upper true d q f e = solve (q ∷ d ∷ []) (var 0 ⊗ (con (pos 0) ⊖ var 1)) (con (pos 0) ⊖ var 0 ⊗ var 1) refl ∙ ap neg_ℚ e
multiplier_by Upper false d q f e = solve (q ∷ d ∷ []) ((con (pos 0) ⊖ var 0) ⊗ var 1) (con (pos 0) ⊖ var 0 ⊗ var 1) refl ∙ ap neg_ℚ e

pub divisor_apart : (d : ℤ) (w : ℚ) → pos 0 <ℤ d → w ≡ whole d → ¬ (w ≡ whole (pos 0))
divisor_apart d w h e z = <ℚ_apart (whole (pos 0)) (whole d) (whole_below (pos 0) d h) (sym z ∙ e)

pub multiplier_is : (side : Side) (b : Bound) (negated : Bool) (w q f m : ℚ) → pos 0 <ℤ b.divisor → w ≡ whole b.divisor → q ≡ f /ℚ w → negated ≡ negates side b.turned → m ≡ signed negated q
    → m *ℚ scale_of b ≡ toward side f
multiplier_is side b negated w q f m h e d n s =
    let product : q *ℚ whole b.divisor ≡ f = ap (λ t. q *ℚ t) (sym e) ∙ ap (λ t. t *ℚ w) d ∙ /ℚ_is f w (divisor_apart b.divisor w h e) in
    ap (λ t. t *ℚ scale_of b) (s ∙ ap (λ x. signed x q) n) ∙ multiplier_by side b.turned (whole b.divisor) q f product

-- ---- a blocked entry keeps the sum from the bound
blocked_by : (side : Side) (f x b : ℚ) → Within (other (blocking_of side f)) x b → Sign side f → Within side (f *ℚ x) (f *ℚ b)
blocked_by Lower f x b w (below h s) = ≤ℚ_product_turned f x b h.at_most (subst (λ t. Within (other t) x b) s w)
blocked_by Lower f x b w (above h s) = ≤ℚ_product f b x (NotNegative_of f h) (subst (λ t. Within (other t) x b) s w)
blocked_by Upper f x b w (below h s) = ≤ℚ_product_turned f b x h.at_most (subst (λ t. Within (other t) x b) s w)
blocked_by Upper f x b w (above h s) = ≤ℚ_product f x b (NotNegative_of f h) (subst (λ t. Within (other t) x b) s w)

pub blocked : (side : Side) (f x b : ℚ) → Within (other (blocking_of side f)) x b → Within side (f *ℚ x) (f *ℚ b)
blocked side f x b w = blocked_by side f x b w (sign side f)

pub within_sum : (side : Side) (x a y b : ℚ) → Within side x a → Within side y b → Within side (x +ℚ y) (a +ℚ b)
within_sum Lower x a y b h k = ≤ℚ_sum a x b y h k
within_sum Upper x a y b h k = ≤ℚ_sum x a y b h k

pub within_same : (side : Side) (x y : ℚ) → x ≡ y → Within side x y
within_same Lower x y e = ≤ℚ_from_same y x (sym e)
within_same Upper x y e = ≤ℚ_from_same x y e

pub not_both : (side : Side) (x b : ℚ) → Within side x b → Beyond side x b → ⊥
not_both Lower x b w h = h w
not_both Upper x b w h = h w

-- the gap: the total is beyond the bound
pub gap_above : (side : Side) (x total b : ℚ) → Within side x total → Beyond side x b → whole (pos 0) <ℚ toward side (b -ℚ total)
gap_above Lower x total b w h = difference_above_zero total b (≤ℚ-<ℚ_trans total x b w h)
gap_above Upper x total b w h =
    subst (λ t. whole (pos 0) <ℚ t) (solve (total ∷ b ∷ []) (var 0 ⊖ var 1) (con (pos 0) ⊖ (var 1 ⊖ var 0)) refl)
    (difference_above_zero b total (<ℚ-≤ℚ_trans b x total h w))

-- ---- sums on the one side or the other
pub toward_more : (side : Side) (c total f y b : ℚ) → toward side (c -ℚ total) +ℚ toward side f *ℚ (y -ℚ b) ≡ toward side ((c +ℚ f *ℚ y) -ℚ (total +ℚ f *ℚ b))
toward_more Lower c total f y b = solve (c ∷ total ∷ f ∷ y ∷ b ∷ []) ((var 0 ⊖ var 1) ⊕ var 2 ⊗ (var 3 ⊖ var 4)) ((var 0 ⊕ var 2 ⊗ var 3) ⊖ (var 1 ⊕ var 2 ⊗ var 4)) refl
toward_more Upper c total f y b =
    solve (c ∷ total ∷ f ∷ y ∷ b ∷ []) ((con (pos 0) ⊖ (var 0 ⊖ var 1)) ⊕ (con (pos 0) ⊖ var 2) ⊗ (var 3 ⊖ var 4))
    (con (pos 0) ⊖ ((var 0 ⊕ var 2 ⊗ var 3) ⊖ (var 1 ⊕ var 2 ⊗ var 4))) refl

pub toward_end : (side : Side) (one y b total : ℚ) → one ≡ whole (pos 1) → toward (other side) one *ℚ (y -ℚ b) +ℚ toward side (y -ℚ total) ≡ toward side (b -ℚ total)
toward_end Lower one y b total e =
    ap (λ t. neg_ℚ t *ℚ (y -ℚ b) +ℚ (y -ℚ total)) e
    ∙ solve (y ∷ b ∷ total ∷ []) ((con (pos 0) ⊖ con (pos 1)) ⊗ (var 0 ⊖ var 1) ⊕ (var 0 ⊖ var 2)) (var 1 ⊖ var 2) refl
toward_end Upper one y b total e =
    ap (λ t. t *ℚ (y -ℚ b) +ℚ neg_ℚ (y -ℚ total)) e
    ∙ solve (y ∷ b ∷ total ∷ []) (con (pos 1) ⊗ (var 0 ⊖ var 1) ⊕ (con (pos 0) ⊖ (var 0 ⊖ var 2))) (con (pos 0) ⊖ (var 1 ⊖ var 2)) refl

pub toward_nothing : (side : Side) → toward side (whole (pos 0) -ℚ whole (pos 0)) ≡ whole (pos 0)
toward_nothing Lower = solve [] (con (pos 0) ⊖ con (pos 0)) (con (pos 0)) refl
toward_nothing Upper = solve [] (con (pos 0) ⊖ (con (pos 0) ⊖ con (pos 0))) (con (pos 0)) refl
