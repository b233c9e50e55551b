-- Sides, and what an entry's sign makes of them.
use Rattle.std.proofs.Common.{◌≡◌, ℕ, pos, ◌<◌, inl, inr, refl, sym, ap, subst, ◌∙◌, [], ◌∷◌, Bool, true, false, if◌then◌else◌}
use Rattle.lq_base_numbers.specs.Rationals.Rational.{ℚ, whole, ◌*ℚ◌, neg_ℚ}
use Rattle.lq_base_numbers.specs.Rationals.RationalOrder.{NotNegative, other_sign}
use Rattle.lq_base_numbers.specs.Rationals.OrderLaws.{≤ℚ_trans, ≤ℚ_or_below, ≤ℚ_from_below, ≤ℚ_from_not_below, ≤ℚ_from_same, is_at_most, ≤ℚ_product, ≤ℚ_product_turned, NotNegative_of}
use Rattle.lq_base_numbers.specs.Rationals.Solver.{var, con, ◌⊖◌, ◌⊗◌, solve}
use Rattle.lq_prover_pivots.specs.Pivots.Ranges.{sum_below}
use Rattle.lq_logic_rows.specs.declared.bound.Side.{Side}
use Rattle.lq_logic_rows.specs.declared.bound.Side.TheVariants.{Lower, Upper}
use Rattle.lq_logic_rows.specs.Bounds.{other, Within, Beyond}
use Rattle.lq_prover_pivots.specs.Pivots.Pivots.{moves_to}
use Rattle.lq_prover_pivots.proofs.PivotsLemmas.Ranges.{sum_below-at_most}

pub within_same : (side : Side) (x y : ℚ) → x ≡ y → Within side x y
within_same Lower x y e = ≤ℚ_from_same y x (sym e)
within_same Upper x y e = ≤ℚ_from_same x y e

pub within_from_not : (side : Side) (x b : ℚ) → ¬ Beyond side x b → Within side x b
within_from_not Lower x b h = ≤ℚ_from_not_below b x h
within_from_not Upper x b h = ≤ℚ_from_not_below x b h

pub within_stable : (side : Side) (x b : ℚ) → ¬ (¬ Within side x b) → Within side x b
within_stable Lower x b h = elim (≤ℚ_or_below b x) [ inl p ↦ p | inr q ↦ absurd (h q) ]
within_stable Upper x b h = elim (≤ℚ_or_below x b) [ inl p ↦ p | inr q ↦ absurd (h q) ]

pub within_other : (side : Side) (x b : ℚ) → Beyond side x b → Within (other side) x b
within_other Lower x b h = ≤ℚ_from_below x b h
within_other Upper x b h = ≤ℚ_from_below b x h

pub clash : (side : Side) (y z b : ℚ) → Beyond side y b → Within side z b → Within (other side) z y → ⊥
clash Lower y z b beyond within less = beyond (≤ℚ_trans b z y within less)
clash Upper y z b beyond within less = beyond (≤ℚ_trans y z b less within)

pub within_sum : (side : Side) (n : ℕ) (f g : ℕ → ℚ) → ((j : ℕ) → j < n → Within side (f j) (g j)) → Within side (sum_below n f) (sum_below n g)
within_sum Lower n f g h = sum_below-at_most n g f h
within_sum Upper n f g h = sum_below-at_most n f g h

pub other_side : (s t : Side) → ¬ (s ≡ t) → s ≡ other t
other_side Lower Lower n = absurd (n refl)
other_side Lower Upper n = refl
other_side Upper Lower n = refl
other_side Upper Upper n = absurd (n refl)

-- ---- products
rises : (side : Side) (a y z : ℚ) → NotNegative a → Within (other side) z y → Within (other side) (a *ℚ z) (a *ℚ y)
rises Lower a y z s h = ≤ℚ_product a z y s h
rises Upper a y z s h = ≤ℚ_product a y z s h

falls : (side : Side) (a y z : ℚ) → NotNegative (neg_ℚ a) → Within side z y → Within (other side) (a *ℚ z) (a *ℚ y)
falls Lower a y z s h = ≤ℚ_product_turned a y z s h
falls Upper a y z s h = ≤ℚ_product_turned a z y s h

-- what keeps to the side to which it would have to move doesn't help
pub blocked : (side : Side) (a y z : ℚ) → Within (moves_to side a) z y → Within (other side) (a *ℚ z) (a *ℚ y)
blocked side a y z = by (is_at_most (whole (pos 0)) a) refl
  where
    by : (b : Bool) → is_at_most (whole (pos 0)) a ≡ b → Within (if b then other side else side) z y → Within (other side) (a *ℚ z) (a *ℚ y)
    by true e h = rises side a y z (NotNegative_of a (record { at_most = e })) h
    by false e h =
        falls side a y z
        (subst NotNegative (solve (a ∷ []) (con (pos 0) ⊖ (var 0 ⊖ con (pos 0))) (con (pos 0) ⊖ var 0) refl) (other_sign _ e)) h

pub nothing_moves : (side : Side) (a y z : ℚ) → a ≡ whole (pos 0) → Within side (a *ℚ z) (a *ℚ y)
nothing_moves side a y z e =
    within_same side (a *ℚ z) (a *ℚ y)
    (ap (λ t. t *ℚ z) e ∙ solve (z ∷ y ∷ []) (con (pos 0) ⊗ var 0) (con (pos 0) ⊗ var 1) refl ∙ ap (λ t. t *ℚ y) (sym e))
