-- Two numbers and their difference.
use Rattle.std.proofs.Common.{◌≡◌, ◌⊎◌, inl, inr, [], ◌∷◌, pos, negsuc, refl, sym, ap, subst, ◌∙◌}
use Rattle.lq_base_numbers.specs.Rationals.Rational.{ℚ, whole, ◌+ℚ◌, ◌-ℚ◌}
use Rattle.lq_base_numbers.specs.Rationals.RationalOrder.{◌≤ℚ◌}
use Rattle.lq_base_numbers.specs.Rationals.OrderLaws.{at_most_by}
use Rattle.lq_base_numbers.specs.Rationals.Solver.{var, con, ◌⊕◌, ◌⊖◌, solve}
use Rattle.lq_logic_predicates.specs.ClosedImplication.{AreApart}

pub apart_from_difference : (x y d : ℚ) → d ≡ x -ℚ y → (d ≤ℚ whole (negsuc 0)) ⊎ (whole (pos 1) ≤ℚ d) → AreApart x y
apart_from_difference x y d e (inl h) =
    let k : (x -ℚ y) ≤ℚ whole (negsuc 0) = subst (λ z. z ≤ℚ whole (negsuc 0)) e h in
    inl (at_most_by (x ∷ y ∷ []) (var 0 ⊕ con (pos 1)) (var 1) (con (negsuc 0) ⊖ (var 0 ⊖ var 1)) refl k.at_most)
apart_from_difference x y d e (inr h) =
    let k : whole (pos 1) ≤ℚ (x -ℚ y) = subst (λ z. whole (pos 1) ≤ℚ z) e h in
    inr (at_most_by (x ∷ y ∷ []) (var 1 ⊕ con (pos 1)) (var 0) ((var 0 ⊖ var 1) ⊖ con (pos 1)) refl k.at_most)

pub difference_from_apart : (x y d : ℚ) → d ≡ x -ℚ y → AreApart x y → (d ≤ℚ whole (negsuc 0)) ⊎ (whole (pos 1) ≤ℚ d)
difference_from_apart x y d e (inl h) =
    inl (subst (λ z. z ≤ℚ whole (negsuc 0)) (sym e) (at_most_by (x ∷ y ∷ []) (var 0 ⊖ var 1) (con (negsuc 0)) (var 1 ⊖ (var 0 ⊕ con (pos 1))) refl h.at_most))
difference_from_apart x y d e (inr h) =
    inr (subst (λ z. whole (pos 1) ≤ℚ z) (sym e) (at_most_by (x ∷ y ∷ []) (con (pos 1)) (var 0 ⊖ var 1) (var 0 ⊖ (var 1 ⊕ con (pos 1))) refl h.at_most))

pub equal_from_difference : (x y d : ℚ) → d ≡ x -ℚ y → d ≡ whole (pos 0) → x ≡ y
equal_from_difference x y d e z =
    solve (x ∷ y ∷ []) (var 0) ((var 0 ⊖ var 1) ⊕ var 1) refl ∙ ap (λ w. w +ℚ y) (sym e ∙ z) ∙ solve (y ∷ []) (con (pos 0) ⊕ var 0) (var 0) refl

pub difference_from_equal : (x y d : ℚ) → d ≡ x -ℚ y → x ≡ y → d ≡ whole (pos 0)
difference_from_equal x y d e h = e ∙ ap (λ w. w -ℚ y) h ∙ solve (y ∷ []) (var 0 ⊖ var 0) (con (pos 0)) refl
