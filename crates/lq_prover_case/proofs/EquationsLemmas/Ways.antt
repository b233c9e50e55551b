-- Two applications that stand in one of the five ways agree.
use Rattle.std.proofs.Common.{◌≡◌, inl, inr, List, [], ◌∷◌, pos, refl, sym, ap, ap₂, ◌∙◌, All, Contains}
use Rattle.std.proofs.lemmas.List.Elements.{All-cons, All-contains, All-nil}
use Rattle.lq_base_numbers.specs.Rationals.Rational.{ℚ, whole, ◌+ℚ◌, ◌-ℚ◌}
use Rattle.lq_base_numbers.specs.Rationals.RationalOrder.{◌≤ℚ◌}
use Rattle.lq_base_numbers.specs.Rationals.OrderLaws.{at_most_by}
use Rattle.lq_base_numbers.specs.Rationals.Solver.{var, con, ◌⊕◌, ◌⊖◌, solve}
use Rattle.lq_prover_proof_tree.specs.Trees.Proves.{AreNoLiterals, five_ways}
use Rattle.lq_prover_proof_tree.proofs.TreesLemmas.Comparing.{AllCompare}
use Rattle.lq_logic_predicates.specs.ClosedImplication.{AgreeOrApart}
use Rattle.lq_logic_predicates.specs.Comparison.{Comparison}
use Rattle.lq_logic_predicates.specs.Literals.{below_row, equal_row}
use Rattle.lq_logic_predicates.specs.Points.{ComparisonHolds, Point, form_at, scaled_value}
use Rattle.lq_logic_predicates.specs.Sum.{Sum, mul}

-- ---- what comparisons say

equal_numbers : (x y : ℚ) → x -ℚ y +ℚ whole (pos 0) ≡ whole (pos 0) → x ≡ y
equal_numbers x y e =
    solve (x ∷ y ∷ []) (var 0) (((var 0 ⊖ var 1) ⊕ con (pos 0)) ⊕ var 1) refl ∙ ap (λ z. z +ℚ y) e ∙ solve (y ∷ []) (con (pos 0) ⊕ var 0) (var 0) refl

below_numbers : (x y : ℚ) → (x -ℚ y +ℚ whole (pos 1)) ≤ℚ whole (pos 0) → (x +ℚ whole (pos 1)) ≤ℚ y
below_numbers x y h = at_most_by (x ∷ y ∷ []) (var 0 ⊕ con (pos 1)) (var 1) (con (pos 0) ⊖ ((var 0 ⊖ var 1) ⊕ con (pos 1))) refl h.at_most

equal_says : (p : Point) (a b : Sum) → ComparisonHolds p (equal_row a b) → form_at p a ≡ form_at p b
equal_says p a b h = equal_numbers (form_at p a) (form_at p b) h

below_says : (p : Point) (a b : Sum) → ComparisonHolds p (below_row a b) → (form_at p a +ℚ whole (pos 1)) ≤ℚ form_at p b
below_says p a b h = below_numbers (form_at p a) (form_at p b) h

-- ---- the five ways

AgreesBy : (p : Point) (a b d e : Sum) (r q : ℚ) → List Comparison → Type 0
AgreesBy p a b d e r q way = AllCompare p way → AgreeOrApart p a b d e r q

all_ways : (p : Point) (s a b t d e : Sum) (r q : ℚ) → form_at p s ≡ r → form_at p t ≡ q → All (AgreesBy p a b d e r q) (five_ways s a b t d e)
unfolding AgreesBy
all_ways p s a b t d e r q k l =
    let P = AgreesBy p a b d e r q in
    let one = equal_row a d ∷ (equal_row b e ∷ (equal_row s t ∷ [])) in
    let two = below_row a d ∷ [] in
    let three = below_row d a ∷ [] in
    let four = below_row b e ∷ [] in
    let five = below_row e b ∷ [] in
    All-cons P one (two ∷ (three ∷ (four ∷ (five ∷ [])))) (λ h. inl (equal_says p a d h.0, equal_says p b e h.1.0, sym k ∙ equal_says p s t h.1.1.0 ∙ l))
    (All-cons P two (three ∷ (four ∷ (five ∷ []))) (λ h. inr (inl (inl (below_says p a d h.0))))
    (All-cons P three (four ∷ (five ∷ [])) (λ h. inr (inl (inr (below_says p d a h.0))))
    (All-cons P four (five ∷ []) (λ h. inr (inr (inl (below_says p b e h.0))))
    (All-cons P five [] (λ h. inr (inr (inr (below_says p e b h.0)))) (All-nil P)))))

pub way_agrees : (p : Point) (s a b t d e : Sum) (r q : ℚ) (way : List Comparison) → form_at p s ≡ r → form_at p t ≡ q → Contains (five_ways s a b t d e) way → AllCompare p way
    → AgreeOrApart p a b d e r q
unfolding AgreesBy
way_agrees p s a b t d e r q way k l among h = All-contains (AgreesBy p a b d e r q) (five_ways s a b t d e) way (all_ways p s a b t d e r q k l) among h

-- a product of two terms that are no literals is one term of its form
pub product_form : (p : Point) (a b : Sum) → AreNoLiterals a b → form_at p (mul a b) ≡ p.number (mul a b)
product_form p a b h = ap₂ (λ x y. scaled_value x y (form_at p a) (form_at p b) (p.number (mul a b))) h.0 h.1
