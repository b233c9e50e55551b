-- Two applications that agree at a point stand in one of five ways, and the rows of that way hold.
use Rattle.std.proofs.Common.{◌≡◌, ◌⊎◌, inl, inr, List, [], ◌∷◌, pos, refl, sym, ap, ap₂, ◌∙◌}
use Rattle.lq_base_numbers.specs.Rationals.Rational.{ℚ, whole, ◌+ℚ◌, ◌-ℚ◌}
use Rattle.lq_base_numbers.specs.Rationals.RationalOrder.{◌≤ℚ◌}
use Rattle.lq_base_numbers.specs.Rationals.OrderLaws.{at_most_by}
use Rattle.lq_base_numbers.specs.Rationals.Solver.{var, con, ◌⊕◌, ◌⊖◌, solve}
use Rattle.lq_logic_rows.specs.Row.{Row, Valuation, RowHolds}
use Rattle.lq_logic_predicates.specs.ClosedImplication.{AgreeOrApart, Agree}
use Rattle.lq_logic_predicates.specs.Comparison.{Comparison, IsRowOf}
use Rattle.lq_logic_predicates.specs.Literals.{equal_row, below_row}
use Rattle.lq_logic_predicates.specs.Points.{Point, form_at, scaled_value, ComparisonHolds}
use Rattle.lq_logic_predicates.specs.Sum.{Sum, mul, div, rem, len, measure}
use Rattle.lq_prover_proof_tree.specs.Trees.Proves.{ApplyTwo, products, quotients, remainders, ApplyOne, lengths, measures, AreNoLiterals, five_ways, AreRowsOf}
use Rattle.lq_prover_proof_tree.proofs.TreesLemmas.Meeting.{AllRowsHold}

-- ---- comparisons of two numbers

equal_level : (x y : ℚ) → x ≡ y → x -ℚ y +ℚ whole (pos 0) ≡ whole (pos 0)
equal_level x y e = ap (λ z. z -ℚ y +ℚ whole (pos 0)) e ∙ solve (y ∷ []) ((var 0 ⊖ var 0) ⊕ con (pos 0)) (con (pos 0)) refl

below_level : (x y : ℚ) → (x +ℚ whole (pos 1)) ≤ℚ y → (x -ℚ y +ℚ whole (pos 1)) ≤ℚ whole (pos 0)
below_level x y h = at_most_by (x ∷ y ∷ []) ((var 0 ⊖ var 1) ⊕ con (pos 1)) (con (pos 0)) (var 1 ⊖ (var 0 ⊕ con (pos 1))) refl h.at_most

pub equal_holds : (p : Point) (a b : Sum) → form_at p a ≡ form_at p b → ComparisonHolds p (equal_row a b)
equal_holds p a b e = equal_level (form_at p a) (form_at p b) e

below_holds : (p : Point) (a b : Sum) → (form_at p a +ℚ whole (pos 1)) ≤ℚ form_at p b → ComparisonHolds p (below_row a b)
below_holds p a b h = below_level (form_at p a) (form_at p b) h

-- ---- ways

abbrev pub AllCompare : Point → List Comparison → Type 0
AllCompare p [] = Unit {0}
AllCompare p (c ∷ cs) = ComparisonHolds p c × AllCompare p cs

abbrev pub SomeWay : Point → List (List Comparison) → Type 0
SomeWay p [] = ⊥
SomeWay p (cs ∷ ways) = AllCompare p cs ⊎ SomeWay p ways

way_of : (p : Point) (s a b t c d : Sum) (r q : ℚ) → form_at p s ≡ r → form_at p t ≡ q → AgreeOrApart p a b c d r q → SomeWay p (five_ways s a b t c d)
way_of p s a b t c d r q e f (inl h) =
    inl (equal_holds p a c h.0, (equal_holds p b d h.1, (equal_holds p s t (e ∙ h.2 ∙ sym f), tt)))
way_of p s a b t c d r q e f (inr (inl (inl h))) = inr (inl (below_holds p a c h, tt))
way_of p s a b t c d r q e f (inr (inl (inr h))) = inr (inr (inl (below_holds p c a h, tt)))
way_of p s a b t c d r q e f (inr (inr (inl h))) = inr (inr (inr (inl (below_holds p b d h, tt))))
way_of p s a b t c d r q e f (inr (inr (inr h))) = inr (inr (inr (inr (inl (below_holds p d b h, tt)))))

-- a product of two terms that are no literals is one term of its form
product_form : (p : Point) (a b : Sum) → AreNoLiterals a b → form_at p (mul a b) ≡ p.number (mul a b)
product_form p a b h =
    ap₂ (λ x y. scaled_value x y (form_at p a) (form_at p b) (p.number (mul a b))) h.0 h.1

pub some_way : (p : Point) (s a b t c d : Sum) → ApplyTwo s a b t c d → Agree p s t → SomeWay p (five_ways s a b t c d)
some_way p _ _ _ _ _ _ (products a b c d h k) g = way_of p (mul a b) a b (mul c d) c d _ _ (product_form p a b h) (product_form p c d k) g
some_way p _ _ _ _ _ _ (quotients a b c d) g = way_of p (div a b) a b (div c d) c d _ _ refl refl g
some_way p _ _ _ _ _ _ (remainders a b c d) g = way_of p (rem a b) a b (rem c d) c d _ _ refl refl g

pub one_way : (p : Point) (s a t b : Sum) → ApplyOne s a t b → Agree p s t → p.class_of a ≡ p.class_of b → ComparisonHolds p (equal_row s t)
one_way p _ _ _ _ (lengths a b) g h = equal_holds p (len a) (len b) (g h)
one_way p _ _ _ _ (measures f a b) g h = equal_holds p (measure f a) (measure f b) (g refl h)

-- ---- their rows

pub rows_hold : (terms : List Sum) (v : Valuation) (p : Point) (row_holds : (c : Comparison) (r : Row) → IsRowOf terms c r → ComparisonHolds p c → RowHolds v r)
    (cs : List Comparison) (rs : List Row) → AreRowsOf terms cs rs → AllCompare p cs → AllRowsHold v rs
rows_hold terms v p row_holds [] [] a h = tt
rows_hold terms v p row_holds (c ∷ cs) (r ∷ rs) a h = (row_holds c r a.0 h.0, rows_hold terms v p row_holds cs rs a.1 h.1)
rows_hold terms v p row_holds [] (r ∷ rs) a h = absurd a
rows_hold terms v p row_holds (c ∷ cs) [] a h = absurd a
