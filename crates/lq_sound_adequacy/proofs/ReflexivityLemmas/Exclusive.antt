-- No point meets a predicate and its negation.
use Rattle.std.proofs.Common.{◌≡◌, ◌∙◌, ◌⊎◌, inl, inr, Bool, true, false, pos, [], ◌∷◌, refl, sym, ap, subst, arith}
use Rattle.std.proofs.Math.IntN.{ℤ}
use Rattle.std.proofs.lemmas.Int.{ints}
use Rattle.lq_base_numbers.specs.Rationals.Rational.{ℚ, whole as rational, ◌+ℚ◌, ◌-ℚ◌}
use Rattle.lq_base_numbers.specs.Rationals.RationalOrder.{◌≤ℚ◌, sum_at_most}
use Rattle.lq_base_numbers.specs.Rationals.OrderLaws.{≤ℚ_from_same}
use Rattle.lq_base_numbers.specs.Rationals.Solver.{var, con, ◌⊕◌, ◌⊖◌, solve}
use Rattle.lq_base_numbers.specs.Rationals.Whole.{whole_below}
use Rattle.lq_base_names.specs.declared.operation.CompareOp.{CompareOp}
use Rattle.lq_base_names.specs.declared.operation.CompareOp.TheVariants as op
use Rattle.lq_logic_predicates.specs.Formula as f
use Rattle.lq_logic_predicates.specs.Formula.{Formula}
use Rattle.lq_logic_predicates.specs.Points.{Point, Meets, form_at}
use Rattle.lq_logic_predicates.specs.Reading.{comparison_reading, reading_of}
use Rattle.lq_logic_predicates.specs.Sum.{Sum}

-- x - y + k, for whole k
abbrev gap : ℚ → ℚ → ℤ → ℚ
gap x y k = x -ℚ y +ℚ rational k

not_one : (rational (pos 1) ≤ℚ rational (pos 0)) → ⊥
not_one h = whole_below (pos 0) (pos 1) (omega (arith, ints)) h

-- at most, and below the other way round
apart : (x y : ℚ) → gap x y (pos 0) ≤ℚ rational (pos 0) → gap y x (pos 1) ≤ℚ rational (pos 0) → ⊥
apart x y h k =
    not_one (subst (λ (z : ℚ). z ≤ℚ rational (pos 0))
    (solve (x ∷ y ∷ []) (((var 0 ⊖ var 1) ⊕ con (pos 0)) ⊕ ((var 1 ⊖ var 0) ⊕ con (pos 1))) (con (pos 1)) refl)
    (sum_at_most (gap x y (pos 0)) (gap y x (pos 1)) h k))

-- equal, and the one below the other
equal_left : (x y : ℚ) → gap x y (pos 0) ≡ rational (pos 0) → gap y x (pos 1) ≤ℚ rational (pos 0) → ⊥
equal_left x y e k = apart x y (≤ℚ_from_same (gap x y (pos 0)) (rational (pos 0)) e) k

turned : (x y : ℚ) → gap x y (pos 0) ≡ rational (pos 0) → gap y x (pos 0) ≡ rational (pos 0)
turned x y e =
    solve (x ∷ y ∷ []) ((var 1 ⊖ var 0) ⊕ con (pos 0)) (con (pos 0) ⊖ ((var 0 ⊖ var 1) ⊕ con (pos 0))) refl
    ∙ ap (λ (z : ℚ). rational (pos 0) -ℚ z) e ∙ solve [] (con (pos 0) ⊖ con (pos 0)) (con (pos 0)) refl

equal_right : (x y : ℚ) → gap x y (pos 0) ≡ rational (pos 0) → gap x y (pos 1) ≤ℚ rational (pos 0) → ⊥
equal_right x y e k = equal_left y x (turned x y e) k

either_way : (x y : ℚ) → gap x y (pos 0) ≡ rational (pos 0)
    → (gap x y (pos 1) ≤ℚ rational (pos 0)) ⊎ ((gap y x (pos 1) ≤ℚ rational (pos 0)) ⊎ ⊥) → ⊥
either_way x y e (inl k) = equal_right x y e k
either_way x y e (inr (inl k)) = equal_left x y e k
either_way x y e (inr (inr k)) = k

module _ (p : Point) where
  compared : (o : CompareOp) (a b : Sum) → Meets p (comparison_reading true o a b) → Meets p (comparison_reading false o a b) → ⊥
  compared op.Eq a b h k = either_way (form_at p a) (form_at p b) h k
  compared op.Ne a b h k = either_way (form_at p a) (form_at p b) k h
  compared op.Lt a b h k = apart (form_at p b) (form_at p a) k h
  compared op.Le a b h k = apart (form_at p a) (form_at p b) h k
  compared op.Gt a b h k = apart (form_at p a) (form_at p b) k h
  compared op.Ge a b h k = apart (form_at p b) (form_at p a) h k

  two : {b : Bool} → b ≡ true → b ≡ false → ⊥
  two h k = no (sym h ∙ k)
    where
      no : true ≡ false → ⊥
      no z = cc

  pub exclusive : (q : Formula) → Meets p (reading_of true q) → Meets p (reading_of false q) → ⊥
  exclusive f.truth h k = k
  exclusive f.falsity h k = h
  exclusive (f.flag x) h k = two h k
  exclusive (f.compare o a b) h k = compared o a b h k
  exclusive (f.objects a b) h k = two h k
  exclusive (f.negation q) h k = exclusive q k h
  exclusive (f.conjunction q r) h (inl k) = exclusive q h.0 k
  exclusive (f.conjunction q r) h (inr (inl k)) = exclusive r h.1.0 k
  exclusive (f.conjunction q r) h (inr (inr k)) = k
  exclusive (f.disjunction q r) (inl h) k = exclusive q h k.0
  exclusive (f.disjunction q r) (inr (inl h)) k = exclusive r h k.1.0
  exclusive (f.disjunction q r) (inr (inr h)) k = h
  exclusive (f.equivalence q r) (inl h) (inl k) = exclusive r h.1.0 k.1.0
  exclusive (f.equivalence q r) (inl h) (inr (inl k)) = exclusive q h.0 k.0
  exclusive (f.equivalence q r) (inl h) (inr (inr k)) = k
  exclusive (f.equivalence q r) (inr (inl h)) (inl k) = exclusive q k.0 h.0
  exclusive (f.equivalence q r) (inr (inl h)) (inr (inl k)) = exclusive r k.1.0 h.1.0
  exclusive (f.equivalence q r) (inr (inl h)) (inr (inr k)) = k
  exclusive (f.equivalence q r) (inr (inr h)) k = h
