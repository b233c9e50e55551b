-- What can be asked of a goal at a point can be asked of each instance that it is made of.
use Rattle.std.proofs.Common.{◌≡◌, ℕ, zero, suc, ◌+◌, Bool, true, false, cond, List, [], ◌∷◌, map, Option, Some, None, slice_get, sym, ap, subst, arith}
use Rattle.lq_prover_proof_tree.specs.Literals.Gathered.{CanBeGathered}
use Rattle.lq_refined_types.specs.Parts.Assignment.{all_joined, joined}
use Rattle.lq_refined_types.specs.Parts.Flowing.{picked}
use Rattle.lq_refined_types.specs.Parts.Substitution.{Subst, formula_by}
use Rattle.lq_logic_points.proofs.Literal.{fits_among, goal_literal}
use Rattle.lq_logic_points.specs.Evaluation.{EvaluatesAll}
use Rattle.lq_logic_points.specs.Values.{numbers_of, table_of, values_of}
use Rattle.lq_logic_points.specs.declared.point.Point.{Point}
use Rattle.lq_logic_predicates.specs.Again.{Extends-formula, formula_again}
use Rattle.lq_logic_predicates.specs.ClosedImplication.{ClosedImplication, each_numbered, terms_in}
use Rattle.lq_logic_predicates.specs.Formula.{Formula, conjunction}
use Rattle.lq_logic_predicates.specs.Growing.{Extends-refl, Extends-same}
use Rattle.lq_logic_predicates.specs.Literals.{implication_literals}
use Rattle.lq_logic_predicates.specs.Reading.{formula_numbered, reading_of}
use Rattle.lq_logic_predicates.specs.Sum.{Sum}
use Rattle.lq_logic_predicates.specs.Table.{Extends}
use Rattle.lq_solve_strongest.specs.Weaken.Refuting.{AreAskable, IsAskable}

numbered_both : (ts : List Sum) (p q : Formula) → formula_numbered ts (conjunction p q) ≡ ts → (formula_numbered ts p ≡ ts) × (formula_numbered ts q ≡ ts)
numbered_both ts p q e =
    let first : List Sum = formula_numbered ts p in
    (formula_again ts ts p (subst (Extends first) e (Extends-formula first q)), formula_again first ts q (Extends-same (formula_numbered first q) ts (sym e)))

both_askable : (p : Point) (a b : Formula) → IsAskable p (conjunction a b) → IsAskable p a × IsAskable p b
both_askable p a b h =
    let n = numbered_both (table_of (values_of p)) a b h.numbered in
    (record { numbered = n.0; fits = h.fits.0; evaluates = h.evaluates.0 }, record { numbered = n.1; fits = h.fits.1.0; evaluates = h.evaluates.1.0 })

abbrev EachAskable : Point → List Formula → Type 0
EachAskable p [] = Unit {0}
EachAskable p (q ∷ qs) = IsAskable p q × EachAskable p qs

joined_askable : (p : Point) (a : Formula) (qs : List Formula) → IsAskable p (joined a qs) → IsAskable p a × EachAskable p qs
joined_askable p a [] h = (h, tt)
joined_askable p a (q ∷ qs) h =
    let r = joined_askable p (conjunction a q) qs h in
    let b = both_askable p a q r.0 in (b.0, (b.1, r.1))

each_askable : (p : Point) (qs : List Formula) → IsAskable p (all_joined qs) → EachAskable p qs
each_askable p [] h = tt
each_askable p (q ∷ qs) h = joined_askable p q qs h

abbrev the : {X : Type 0} → X → Option X → X
the a None = a
the a (Some x) = x

chosen_askable : (p : Point) (f : ℕ → Bool) (σ : Subst) (k : ℕ) (qs : List Formula) → EachAskable p (map (formula_by σ) (picked f k qs)) → (n : ℕ) (q : Formula)
    → f (k + n) ≡ true → slice_get qs n ≡ Some q → IsAskable p (formula_by σ q)
chosen_askable p f σ k [] h n q c e = absurd (cc)
chosen_askable p f σ k (a ∷ qs) h zero q c e = by (f k) (subst (λ j. f j ≡ true) (omega arith) c) h
  where
    is : a ≡ q
    is = ap (the a) e

    by : (b : Bool) → b ≡ true → EachAskable p (map (formula_by σ) (cond b (a ∷ picked f (suc k) qs) (picked f (suc k) qs))) → IsAskable p (formula_by σ q)
    by true t h = subst (λ x. IsAskable p (formula_by σ x)) is h.0
    by false t h = absurd (cc)
chosen_askable p f σ k (a ∷ qs) h (suc n) q c e =
    by (f k) h (λ r. chosen_askable p f σ (suc k) qs r n q (subst (λ j. f j ≡ true) (omega arith) c) e)
  where
    by : (b : Bool) → EachAskable p (map (formula_by σ) (cond b (a ∷ picked f (suc k) qs) (picked f (suc k) qs)))
        → (EachAskable p (map (formula_by σ) (picked f (suc k) qs)) → IsAskable p (formula_by σ q)) → IsAskable p (formula_by σ q)
    by true h rest = rest h.1
    by false h rest = rest h

goal_askable : (i : ClosedImplication) (p : Point) → CanBeGathered i → table_of (values_of p) ≡ terms_in i → EvaluatesAll (table_of (values_of p)) (numbers_of (values_of p)) i
    → IsAskable p i.goal
goal_askable i p g t e = record {
  numbered = subst (λ ts. formula_numbered ts i.goal ≡ ts) (sym t) (formula_again (each_numbered [] i.hypotheses) (terms_in i) i.goal (Extends-refl (terms_in i)));
  fits = fits_among (implication_literals i) (reading_of false i.goal) g (goal_literal i);
  evaluates = e.goal;
}

-- of an implication whose goal is the conjunction of the chosen ones of these instances
pub instances_askable : (i : ClosedImplication) (p : Point) (chosen : ℕ → Bool) (σ : Subst) (instances : List Formula) → i.goal ≡ all_joined (map (formula_by σ) (picked chosen 0 instances))
    → CanBeGathered i → table_of (values_of p) ≡ terms_in i → EvaluatesAll (table_of (values_of p)) (numbers_of (values_of p)) i → AreAskable p chosen σ instances
instances_askable i p chosen σ instances is g t e k q c at =
    chosen_askable p chosen σ 0 instances (each_askable p (map (formula_by σ) (picked chosen 0 instances)) (subst (IsAskable p) is (goal_askable i p g t e))) k q
    (subst (λ j. chosen j ≡ true) (omega arith) c) at
