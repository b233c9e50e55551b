-- The facts of a case hold at the values that its state gives.
use Rattle.std.proofs.Common.{◌≡◌, ℕ, zero, suc, ◌<◌, ℤ, map, List, [], ◌∷◌, true, false, Some, MatchBool, length, slice_get, slice_index, unwrap_or, pos, refl, sym, ap, ap₂, subst, ◌∙◌, eq-eqb}
use Rattle.std.proofs.lemmas.Bool.{ne_eqb}
use Rattle.std.proofs.lemmas.Option.{slice_get_within}
use Rattle.lq_prover_case.specs.State.PathState.{PathState, facts_in}
use Rattle.lq_prover_case.specs.State.RowState.{row_point}
use Rattle.lq_prover_proof_tree.specs.Trees.Met.{AllHold, FactHolds}
use Rattle.lq_prover_proof_tree.specs.Trees.Path.{Fact, row_fact, flag_fact, objects_fact, never}
use Rattle.lq_prover_proof_tree.specs.Trees.Proves.{rows_from}
use Rattle.lq_prover_proof_tree.specs.Trees.Tree.{merges}
use Rattle.lq_logic_rows.specs.Contradiction.{Solves}
use Rattle.lq_logic_rows.specs.Difference.{TermsBelow}
use Rattle.lq_logic_rows.specs.Row.{Row, RowHolds, Valuation, sum_at}
use Rattle.lq_logic_rows.specs.Steps.{valuation_of}
use Rattle.lq_base_numbers.specs.Rationals.Rational.{whole, ◌+ℚ◌, ◌*ℚ◌}
use Rattle.lq_base_numbers.specs.Rationals.RationalOrder.{◌≤ℚ◌}
use Rattle.lq_prover_case.specs.Objects.Joined.{differ, itself, onward}
use Rattle.lq_logic_points.specs.Values.{numbers_of, point_of_values}
use Rattle.lq_logic_points.specs.declared.values.PointValues.{PointValues}
use Rattle.lq_logic_predicates.specs.Points.{Point}
use Rattle.lq_logic_predicates.specs.Sum.{Sum}
use Rattle.lq_prover_decide.specs.Case.{Case, fact_of}
use Rattle.lq_prover_decide.specs.Deciding.{AllFactsBelow}
use Rattle.lq_prover_case.specs.Equations.Naming.{AllBelow, IsBelow, name_in}
use Rattle.lq_prover_decide.specs.Settled.{AreValuesOf, IsSettled}
use Rattle.lq_prover_decide.specs.declared.fact.Fact as code
use Rattle.lq_prover_case.proofs.EquationsLemmas.Equations.{adds_solves}

-- ---- rows below

pub all_below : (n : ℕ) (facts : List Fact) → AllFactsBelow n facts → AllBelow n facts
all_below n [] h k f e = cc
all_below n (row_fact r ∷ fs) h zero f e = let same : row_fact r ≡ f = cc in subst (IsBelow n) same h.0
all_below n (row_fact r ∷ fs) h (suc k) f e = all_below n fs h.1 k f e
all_below n (flag_fact x value ∷ fs) h zero f e = let same : flag_fact x value ≡ f = cc in subst (IsBelow n) same tt
all_below n (flag_fact x value ∷ fs) h (suc k) f e = all_below n fs h k f e
all_below n (objects_fact a b one ∷ fs) h zero f e = let same : objects_fact a b one ≡ f = cc in subst (IsBelow n) same tt
all_below n (objects_fact a b one ∷ fs) h (suc k) f e = all_below n fs h k f e
all_below n (never ∷ fs) h zero f e = let same : never ≡ f = cc in subst (IsBelow n) same tt
all_below n (never ∷ fs) h (suc k) f e = all_below n fs h k f e

same_sum : (v w : Valuation) (n : ℕ) (parts : List (ℕ × ℤ)) → ((k : ℕ) → k < n → v k ≡ w k) → TermsBelow n parts → sum_at v parts ≡ sum_at w parts
same_sum v w n [] h b = refl
same_sum v w n (part ∷ parts) h b = ap₂ (λ x y. whole part.1 *ℚ x +ℚ y) (h part.0 b.0) (same_sum v w n parts h b.1)

same_row : (v w : Valuation) (n : ℕ) (r : Row) → ((k : ℕ) → k < n → v k ≡ w k) → TermsBelow n r.parts → RowHolds w r → RowHolds v r
same_row v w n r h b k = subst (λ x. MatchBool r.equal (x ≡ whole (pos 0)) (x ≤ℚ whole (pos 0))) (sym (ap (λ x. x +ℚ whole r.constant) (same_sum v w n r.parts h b))) k

row_solved : (v : Valuation) (n : ℕ) (facts : List Fact) (k : ℕ) (r : Row) → Solves v (rows_from n facts) → slice_get facts k ≡ Some (row_fact r) → RowHolds v r
row_solved v n [] k r s e = cc
row_solved v n (row_fact x ∷ fs) zero r s e = let same : x ≡ r = cc in subst (RowHolds v) same s.0
row_solved v n (row_fact x ∷ fs) (suc k) r s e = row_solved v (suc n) fs k r s.1 e
row_solved v n (flag_fact x value ∷ fs) zero r s e = cc
row_solved v n (flag_fact x value ∷ fs) (suc k) r s e = row_solved v (suc n) fs k r s e
row_solved v n (objects_fact a b one ∷ fs) zero r s e = cc
row_solved v n (objects_fact a b one ∷ fs) (suc k) r s e = row_solved v (suc n) fs k r s e
row_solved v n (never ∷ fs) zero r s e = cc
row_solved v n (never ∷ fs) (suc k) r s e = row_solved v (suc n) fs k r s e

-- ---- each fact

pub class_is : (objects : List Sum) (c : Case) (s : PathState) (values : PointValues) (w : AreValuesOf objects c s values) (k : ℕ) (a : Sum) → slice_get objects k ≡ Some a
    → (point_of_values values).class_of a ≡ slice_index w.class_of k
class_is objects c s values w k a e = ap (λ o. unwrap_or o 0) (w.classes k a e)

fact_holds : (objects : List Sum) (c : Case) (s : PathState) (values : PointValues) → IsSettled objects c s → AreValuesOf objects c s values → AllFactsBelow (length c.terms) c.facts
    → ((k : ℕ) → slice_get c.facts k ≡ Some never → ⊥) → (k : ℕ) (f : Fact) → slice_get c.facts k ≡ Some f
    → FactHolds (valuation_of (numbers_of values)) (point_of_values values) f
fact_holds objects c s values i w below none k (row_fact r) e =
    same_row (valuation_of (numbers_of values)) (row_point s.rows) (length c.terms) r w.numbers (all_below (length c.terms) c.facts below k (row_fact r) e)
    (row_solved (row_point s.rows) 1 c.facts k r (adds_solves c.terms (row_point s.rows) c.facts (facts_in (name_in objects) s) i.adds i.solves) e)
fact_holds objects c s values i w below none k (flag_fact x value) e = ap (λ o. unwrap_or o false) (w.flags k x value e)
fact_holds objects c s values i w below none k (objects_fact a b true) e =
    let t = i.told k (objects_fact a b true) e in
    let l = slice_get_within objects t.left a t.is_left in
    let r = slice_get_within objects t.right b t.is_right in
    eq-eqb ((point_of_values values).class_of a) ((point_of_values values).class_of b)
    (class_is objects c s values w t.left a t.is_left ∙ (w.one t.left t.right l r).1 (t.number ∷ [], onward t.number [] t.left t.right t.right t.says (itself t.right))
    ∙ sym (class_is objects c s values w t.right b t.is_right))
fact_holds objects c s values i w below none k (objects_fact a b false) e =
    let t = i.told k (objects_fact a b false) e in
    let l = slice_get_within objects t.left a t.is_left in
    let r = slice_get_within objects t.right b t.is_right in
    ne_eqb ((point_of_values values).class_of a) ((point_of_values values).class_of b)
    (λ q.
    let one = (w.one t.left t.right l r).0 (sym (class_is objects c s values w t.left a t.is_left) ∙ q ∙ class_is objects c s values w t.right b t.is_right) in
    i.apart (merges t.number one.0) (differ t.number one.0 t.left t.right t.says one.1))
fact_holds objects c s values i w below none k never e = absurd (none k e)

all_hold : (v : Valuation) (p : Point) (facts : List Fact) → ((k : ℕ) (f : Fact) → slice_get facts k ≡ Some f → FactHolds v p f) → AllHold v p facts
all_hold v p [] h = tt
all_hold v p (f ∷ facts) h = (h 0 f refl, all_hold v p facts (λ k g e. h (suc k) g e))

pub facts_hold : (objects : List Sum) (c : Case) (s : PathState) (values : PointValues) → IsSettled objects c s → AreValuesOf objects c s values → AllFactsBelow (length c.terms) c.facts
    → ((k : ℕ) → slice_get c.facts k ≡ Some never → ⊥) → AllHold (valuation_of (numbers_of values)) (point_of_values values) c.facts
facts_hold objects c s values i w below none = all_hold (valuation_of (numbers_of values)) (point_of_values values) c.facts (fact_holds objects c s values i w below none)

is_never : (f : code.Fact) → fact_of f ≡ never → ⊥
is_never (code.TheVariants.Row r) e = cc
is_never (code.TheVariants.Flag x value) e = cc
is_never (code.TheVariants.Same a b one) e = cc

pub no_never : (facts : List code.Fact) (k : ℕ) → slice_get (map fact_of facts) k ≡ Some never → ⊥
no_never [] k e = cc
no_never (f ∷ facts) zero e = let same : fact_of f ≡ never = cc in is_never f same
no_never (f ∷ facts) (suc k) e = no_never facts k e
