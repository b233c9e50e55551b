use Rattle.std.proofs.Common.{◌≡◌, ◌∙◌, List, All, Bool, Result, Ok, refl, Err, IfOk, IfErr, OnOk, true, false, get_or, sym, subst, rules}
use Rattle.std.proofs.lemmas.List.Elements.{All-map}
use Rattle.lq_base_numbers.specs.declared.fractions.past.NumberPast.{NumberPast}
use Rattle.lq_logic_predicates.specs.Comparison.{CanGather}
use Rattle.lq_logic_predicates.specs.Sum.{Sum}
use Rattle.lq_logic_predicates.specs.declared.symbol.Symbol.{Symbol}
use Rattle.lq_logic_predicates.specs.ClosedImplication.{terms_in}
use Rattle.lq_logic_predicates.specs.Literals.{comparisons_of, all_pairs, implication_literals}
use Rattle.lq_logic_predicates.specs.PredView.{formula_of, implication_of, pred_items}
use Rattle.lq_logic_predicates.specs.Reading.{reading_of, formula_numbered, AllFitIn}
use Rattle.lq_logic_predicates.specs.TableView.{terms_of}
use Rattle.lq_logic_points.specs.declared.error.PointError.{PointError}
use Rattle.lq_logic_points.specs.declared.error.PointError.TheVariants.{Past}
use Rattle.lq_logic_points.specs.Agreeing.{AllAgree, HasAllArguments}
use Rattle.lq_logic_points.specs.Evaluation.{Evaluates, EvaluatesAll, IsStepOf, AreAmong}
use Rattle.lq_logic_points.specs.Values.{point_from}
use Rattle.lq_logic_points.proofs.Covers.{hypotheses_covered, goal_covered, all_arguments}
use Rattle.lq_logic_points.proofs.Literal.{hypothesis_literal, goal_literal, pair_literal, fits_among, all_among}
use Rattle.lq_logic_points.proofs.Reading.{widened}
use Rattle.lq_logic_points.proofs.conditions.is_point.Goals as goal

pub evaluate_each-requires-clause-has : goal.evaluate_each-requires-clause-has
evaluate_each-requires-clause-has c =
    let i = implication_of c.args.implication.now in let preds = pred_items c.args.implication.now.hypotheses in let terms = terms_of c.args.table.now in
    subst (λ l. All (λ p. formula_numbered terms (formula_of p) ≡ terms) l) (sym c.as_slice.ensures) (λ k d w. hypotheses_covered terms preds i.goal c.requires.terms k d w)

pub evaluate_each-requires-clause-fits : goal.evaluate_each-requires-clause-fits
evaluate_each-requires-clause-fits c =
    let i = implication_of c.args.implication.now in let preds = pred_items c.args.implication.now.hypotheses in
    subst (λ l. All (λ p. AllFitIn (reading_of true (formula_of p))) l) (sym c.as_slice.ensures)
    (λ k d w. fits_among (implication_literals i) (reading_of true (formula_of (get_or preds k d))) c.requires.gathers (hypothesis_literal preds i refl k d w))

pub returns-in_err-evaluate_each-clause-step : goal.returns-in_err-evaluate_each-clause-step
returns-in_err-evaluate_each-clause-step c =
    let i = implication_of c.args.implication.now in let preds = pred_items c.args.implication.now.hypotheses in let e = c.in_err-evaluate_each.field-0.0 in
    let P = λ (x : PointError). (n : NumberPast) → x ≡ Past n → IsStepOf (implication_literals i) (terms_of c.args.table.now) c.args.numbers.now n in
    let was : c.from_residual.result ≡ Err e = search rules in
    let here : P e = λ n h. c.in_err-evaluate_each.ensures.step n h (implication_literals i)
    (subst (λ l. All (λ p. AreAmong (implication_literals i) (comparisons_of (reading_of true (formula_of p)))) l) (sym c.as_slice.ensures) (λ k d w. hypothesis_literal preds i refl k d w)) in
    subst (λ r. IfErr r P) (sym was) here

pub evaluate-requires-clause-has : goal.evaluate-requires-clause-has
evaluate-requires-clause-has c =
    let i = implication_of c.args.implication.now in
    subst (λ l. formula_numbered l i.goal ≡ l) (sym c.in_ok-evaluate_each.ensures.same) (goal_covered (terms_of c.args.table.now) i c.requires.terms)

pub evaluate-requires-clause-fits : goal.evaluate-requires-clause-fits
evaluate-requires-clause-fits c =
    let i = implication_of c.args.implication.now in fits_among (implication_literals i) (reading_of false i.goal) c.requires.gathers (goal_literal i)

pub returns-in_err-evaluate-clause-step : goal.returns-in_err-evaluate-clause-step
returns-in_err-evaluate-clause-step c =
    let i = implication_of c.args.implication.now in let e = c.in_err-evaluate.field-0.0 in
    let P = λ (x : PointError). (n : NumberPast) → x ≡ Past n → IsStepOf (implication_literals i) (terms_of c.args.table.now) c.args.numbers.now n in
    let was : c.from_residual-in_err-evaluate.result ≡ Err e = search rules in
    let here : P e = λ n h. widened (comparisons_of (reading_of false i.goal)) (implication_literals i) (terms_of c.args.table.now) c.args.numbers.now n (goal_literal i)
    (subst (λ l. IsStepOf (comparisons_of (reading_of false i.goal)) l c.args.numbers.now n) c.in_ok-evaluate_each.ensures.same (c.in_err-evaluate.ensures.step n h)) in
    subst (λ r. IfErr r P) (sym was) here

pub all_agree-requires-clause-arguments : goal.all_agree-requires-clause-arguments
all_agree-requires-clause-arguments c =
    let i = implication_of c.args.implication.now in
    let same : terms_of c.evaluate.new.table ≡ terms_of c.args.table.now = c.in_ok-evaluate.ensures.same ∙ c.in_ok-evaluate_each.ensures.same in
    subst (λ l. HasAllArguments l (terms_of c.in_ok-terms.terms)) (sym same) (subst (λ m. HasAllArguments (terms_of c.args.table.now) m) (sym c.in_ok-terms.ensures) (all_arguments (terms_of c.args.table.now) i c.requires.terms))

pub all_agree-requires-clause-fits : goal.all_agree-requires-clause-fits
all_agree-requires-clause-fits c =
    let i = implication_of c.args.implication.now in
    subst (λ l. All CanGather (all_pairs l)) (sym c.in_ok-terms.ensures) (all_among (implication_literals i) (all_pairs (terms_in i)) c.requires.gathers (pair_literal i))

-- what follows from an Ok, and from an Err
on_ok : {X E : Type 0} (P : Type 0) (r : Result X E) → P → OnOk r P
on_ok P (Ok x) p = p
on_ok P (Err e) p = tt

each_error : {X : Type 0} {P Q : NumberPast → Type 0} (r : Result X PointError) → ((e : PointError) (n : NumberPast) → P n → Q n)
    → IfErr r (λ e. (n : NumberPast) → e ≡ Past n → P n) → IfErr r (λ e. (n : NumberPast) → e ≡ Past n → Q n)
each_error (Ok x) f h = tt
each_error (Err e) f h = λ n is. f e n (h n is)

pub returns-clause-answer : goal.returns-clause-answer
returns-clause-answer c =
    let i = implication_of c.args.implication.now in
    let same : terms_of c.evaluate.new.table ≡ terms_of c.args.table.now = c.in_ok-evaluate.ensures.same ∙ c.in_ok-evaluate_each.ensures.same in
    let Q = λ (l m : List Sum) (answer : Bool). (flags : List (Symbol × Bool)) →
    (answer ≡ true → AllAgree (point_from l c.args.numbers.now flags c.args.classes.now.entries) m) × (AllAgree (point_from l c.args.numbers.now flags c.args.classes.now.entries) m → answer ≡ true) in
    subst (λ m. IfOk c.all_agree.result (Q (terms_of c.args.table.now) m)) c.in_ok-terms.ensures
    (subst (λ l. IfOk c.all_agree.result (Q l (terms_of c.in_ok-terms.terms))) same c.all_agree.ensures.answer)

pub returns-clause-evaluates : goal.returns-clause-evaluates
returns-clause-evaluates c =
    let i = implication_of c.args.implication.now in let preds = pred_items c.args.implication.now.hypotheses in let terms = terms_of c.args.table.now in let numbers = c.args.numbers.now in
    on_ok (EvaluatesAll terms numbers i) c.all_agree.result (record {
      hypotheses = All-map (λ p. Evaluates terms numbers (reading_of true p)) formula_of preds
          (subst (λ l. All (λ p. Evaluates terms numbers (reading_of true (formula_of p))) l) c.as_slice.ensures c.in_ok-evaluate_each.ensures.ok);
      goal = subst (λ l. Evaluates l numbers (reading_of false i.goal)) c.in_ok-evaluate_each.ensures.same c.in_ok-evaluate.ensures.ok;
    })

pub returns-clause-step : goal.returns-clause-step
returns-clause-step c =
    let i = implication_of c.args.implication.now in
    let same : terms_of c.evaluate.new.table ≡ terms_of c.args.table.now = c.in_ok-evaluate.ensures.same ∙ c.in_ok-evaluate_each.ensures.same in
    each_error c.all_agree.result (λ e n h.
    widened (all_pairs (terms_in i)) (implication_literals i) (terms_of c.args.table.now) c.args.numbers.now n (pair_literal i)
    (subst (λ m. IsStepOf (all_pairs m) (terms_of c.args.table.now) c.args.numbers.now n) c.in_ok-terms.ensures h))
    (subst (λ l. IfErr c.all_agree.result (λ e. (n : NumberPast) → e ≡ Past n → IsStepOf (all_pairs (terms_of c.in_ok-terms.terms)) l c.args.numbers.now n)) same c.all_agree.ensures.step)
