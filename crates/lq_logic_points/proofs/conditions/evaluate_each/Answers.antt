use Rattle.std.proofs.Common.{◌≡◌, ◌<◌, List, All, Err, IfErr, true, length, sym, subst, rules}
use Rattle.lq_base_numbers.specs.declared.fractions.past.NumberPast.{NumberPast}
use Rattle.lq_logic_predicates.specs.Comparison.{Comparison}
use Rattle.lq_logic_predicates.specs.Literals.{comparisons_of}
use Rattle.lq_logic_predicates.specs.PredView.{formula_of}
use Rattle.lq_logic_predicates.specs.Reading.{reading_of}
use Rattle.lq_logic_predicates.specs.TableView.{terms_of}
use Rattle.lq_logic_predicates.specs.declared.pred.Pred.{Pred}
use Rattle.lq_logic_points.specs.declared.error.PointError.{PointError}
use Rattle.lq_logic_points.specs.declared.error.PointError.TheVariants.{Past}
use Rattle.lq_logic_points.specs.Evaluation.{IsStepOf, AreAmong}
use Rattle.lq_logic_points.proofs.Reading.{widened}
use Rattle.lq_logic_points.proofs.conditions.evaluate_each.Goals as goal

pub returns-in_err-evaluate-clause-step : goal.returns-in_err-evaluate-clause-step
returns-in_err-evaluate-clause-step c =
    let preds = c.args.preds.now in let i = c.loop-pred.pred-index in let pred = c.pred-item.result in let e = c.in_err-evaluate.field-0.0 in
    let numbers = c.args.numbers.now in let terms = terms_of c.args.table.now in
    let inside : i < length preds = c.loop-pred-test.true in
    let P = λ (x : PointError). (n : NumberPast) → x ≡ Past n → (literals : List Comparison) → All {X = Pred} (λ p. AreAmong literals (comparisons_of (reading_of true (formula_of p)))) preds → IsStepOf literals terms numbers n in
    let was : c.from_residual.result ≡ Err e = search rules in
    let here : P e = λ n h literals among.
    widened (comparisons_of (reading_of true (formula_of pred))) literals terms numbers n
    (subst (λ p. AreAmong literals (comparisons_of (reading_of true (formula_of p)))) (sym c.pred-item.is) (among i pred inside))
    (subst (λ l. IsStepOf (comparisons_of (reading_of true (formula_of pred))) l numbers n) c.loop-pred.invariant.same (c.in_err-evaluate.ensures.step n h)) in
    subst (λ r. IfErr r P) (sym was) here
