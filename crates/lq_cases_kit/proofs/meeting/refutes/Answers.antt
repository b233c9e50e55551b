use Rattle.std.proofs.Common.{◌≡◌, ◌∙◌, ◌<◌, true, get_or, length, map, sym, ap, subst}
use Rattle.std.proofs.lemmas.List.{get_or-map, length-map}
use Rattle.std.proofs.lemmas.List.Elements.{All-get_or}
use Rattle.lq_logic_points.proofs.Covers.{goal_covered, hypotheses_covered}
use Rattle.lq_logic_points.specs.Evaluation.{Evaluates}
use Rattle.lq_logic_points.specs.Values.{numbers_of, table_of, values_of}
use Rattle.lq_logic_predicates.specs.Formula.{Formula}
use Rattle.lq_logic_predicates.specs.PredView.{formula_of, implication_of, pred_items}
use Rattle.lq_logic_predicates.specs.Reading.{formula_numbered, reading_of}
use Rattle.lq_logic_predicates.specs.Table.{has_term}
use Rattle.lq_logic_predicates.specs.TableView.{terms_of}
use Rattle.lq_cases_kit.proofs.meeting.refutes.Goals as goal

pub meets-requires-clause-numbered : goal.meets-requires-clause-numbered
meets-requires-clause-numbered c =
    let i = implication_of c.args.implication.now in
    let preds = pred_items c.args.implication.now.hypotheses in
    let k = c.loop-pred.pred-index in
    let n = c.pred-item.result in
    let terms = terms_of c.loop-pred.table in
    let is : n ≡ get_or preds k n = c.pred-item.is ∙ ap (λ l. get_or l k n) c.as_slice-pred-items.ensures in
    let inside : k < length preds = subst (λ l. k < length l) c.as_slice-pred-items.ensures c.loop-pred-test.true in
    subst (λ x. formula_numbered terms (formula_of x) ≡ terms) (sym is)
    (hypotheses_covered terms preds i.goal (λ t h. ap (λ l. has_term l t) c.loop-pred.invariant ∙ h) k n inside)

pub meets-requires-clause-evaluates : goal.meets-requires-clause-evaluates
meets-requires-clause-evaluates c =
    let preds = pred_items c.args.implication.now.hypotheses in
    let k = c.loop-pred.pred-index in
    let n = c.pred-item.result in
    let P = λ (p : Formula). Evaluates (table_of (values_of c.args.point.now)) (numbers_of (values_of c.args.point.now)) (reading_of true p) in
    let is : n ≡ get_or preds k n = c.pred-item.is ∙ ap (λ l. get_or l k n) c.as_slice-pred-items.ensures in
    let inside : k < length preds = subst (λ l. k < length l) c.as_slice-pred-items.ensures c.loop-pred-test.true in
    subst (λ x. P (formula_of x)) (sym is)
    (subst P (get_or-map formula_of preds k n (formula_of n) inside)
    (All-get_or P (map formula_of preds) k (formula_of n) (subst (λ l. k < l) (sym (length-map preds formula_of)) inside) c.requires.evaluates.hypotheses))

pub meets-requires-2-clause-numbered : goal.meets-requires-2-clause-numbered
meets-requires-2-clause-numbered c =
    let i = implication_of c.args.implication.now in
    goal_covered (terms_of c.loop-pred.table) i (λ t h. ap (λ l. has_term l t) c.loop-pred.invariant ∙ h)
