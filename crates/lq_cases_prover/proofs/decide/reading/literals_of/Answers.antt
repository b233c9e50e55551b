use Rattle.std.proofs.Common.{◌≡◌, ◌<◌, get_or, length, sym, ap, subst, ◌∙◌}
use Rattle.lq_logic_points.proofs.Covers.{goal_covered, hypotheses_covered}
use Rattle.lq_logic_predicates.specs.PredView.{formula_of, implication_of, pred_items}
use Rattle.lq_logic_predicates.specs.Reading.{formula_numbered}
use Rattle.lq_logic_predicates.specs.Table.{has_term}
use Rattle.lq_logic_predicates.specs.TableView.{terms_of}
use Rattle.lq_cases_prover.proofs.decide.reading.literals_of.Goals as goal

pub add_literals-requires-clause-numbered : goal.add_literals-requires-clause-numbered
add_literals-requires-clause-numbered c =
    let i = implication_of c.args.implication.now in
    let preds = pred_items c.args.implication.now.hypotheses in
    let k = c.loop-pred.pred-index in
    let n = c.pred-item.result in
    let terms = terms_of c.loop-pred.table in
    let is : n ≡ get_or preds k n = c.pred-item.is ∙ ap (λ l. get_or l k n) c.as_slice-pred-items.ensures in
    let inside : k < length preds = subst (λ l. k < length l) c.as_slice-pred-items.ensures c.loop-pred-test.true in
    subst (λ x. formula_numbered terms (formula_of x) ≡ terms) (sym is)
    (hypotheses_covered terms preds i.goal (λ t h. ap (λ l. has_term l t) (c.loop-pred.invariant.same ∙ c.requires) ∙ h) k n inside)

pub add_literals-requires-2-clause-numbered : goal.add_literals-requires-2-clause-numbered
add_literals-requires-2-clause-numbered c =
    goal_covered (terms_of c.loop-pred.table) (implication_of c.args.implication.now)
    (λ t h. ap (λ l. has_term l t) (c.loop-pred.invariant.same ∙ c.requires) ∙ h)
