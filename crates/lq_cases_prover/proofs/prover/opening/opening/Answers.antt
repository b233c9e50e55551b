use Rattle.std.proofs.Common.{◌≡◌, ◌∙◌, ◌<◌, ◌∷◌, [], ap, arith, get_or, length, length-append, refl, subst, sym, true}
use Rattle.std.proofs.lemmas.List.Elements.{All-nil}
use Rattle.lq_logic_points.proofs.Covers.{goal_covered, hypotheses_covered}
use Rattle.lq_logic_predicates.specs.NnfView.{nnf_items, nnf_view}
use Rattle.lq_logic_predicates.specs.PredView.{formula_of, implication_of, pred_items}
use Rattle.lq_logic_predicates.specs.Reading.{Gathers, formula_numbered, reading_of}
use Rattle.lq_logic_predicates.specs.Table.{has_term}
use Rattle.lq_logic_predicates.specs.TableView.{terms_of}
use Rattle.lq_prover_search.specs.Search.Scope.{IsWithin}
use Rattle.lq_cases_prover.specs.Prover.Speaking.{AllWithin, SpeakOf}
use Rattle.lq_cases_prover.proofs.ProverLemmas.Speaking.{goal_speaks, hypothesis_speaks, speak_more}
use Rattle.lq_cases_prover.proofs.prover.opening.opening.Goals as goal

pub loop-pred-init : goal.loop-pred-init
loop-pred-init c = record {
  same = c.in_ok-table.ensures;
  count = ap length c.in_ok-readings.ensures;
  speak = λ s h. subst (AllWithin s) (sym c.in_ok-readings.ensures) (All-nil (λ r. IsWithin s (nnf_view r)));
}

pub read-requires : goal.read-requires
read-requires c =
    let i = implication_of c.args.implication.now in
    let preds = pred_items c.args.implication.now.hypotheses in
    let k = c.loop-pred.pred-index in
    let n = c.pred-item.result in
    let terms = terms_of c.loop-pred.table in
    let is : n ≡ get_or preds k n = c.pred-item.is ∙ ap (λ l. get_or l k n) c.as_slice-pred-items.ensures in
    let inside : k < length preds = subst (λ l. k < length l) c.as_slice-pred-items.ensures c.loop-pred-test.true in
    subst (λ x. formula_numbered terms (formula_of x) ≡ terms) (sym is)
    (hypotheses_covered terms preds i.goal (λ t h. ap (λ l. has_term l t) c.loop-pred.invariant.same ∙ h) k n inside)

pub loop-pred-preserved : goal.loop-pred-preserved
loop-pred-preserved c =
    let i = implication_of c.args.implication.now in
    let preds = pred_items c.args.implication.now.hypotheses in
    let k = c.loop-pred.pred-index in
    let n = c.pred-item.result in
    let old = terms_of c.loop-pred.table in
    let items = nnf_items c.loop-pred.readings in
    let r = c.in_ok-read.field-0 in
    let is : n ≡ get_or preds k n = c.pred-item.is ∙ ap (λ l. get_or l k n) c.as_slice-pred-items.ensures in
    let inside : k < length preds = subst (λ l. k < length l) c.as_slice-pred-items.ensures c.loop-pred-test.true in
    let speaks =
    hypothesis_speaks c.rows_say_what_comparisons_say.ensures.within i preds old k n (nnf_view r) refl c.loop-pred.invariant.same inside
    (subst (λ x. Gathers old (reading_of true (formula_of x)) (nnf_view r)) is c.in_ok-read.ensures.reading) in
    record {
      same = c.in_ok-read.ensures.same ∙ c.loop-pred.invariant.same;
      count = omega (arith, ap length c.in_ok-push.ensures.ok, length-append items (r ∷ []), c.loop-pred.invariant.count);
      speak = subst (SpeakOf i) (sym c.in_ok-push.ensures.ok) (speak_more i items r c.loop-pred.invariant.speak speaks);
    }

pub read-requires-2 : goal.read-requires-2
read-requires-2 c =
    let i = implication_of c.args.implication.now in
    let terms = terms_of c.loop-pred.table in
    goal_covered terms i (λ t h. ap (λ l. has_term l t) c.loop-pred.invariant.same ∙ h)

pub returns-clause-count : goal.returns-clause-count
returns-clause-count c =
    let items = nnf_items c.loop-pred.readings in
    let r = c.in_ok-read-2.field-0 in
    omega (
      arith,
      ap length c.in_ok-push-2.ensures.ok,
      length-append items (r ∷ []),
      c.loop-pred.invariant.count,
      c.loop-pred-test.false,
      c.loop-pred.auto.pred-index-end,
      ap length c.as_slice-pred-items.ensures,
    )

pub returns-clause-speak : goal.returns-clause-speak
returns-clause-speak c =
    let i = implication_of c.args.implication.now in
    let old = terms_of c.loop-pred.table in
    let items = nnf_items c.loop-pred.readings in
    let r = c.in_ok-read-2.field-0 in
    subst (SpeakOf i) (sym c.in_ok-push-2.ensures.ok)
    (speak_more i items r c.loop-pred.invariant.speak
    (goal_speaks c.rows_say_what_comparisons_say.ensures.within i old (nnf_view r) c.loop-pred.invariant.same c.in_ok-read-2.ensures.reading))
