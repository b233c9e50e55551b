use Rattle.std.proofs.Common.{◌≡◌, All, ◌∙◌, ◌<◌, ◌+◌, ◌++◌, ◌∷◌, [], false, true, get_or, length, map, take, refl, sym, ap, subst}
use Rattle.std.proofs.lemmas.List.{map-append, take_all}
use Rattle.std.proofs.lemmas.List.Elements.{All-nil}
use Rattle.lq_prover_proof_tree.specs.Trees.Path.{AreReadings}
use Rattle.lq_prover_case.proofs.EquationsLemmas.Sides.{seen-more}
use Rattle.lq_logic_points.proofs.Covers.{goal_covered, hypotheses_covered}
use Rattle.lq_logic_points.proofs.Literal.{fits_among, goal_literal, hypothesis_literal}
use Rattle.lq_logic_predicates.specs.ClosedImplication.{terms_in}
use Rattle.lq_logic_predicates.specs.Comparison.{CanGather}
use Rattle.lq_logic_predicates.specs.Literals.{each_literals, implication_literals}
use Rattle.lq_logic_predicates.specs.NnfView.{nnf_items, nnf_view}
use Rattle.lq_logic_predicates.specs.PredView.{formula_of, implication_of, pred_items}
use Rattle.lq_logic_predicates.specs.Reading.{AllFitIn, Gathers, all_of, formula_numbered, more, none, reading_of}
use Rattle.lq_logic_predicates.specs.Table.{has_term}
use Rattle.lq_logic_predicates.specs.TableView.{terms_of}
use Rattle.lq_prover_valid.proofs.Opening.{literals_push, predicates_gather, readings_push}
use Rattle.lq_prover_valid.proofs.Seen.{all_seen}
use Rattle.lq_prover_valid.proofs.readings.opening_reading.Goals as goal

pub loop-pred-init : goal.loop-pred-init
loop-pred-init c = record {
  same = refl;
  readings = subst (λ l. AreReadings (terms_of c.args.table.now) [] (map nnf_view l)) (sym c.in_ok-hypotheses.ensures) tt;
  gathers = All-nil CanGather;
}

pub read-requires : goal.read-requires
read-requires c =
    let i = implication_of c.args.implication.now in
    let preds = pred_items c.args.implication.now.hypotheses in
    let k = c.loop-pred.pred-index in
    let n = c.pred-item.result in
    let terms = terms_of c.loop-pred.table in
    let same : terms ≡ terms_in i = c.loop-pred.invariant.same ∙ c.requires in
    let is : n ≡ get_or preds k n = c.pred-item.is ∙ ap (λ l. get_or l k n) c.as_slice-pred-items.ensures in
    let inside : k < length preds = subst (λ l. k < length l) c.as_slice-pred-items.ensures c.loop-pred-test.true in
    subst (λ x. formula_numbered terms (formula_of x) ≡ terms) (sym is)
    (hypotheses_covered terms preds i.goal (λ t h. ap (λ l. has_term l t) same ∙ h) k n inside)

pub returns-in-None-clause-past : goal.returns-in-None-clause-past
returns-in-None-clause-past c = λ gathers.
    let i = implication_of c.args.implication.now in
    let preds = pred_items c.args.implication.now.hypotheses in
    let k = c.loop-pred.pred-index in
    let n = c.pred-item.result in
    let is : n ≡ get_or preds k n = c.pred-item.is ∙ ap (λ l. get_or l k n) c.as_slice-pred-items.ensures in
    let inside : k < length preds = subst (λ l. k < length l) c.as_slice-pred-items.ensures c.loop-pred-test.true in
    (rw c.in-None.is at c.in_ok-reading.ensures.past)
    (subst (λ x. AllFitIn (reading_of true (formula_of x))) (sym is)
    (fits_among (implication_literals i) (reading_of true (formula_of (get_or preds k n))) gathers (hypothesis_literal preds i refl k n inside)))

pub loop-pred-preserved : goal.loop-pred-preserved
loop-pred-preserved c =
    let n = c.pred-item.result in
    let old = terms_of c.loop-pred.table in
    let new = terms_of c.read.new.table in
    let items = c.as_slice-pred-items.result.now in
    let formulas = map formula_of (take c.loop-pred.pred-index items) in
    let views = map nnf_view (nnf_items c.loop-pred.hypotheses) in
    let r = c.in-Some.reading in
    let same : new ≡ old = rw c.in-Some.is at c.in_ok-reading.ensures.same in
    let pushed = ap (map nnf_view) c.in_ok-push-in-Some.ensures.ok ∙ map-append nnf_view (nnf_items c.loop-pred.hypotheses) (r ∷ []) in
    let more = seen-more formula_of items c.loop-pred.pred-index n n c.loop-pred-test.true c.pred-item.is in
    record {
      same = same ∙ c.loop-pred.invariant.same;
      readings = subst (λ ts. AreReadings ts (map formula_of (take (c.loop-pred.pred-index + 1) items)) (map nnf_view (nnf_items c.push.new.self))) (sym same)
          (subst (λ ps. AreReadings old ps (map nnf_view (nnf_items c.push.new.self))) (sym more)
          (subst (AreReadings old (formulas ++ formula_of n ∷ [])) (sym pushed)
          (readings_push old formulas views (formula_of n) (nnf_view r) c.loop-pred.invariant.readings (rw c.in-Some.is at c.in_ok-reading.ensures.reading))));
      gathers = subst (λ ps. All CanGather (each_literals ps)) (sym more)
          (literals_push formulas (formula_of n) c.loop-pred.invariant.gathers (rw c.in-Some.is at c.in_ok-reading.ensures.fits));
    }

pub read-requires-2 : goal.read-requires-2
read-requires-2 c =
    let i = implication_of c.args.implication.now in
    let terms = terms_of c.loop-pred.table in
    let same : terms ≡ terms_in i = c.loop-pred.invariant.same ∙ c.requires in
    goal_covered terms i (λ t h. ap (λ l. has_term l t) same ∙ h)

pub returns-in-None-2-clause-past : goal.returns-in-None-2-clause-past
returns-in-None-2-clause-past c = λ gathers.
    let i = implication_of c.args.implication.now in
    (rw c.in-None-2.is at c.in_ok-goal.ensures.past) (fits_among (implication_literals i) (reading_of false i.goal) gathers (goal_literal i))

pub returns-in_ok-both-in-Some-2-clause-opening : goal.returns-in_ok-both-in-Some-2-clause-opening
returns-in_ok-both-in-Some-2-clause-opening c =
    let i = implication_of c.args.implication.now in
    let preds = pred_items c.args.implication.now.hypotheses in
    let items = c.as_slice-pred-items.result.now in
    let k = c.loop-pred.pred-index in
    let views = map nnf_view (nnf_items c.loop-pred.hypotheses) in
    let r = nnf_view c.in-Some-2.goal in
    let same = c.loop-pred.invariant.same ∙ c.requires in
    let whole : map formula_of (take k items) ≡ i.hypotheses = ap (map formula_of) (take_all k items c.loop-pred-test.false ∙ c.as_slice-pred-items.ensures) in
    record {
      hypotheses = views;
      goal = r;
      are_hypotheses = subst (λ ts. AreReadings ts i.hypotheses views) same (subst (λ ps. AreReadings (terms_of c.loop-pred.table) ps views) whole c.loop-pred.invariant.readings);
      is_goal = subst (λ ts. Gathers ts (reading_of false i.goal) r) same (rw c.in-Some-2.is at c.in_ok-goal.ensures.reading);
      is = c.in_ok-both-in-Some-2.ensures ∙ ap (λ x. all_of (more x (more r none))) (all_seen c.loop-pred.hypotheses);
    }

pub returns-in_ok-both-in-Some-2-clause-gathers : goal.returns-in_ok-both-in-Some-2-clause-gathers
returns-in_ok-both-in-Some-2-clause-gathers c =
    let i = implication_of c.args.implication.now in
    let items = c.as_slice-pred-items.result.now in
    let k = c.loop-pred.pred-index in
    let whole : map formula_of (take k items) ≡ i.hypotheses = ap (map formula_of) (take_all k items c.loop-pred-test.false ∙ c.as_slice-pred-items.ensures) in
    predicates_gather i (subst (λ ps. All CanGather (each_literals ps)) whole c.loop-pred.invariant.gathers) (rw c.in-Some-2.is at c.in_ok-goal.ensures.fits)
