use Rattle.std.proofs.Common.{true, All, Result, Ok, Err, IfOk, IsTrue, subst}
use Rattle.std.proofs.lemmas.List.Elements.{All-map}
use Rattle.lq_logic_predicates.specs.Comparison.{CanGather}
use Rattle.lq_logic_predicates.specs.Literals.{all_pairs, implication_literals}
use Rattle.lq_logic_predicates.specs.PredView.{formula_of, implication_of, pred_items}
use Rattle.lq_logic_predicates.specs.Reading.{reading_of, AllFitIn}
use Rattle.lq_logic_predicates.specs.TableView.{terms_of}
use Rattle.lq_cases_engines.proofs.EnginesLemmas.Fitting.{implication_fits}
use Rattle.lq_cases_engines.proofs.engines.askable.all_fit.Goals as goal

each_ok : {X E : Type 0} (P Q : X → Type 0) (r : Result X E) → ((x : X) → P x → Q x) → IfOk r P → IfOk r Q
each_ok P Q (Ok x) f h = f x h
each_ok P Q (Err e) f h = tt

pub returns : goal.returns
returns c =
    let i = implication_of c.args.implication.now in let preds = pred_items c.args.implication.now.hypotheses in
    each_ok (λ fits. IsTrue fits → All CanGather (all_pairs (terms_of c.in_ok-terms.terms))) (λ fits. IsTrue fits → All CanGather (implication_literals i)) c.pairs_fit.result
    (λ x f yes. implication_fits i
    (All-map (λ p. AllFitIn (reading_of true p)) formula_of preds
    (subst (λ l. All (λ p. AllFitIn (reading_of true (formula_of p))) l) c.as_slice.ensures (c.in_ok-readings_fit.ensures c.if-not-branch.false)))
    (c.in_ok-reading_fits.ensures c.if-not-branch-2.false)
    (subst (λ l. All CanGather (all_pairs l)) c.in_ok-terms.ensures (f yes)))
    c.pairs_fit.ensures
