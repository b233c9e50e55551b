use Rattle.lq_logic_predicates.specs.PredView.{formula_of}
use Rattle.lq_top_answers.specs.Failure.Collected.{valued_views}
use Rattle.lq_top_answers.proofs.FailureLemmas.Keys.{preds_more}
use Rattle.lq_top_answers.proofs.failure.collecting.add_preds.Goals as goal

pub loop-pred-preserved : goal.loop-pred-preserved
loop-pred-preserved c =
    preds_more formula_of c.args.preds.now c.loop-pred.pred-index c.pred-item.result (valued_views c.args.seen.now.keys) (valued_views c.loop-pred.seen.keys) _
    c.loop-pred-test.true c.pred-item.is c.loop-pred.invariant c.in_ok-add_pred.ensures
