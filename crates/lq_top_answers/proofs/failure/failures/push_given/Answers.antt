use Rattle.lq_logic_predicates.specs.PredView.{formula_of}
use Rattle.lq_logic_text.specs.Views.{calling_view}
use Rattle.lq_top_answers.proofs.FailureLemmas.Keys.{given_more}
use Rattle.lq_top_answers.proofs.failure.failures.push_given.Goals as goal

pub loop-pred-preserved : goal.loop-pred-preserved
loop-pred-preserved c =
    given_more formula_of (calling_view c.args.calling.now) c.args.hypotheses.now c.loop-pred.pred-index c.pred-item.result c.args.line.now.items c.loop-pred.line.items _
    c.loop-pred-test.true c.pred-item.is c.loop-pred.invariant c.in_ok-push_pred_line.ensures
