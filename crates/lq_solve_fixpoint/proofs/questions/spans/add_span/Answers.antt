use Rattle.lq_solve_fixpoint.proofs.QuestionsLemmas.Adding.{span_added}
use Rattle.lq_solve_fixpoint.proofs.questions.spans.add_span.Goals as goal

pub returns-in_ok-push : goal.returns-in_ok-push
returns-in_ok-push c =
    span_added c.args.spans.now c.args.unknown c.index-spans-unknown.result c.push.new.self c.args.span c.if-unknown-spans.true c.in_ok-push.ensures.items
