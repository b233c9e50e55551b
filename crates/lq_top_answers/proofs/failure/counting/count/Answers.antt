use Rattle.std.proofs.Common.{arith}
use Rattle.lq_refined_substitution.specs.Implications.Views.{implications_of}
use Rattle.lq_top_answers.specs.Failure.Heads.{is_alike}
use Rattle.lq_top_answers.proofs.FailureLemmas.Demands.{one_counted}
use Rattle.lq_top_answers.proofs.failure.counting.count.Goals as goal
use Rattle.lq_top_answers.proofs.failure.counting.count.Goals.{then-is_counted, else-is_counted}

pub loop-before-preserved : goal.loop-before-preserved
loop-before-preserved c =
    let step = one_counted (is_alike c.args.demands) (implications_of c.args.implications.now) c.loop-before.before c.is_counted.result c.loop-before.number c.if-is_counted.number (omega arith) c.is_counted.ensures c.loop-before.invariant in
    elim c.if-is_counted.branch [
      | then-is_counted w ↦ step (λ _. w.number-is) (λ e. let h = w.if-is_counted.true in cc)
      | else-is_counted w ↦ step (λ e. let h = w.if-is_counted.false in cc) (λ _. w.number-is)
    ]
