use Rattle.std.proofs.Common.{◌≤◌, ◌+◌, ◌-◌, arith, length}
use Rattle.lq_refined_substitution.specs.Implications.Views.{environment_lists}
use Rattle.lq_solve_fixpoint.proofs.QuestionsLemmas.Leaving.{left_next}
use Rattle.lq_solve_fixpoint.proofs.questions.spans.add_environments.Goals as goal

pub loop-env-preserved : goal.loop-env-preserved
loop-env-preserved c =
    let es = environment_lists c.args.implications.now in
    let h : c.loop-env.env ≤ c.loop-env.env - 1 + 1 = omega arith in
    left_next es (length es) c.args.ranges.now c.args.spans.now c.loop-env.env (c.loop-env.env - 1) c.loop-env.ranges c.leave.new.ranges c.loop-env.spans c.leave.new.spans h c.loop-env.invariant
    c.in_ok-leave.ensures
