use Rattle.std.proofs.Common.{IfOk, sym, subst}
use Rattle.lq_solve_fixpoint.specs.Weakening.Index.{AreCovered, AreGoals}
use Rattle.lq_solve_fixpoint.specs.Weakening.Solving.{AreCounts, IsSolved}
use Rattle.lq_solve_fixpoint.proofs.weakening.solving.solve.Goals as goal

pub solve_from_nothing-requires-clause-goals : goal.solve_from_nothing-requires-clause-goals
solve_from_nothing-requires-clause-goals g c = subst (λ cs. AreGoals cs c.args.goals.now) (sym c.reset.ensures.constraints) c.requires.goals

pub solve_from_nothing-requires-clause-covered : goal.solve_from_nothing-requires-clause-covered
solve_from_nothing-requires-clause-covered g c = subst (λ cs. AreCovered cs c.args.spans.now) (sym c.reset.ensures.constraints) c.requires.covered

pub solve_from_nothing-requires-clause-counts : goal.solve_from_nothing-requires-clause-counts
solve_from_nothing-requires-clause-counts g c = subst (λ I. AreCounts I c.args.counts.now) (sym c.reset.ensures.instances) c.requires.counts

pub returns-clause-solved : goal.returns-clause-solved
returns-clause-solved g c =
    subst (λ cs. IfOk c.solve_from_nothing.result (IsSolved (g.J.Judge.instances c.args.judge.now) cs)) c.reset.ensures.constraints
    (subst (λ I. IfOk c.solve_from_nothing.result (IsSolved I (g.J.Judge.constraints c.reset.new.self))) c.reset.ensures.instances c.solve_from_nothing.ensures.solved)
