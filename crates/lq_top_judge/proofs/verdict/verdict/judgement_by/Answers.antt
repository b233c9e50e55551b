use Rattle.std.proofs.Common.{ℕ}
use Rattle.lq_top_pose.specs.Stages.{Typed}
use Rattle.lq_top_pose.specs.Views.{IsPosedView}
use Rattle.lq_solve_fixpoint.specs.Questions.Assigned.{constraints_of, instances_in}
use Rattle.lq_top_judge.specs.Verdict.Judgement.{IsVerdictOn}
use Rattle.lq_top_judge.specs.Verdict.Posed.{IsSolution}
use Rattle.lq_top_judge.proofs.VerdictLemmas.Posed.{if_ok}
use Rattle.lq_top_judge.proofs.verdict.verdict.judgement_by.Goals as goal

pub returns-in-Ok-NoSolution : goal.returns-in-Ok-NoSolution
returns-in-Ok-NoSolution c =
    let m = c.args.posed.now in
    if_ok (λ j. (limit : ℕ) (t : Typed) → IsPosedView m t → IsVerdictOn limit t j)
    (λ j. (limit : ℕ) (t : Typed) → IsSolution limit (instances_in m.problem.instances) (constraints_of m.problem.implications) c.args.solved.now
    → IsPosedView m t → IsVerdictOn limit t j)
    c.rejected.result (λ j told limit t given view. told limit t view) c.rejected.ensures
