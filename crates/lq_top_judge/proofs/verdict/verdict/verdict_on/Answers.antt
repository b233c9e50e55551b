use Rattle.std.proofs.Common.{length, ap, ◌∙◌}
use Rattle.lq_refined_instances.specs.Instances.{told}
use Rattle.lq_solve_fixpoint.specs.Questions.Assigned.{constraints_of, instances_in}
use Rattle.lq_top_judge.specs.Verdict.Counting.{instance_total}
use Rattle.lq_top_judge.proofs.VerdictLemmas.Posed.{solution_is}
use Rattle.lq_top_judge.proofs.verdict.verdict.verdict_on.Goals as goal

pub judgement_by-requires-clause-solved : goal.judgement_by-requires-clause-solved
judgement_by-requires-clause-solved c =
    let m = c.args.posed in (
      c.args.limit,
      solution_is c.args.limit (instances_in m.problem.instances) (constraints_of m.problem.implications) c.solve-solved.result
          c.solve-solved.ensures.solved c.solve-solved.ensures.gathered c.solve-solved.ensures.stop,
    )

pub returns : goal.returns
returns c =
    λ t view.
    let m = c.args.posed in
    let counts = c.counts_of-counts.ensures in
    let solution = solution_is c.args.limit (instances_in m.problem.instances) (constraints_of m.problem.implications) c.solve-solved.result
    c.solve-solved.ensures.solved c.solve-solved.ensures.gathered c.solve-solved.ensures.stop in (
      c.in_ok-judgement.ensures c.args.limit t solution view,
      record {
        unknowns = counts.unknowns ∙ ap length view.problem.instances;
        instances = counts.instances ∙ ap (λ ls. told (instance_total ls)) view.problem.instances;
        implications = counts.implications ∙ ap length view.problem.implications;
      },
    )
