use Rattle.std.proofs.Common.{All, ◌+◌}
use Rattle.lq_refined_substitution.specs.Implications.Views.{environment_lists}
use Rattle.lq_solve_strongest.specs.SmallForms.Narrow.{IsNarrow}
use Rattle.lq_refined_types.specs.Parts.Assignment.{part_under}
use Rattle.lq_solve_fixpoint.specs.Questions.Assigned.{instances_in}
use Rattle.lq_refined_substitution.specs.Substitution.Views.{part_view}
use Rattle.lq_solve_strongest.specs.Gathering.Fitting.{AreNarrowEnvironments}
use Rattle.lq_solve_strongest.proofs.GatheringLemmas.Narrowing.{environment_none, environment_some, if_true}
use Rattle.lq_solve_strongest.proofs.gathering.environments.is_narrow_environment.Goals as goal

pub returns-in-Some : goal.returns-in-Some
returns-in-Some c =
    let A = instances_in c.args.instances.now in
    let es = environment_lists c.args.implications.now in
    let q = part_view c.in-Some.last.now in
    if_true c.is_narrow_part.result (All IsNarrow (part_under A q)) (AreNarrowEnvironments A es c.args.env → AreNarrowEnvironments A es (c.args.env + 1))
    (environment_some A es c.args.env c.in-Some._parent q c.in-Some.ensures.earlier c.in-Some.ensures.hypotheses) c.is_narrow_part.ensures

pub returns-in-None : goal.returns-in-None
returns-in-None c = λ _. environment_none (instances_in c.args.instances.now) (environment_lists c.args.implications.now) c.args.env c.in-None.ensures.hypotheses
