use Rattle.lq_refined_substitution.specs.Implications.Views.{environment_lists}
use Rattle.lq_refined_substitution.specs.Substitution.Views.{part_view}
use Rattle.lq_solve_strongest.proofs.WeakenLemmas.Below.{environment_none, environment_some}
use Rattle.lq_solve_strongest.proofs.weaken.unknowns.past_environment.Goals as goal

pub returns-in-Some : goal.returns-in-Some
returns-in-Some c =
    environment_some c.past_part.result (environment_lists c.args.implications.now) c.args.env c.in-Some._parent c.args.count (part_view c.in-Some.last.now) c.in-Some.ensures.earlier
    c.in-Some.ensures.hypotheses c.past_part.ensures

pub returns-in-None : goal.returns-in-None
returns-in-None c = environment_none (environment_lists c.args.implications.now) c.args.env c.args.count c.in-None.ensures.hypotheses
