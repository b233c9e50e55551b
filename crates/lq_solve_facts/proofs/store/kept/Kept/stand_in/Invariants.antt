-- The steps that are left lead from the environment to one that stands, and what is stored is right.
use Rattle.std.proofs.Common.{vec_len}
use Rattle.lq_refined_substitution.specs.Implications.Views.{environment_lists}
use Rattle.lq_solve_fixpoint.specs.Questions.Assigned.{assignment_of, constraints_of, instances_in}
use Rattle.lq_solve_facts.specs.Store.Kept.{HasReadings}
use Rattle.lq_solve_facts.specs.Store.Way.{IsUnderWay}
use Rattle.lq_solve_facts.proofs.store.kept.Kept.stand_in.Given as goal

abbrev pub invariant-loop-step : goal.invariant-loop-step
invariant-loop-step l = record {
  under : IsUnderWay (assignment_of l.instances l.chosen) (environment_lists l.implications) l.self l.steps.items l.env;
  stored : HasReadings (instances_in l.instances) (environment_lists l.implications) (constraints_of l.implications) l.self;
}

abbrev pub decreases-loop-step : goal.decreases-loop-step
decreases-loop-step l = vec_len l.steps
