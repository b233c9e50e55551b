use Rattle.std.proofs.Common.{◌∙◌, ap, subst, sym}
use Rattle.lq_refined_substitution.specs.Implications.Views.{environment_lists, implication_items}
use Rattle.lq_refined_types.specs.Parts.Constraint.{IsDemand}
use Rattle.lq_refined_types.specs.Parts.Part.{unknown}
use Rattle.lq_logic_points.specs.Values.{as_point}
use Rattle.lq_logic_predicates.specs.PredView.{implication_of}
use Rattle.lq_solve_fixpoint.specs.Questions.Assigned.{constraints_of, instances_in}
use Rattle.lq_refined_substitution.specs.Substitution.Views.{part_view, subst_view}
use Rattle.lq_refined_substitution.specs.declared.substitution.parts.Part.{Part}
use Rattle.lq_solve_fixpoint.specs.Weakening.Chosen.{chosen_in}
use Rattle.lq_solve_strongest.proofs.WeakenLemmas.Below.{goal_of}
use Rattle.lq_solve_strongest.proofs.WeakenLemmas.Stopping.{demand_there, flow_there, goal_closed}
use Rattle.lq_solve_strongest.proofs.weaken.asking.Questions.failure.Goals as goal

pub refuted_of-requires-clause-goal : goal.refuted_of-requires-clause-goal
refuted_of-requires-clause-goal c =
    let all = c.args.self.now.implications.now in
    goal_closed (instances_in c.args.self.now.instances.now) (chosen_in c.args.chosen.now) (constraints_of all) c.args.at (implication_of c.args.closed.now) (unknown c.in-Unknown.unknown (subst_view c.in-Unknown.by))
    c.requires.there c.requires.closed (λ k e. goal_of (environment_lists all) (implication_items all) c.args.at c.in-Some.implication.now k c.in-Some.ensures e ∙ ap part_view c.in-Unknown.is)

pub returns-in-Known : goal.returns-in-Known
returns-in-Known c =
    let all = c.args.self.now.implications.now in
    demand_there (instances_in c.args.self.now.instances.now) (chosen_in c.args.chosen.now) (constraints_of all) c.args.at (implication_of c.args.closed.now) (part_view c.in-Some.implication.now.goal) c.args.point
    c.requires.closed c.requires.point (λ k e. goal_of (environment_lists all) (implication_items all) c.args.at c.in-Some.implication.now k c.in-Some.ensures e)
    (subst (λ (g : Part). IsDemand (part_view g)) (sym c.in-Known.is) tt)

pub returns-in_ok-refuted-in-Unknown : goal.returns-in_ok-refuted-in-Unknown
returns-in_ok-refuted-in-Unknown c =
    let all = c.args.self.now.implications.now in
    flow_there (instances_in c.args.self.now.instances.now) (chosen_in c.args.chosen.now) (constraints_of all) c.args.at (implication_of c.args.closed.now) c.in-Unknown.unknown (subst_view c.in-Unknown.by)
    (as_point c.args.point) c.in_ok-refuted-in-Unknown.refuted.items c.requires.closed c.requires.point
    (λ k e. goal_of (environment_lists all) (implication_items all) c.args.at c.in-Some.implication.now k c.in-Some.ensures e ∙ ap part_view c.in-Unknown.is) c.in_ok-refuted-in-Unknown.ensures
