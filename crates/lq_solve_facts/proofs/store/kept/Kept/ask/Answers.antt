use Rattle.std.proofs.Common.{map, sym, subst}
use Rattle.lq_refined_substitution.specs.Implications.Views.{environment_in, environment_lists, implication_items}
use Rattle.lq_solve_facts.specs.Nearest.Reading.{AreRead}
use Rattle.lq_refined_types.specs.Parts.Assignment.{parts_under}
use Rattle.lq_logic_predicates.specs.ClosedImplication.{MeetsEach}
use Rattle.lq_solve_fixpoint.specs.Questions.Assigned.{assignment_of, constraints_of, instances_in}
use Rattle.lq_refined_substitution.specs.Substitution.Views.{part_view, parts_view}
use Rattle.lq_solve_fixpoint.specs.Weakening.Chosen.{chosen_in}
use Rattle.lq_solve_facts.proofs.NearestLemmas.Meeting.{follows_here}
use Rattle.lq_solve_facts.proofs.StoreLemmas.Levels.{right_grown}
use Rattle.lq_solve_facts.proofs.StoreLemmas.Failing.{fails_here, holds_by, refuted_by}
use Rattle.lq_solve_facts.proofs.StoreLemmas.Standing.{goal_stands, left_stands}
use Rattle.lq_solve_facts.proofs.StoreLemmas.Ways.{parts_apart, told_parts}
use Rattle.lq_solve_facts.specs.Store.Places.{StandAtLeft, formula_at}
use Rattle.lq_solve_facts.proofs.store.kept.Kept.ask.Goals as goal

pub returns-in_err-add_parts-clause-kept : goal.returns-in_err-add_parts-clause-kept
returns-in_err-add_parts-clause-kept c =
    right_grown (assignment_of c.args.instances.now c.args.chosen.now) (environment_lists c.args.implications.now) c.stand_in.new.self.known c.add_parts.new.known c.stand_in.new.self.levels.items
    c.add_parts.ensures.keeps c.stand_in.ensures.kept

pub returns-clause-kept : goal.returns-clause-kept
returns-clause-kept c =
    let A = assignment_of c.args.instances.now c.args.chosen.now in
    let es = environment_lists c.args.implications.now in
    let levels = c.stand_in.new.self.levels.items in
    right_grown A es c.add_parts.new.known c.aim.new.known levels c.aim.ensures.keeps
    (right_grown A es c.stand_in.new.self.known c.add_parts.new.known levels c.add_parts.ensures.keeps c.stand_in.ensures.kept)

pub returns-clause-holds : goal.returns-clause-holds
returns-clause-holds c =
    let A = assignment_of c.args.instances.now c.args.chosen.now in
    let es = environment_lists c.args.implications.now in
    let item = c.in-Some.implication.now in
    let I = instances_in c.args.instances.now in
    let F = formula_at I es (constraints_of c.args.implications.now) in
    let left = subst (λ l. StandAtLeft F I c.args.at (map part_view l)) (sym c.as_slice.ensures) (left_stands I es (implication_items c.args.implications.now) c.args.at item c.in-Some.ensures) in
    let stored = c.add_parts.ensures.stored F c.stand_in.ensures.stored left in
    let goal = goal_stands I es (implication_items c.args.implications.now) c.args.at item c.in-Some.ensures in
    holds_by c.aim.result _ _
    (λ f. follows_here (instances_in c.args.instances.now) (chosen_in c.args.chosen.now) es (implication_items c.args.implications.now) c.args.at item c.in-Some.ensures
    (λ p m. let r = parts_apart A p (environment_in es item.env) (parts_view item.left) m in
    f F stored goal p (c.in_ok-add_parts.ensures.held F c.stand_in.ensures.stored left p (c.in_ok-stand_in.ensures.stands.holds p r.0) (subst (λ l. MeetsEach p (parts_under A (map part_view l))) (sym c.as_slice.ensures) r.1))))
    c.aim.ensures.holds

pub returns-clause-refuted : goal.returns-clause-refuted
returns-clause-refuted c =
    let A = assignment_of c.args.instances.now c.args.chosen.now in
    let es = environment_lists c.args.implications.now in
    let item = c.in-Some.implication.now in
    let I = instances_in c.args.instances.now in
    let F = formula_at I es (constraints_of c.args.implications.now) in
    let left = subst (λ l. StandAtLeft F I c.args.at (map part_view l)) (sym c.as_slice.ensures) (left_stands I es (implication_items c.args.implications.now) c.args.at item c.in-Some.ensures) in
    let stored = c.add_parts.ensures.stored F c.stand_in.ensures.stored left in
    let goal = goal_stands I es (implication_items c.args.implications.now) c.args.at item c.in-Some.ensures in
    let before = c.stand_in.new.self.known in
    let after = c.add_parts.new.known in
    refuted_by c.aim.result _ _
    (λ numbers f. fails_here after (instances_in c.args.instances.now) (chosen_in c.args.chosen.now) es (implication_items c.args.implications.now) c.args.at item numbers c.in-Some.ensures
    (told_parts A before after (environment_in es item.env) (parts_view item.left) c.add_parts.ensures.keeps c.in_ok-stand_in.ensures.stands.reads
    (subst (λ l. AreRead before after (parts_under A (map part_view l))) c.as_slice.ensures (c.in_ok-add_parts.ensures.read F c.stand_in.ensures.stored left)))
    (f F stored goal))
    c.aim.ensures.refuted

pub returns-clause-stored : goal.returns-clause-stored
returns-clause-stored c =
    let es = environment_lists c.args.implications.now in
    let item = c.in-Some.implication.now in
    let I = instances_in c.args.instances.now in
    let F = formula_at I es (constraints_of c.args.implications.now) in
    let left = subst (λ l. StandAtLeft F I c.args.at (map part_view l)) (sym c.as_slice.ensures) (left_stands I es (implication_items c.args.implications.now) c.args.at item c.in-Some.ensures) in
    let stored = c.add_parts.ensures.stored F c.stand_in.ensures.stored left in
    let goal = goal_stands I es (implication_items c.args.implications.now) c.args.at item c.in-Some.ensures in
    c.aim.ensures.stored F stored goal

pub returns-in_err-add_parts-clause-stored : goal.returns-in_err-add_parts-clause-stored
returns-in_err-add_parts-clause-stored c =
    let es = environment_lists c.args.implications.now in
    let item = c.in-Some.implication.now in
    let I = instances_in c.args.instances.now in
    let F = formula_at I es (constraints_of c.args.implications.now) in
    let left = subst (λ l. StandAtLeft F I c.args.at (map part_view l)) (sym c.as_slice.ensures) (left_stands I es (implication_items c.args.implications.now) c.args.at item c.in-Some.ensures) in
    c.add_parts.ensures.stored F c.stand_in.ensures.stored left
