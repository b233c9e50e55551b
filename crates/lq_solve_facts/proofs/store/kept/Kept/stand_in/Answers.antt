use Rattle.std.proofs.Common.{subst}
use Rattle.lq_refined_substitution.specs.Implications.Views.{environment_lists}
use Rattle.lq_solve_fixpoint.specs.Questions.Assigned.{assignment_of, constraints_of, instances_in}
use Rattle.lq_solve_facts.specs.Store.Way.{LeadsTo}
use Rattle.lq_solve_facts.proofs.StoreLemmas.Ways.{way_taken}
use Rattle.lq_solve_facts.proofs.store.kept.Kept.stand_in.Goals as goal

pub loop-step-preserved : goal.loop-step-preserved
loop-step-preserved c =
    let es = environment_lists c.args.implications.now in
    let before = c.loop-step.invariant.under in
    let cs = constraints_of c.args.implications.now in
    let stored = c.loop-step.invariant.stored in
    let w = way_taken es c.pop.new.self.items c.in-Some.step before.at c.args.env (subst (λ l. LeadsTo es before.at l c.args.env) c.in-Some.ensures.items before.way) in
    record {
      under = record {
        at = c.in-Some.step.env;
        kept = c.add_level.ensures.kept es cs before.at stored before.kept before.stands w.1;
        stands = c.in_ok-add_level.ensures.stands es cs before.at stored before.stands w.1;
        way = w.0;
      };
      stored = c.add_level.ensures.stored es cs before.at stored w.1;
    }

pub returns-in_err-add_level-clause-kept : goal.returns-in_err-add_level-clause-kept
returns-in_err-add_level-clause-kept c =
    let es = environment_lists c.args.implications.now in
    let before = c.loop-step.invariant.under in
    let cs = constraints_of c.args.implications.now in
    let stored = c.loop-step.invariant.stored in
    let w = way_taken es c.pop.new.self.items c.in-Some.step before.at c.args.env (subst (λ l. LeadsTo es before.at l c.args.env) c.in-Some.ensures.items before.way) in
    c.add_level.ensures.kept es cs before.at stored before.kept before.stands w.1

pub returns-in_err-add_level-clause-stored : goal.returns-in_err-add_level-clause-stored
returns-in_err-add_level-clause-stored c =
    let es = environment_lists c.args.implications.now in
    let before = c.loop-step.invariant.under in
    let w = way_taken es c.pop.new.self.items c.in-Some.step before.at c.args.env (subst (λ l. LeadsTo es before.at l c.args.env) c.in-Some.ensures.items before.way) in
    c.add_level.ensures.stored es (constraints_of c.args.implications.now) before.at c.loop-step.invariant.stored w.1

pub loop-step-init : goal.loop-step-init
loop-step-init c =
    let A = assignment_of c.args.instances.now c.args.chosen.now in
    let I = instances_in c.args.instances.now in
    let es = environment_lists c.args.implications.now in
    let cs = constraints_of c.args.implications.now in
    record {
      under = c.in_ok-steps.ensures.way A (c.make_room.ensures.kept A es c.requires.kept);
      stored = c.way_to.ensures.stored I es cs (c.make_room.ensures.stored I es cs c.requires.stored);
    }

pub returns-in_err-steps-clause-stored : goal.returns-in_err-steps-clause-stored
returns-in_err-steps-clause-stored c =
    let I = instances_in c.args.instances.now in
    let es = environment_lists c.args.implications.now in
    let cs = constraints_of c.args.implications.now in
    c.way_to.ensures.stored I es cs (c.make_room.ensures.stored I es cs c.requires.stored)
