use Rattle.std.proofs.Common.{inl, sym, subst, arith}
use Rattle.lq_solve_fixpoint.specs.Weakening.Chosen.{chosen_in}
use Rattle.lq_solve_fixpoint.specs.Weakening.Judging.{FailsThere, FlowFailsThere, IfFails}
use Rattle.lq_solve_fixpoint.specs.declared.weakening.judge.Failure.TheVariants.{Demand}
use Rattle.lq_solve_fixpoint.proofs.WeakeningLemmas.Inserting.{flow_in_range}
use Rattle.lq_solve_fixpoint.proofs.WeakeningLemmas.Looping.{flow_not_demand}
use Rattle.lq_solve_fixpoint.proofs.WeakeningLemmas.Weakening.{same_lengths}
use Rattle.lq_solve_fixpoint.proofs.weakening.stepping.step.Goals as goal

pub ask-requires-clause-there : goal.ask-requires-clause-there
ask-requires-clause-there g c =
    let e = same_lengths (g.J.Judge.constraints c.args.judge.now) c.args.goals.now c.requires.goals in
    let h = flow_in_range c.args.goals.now c.args.at c.requires.flow in omega (arith, e, h)

pub unreachable-requires : goal.unreachable-requires
unreachable-requires g c =
    let I = g.J.Judge.instances c.args.judge.now in
    let cs = g.J.Judge.constraints c.args.judge.now in
    let f : FailsThere I cs (chosen_in c.args.chosen.now) c.args.at (Demand c.in-Ok-Fails-Demand.field-0-0-0) =
    subst (FailsThere I cs (chosen_in c.args.chosen.now) c.args.at) c.in-Ok-Fails-Demand.field-0-0-is (subst (λ a. IfFails a (FailsThere I cs (chosen_in c.args.chosen.now) c.args.at)) c.in-Ok-Fails-Demand.field-0-is c.in-Ok-Fails-Demand.ensures.fails) in
    flow_not_demand I cs (chosen_in c.args.chosen.now) c.args.goals.now c.args.at c.in-Ok-Fails-Demand.field-0-0-0 c.requires.goals c.requires.flow f

pub returns-in-Ok-clause-weakening : goal.returns-in-Ok-clause-weakening
returns-in-Ok-clause-weakening g c =
    let I = g.J.Judge.instances c.args.judge.now in
    let cs = g.J.Judge.constraints c.args.judge.now in
    let f : FlowFailsThere I cs (chosen_in c.args.chosen.now) c.args.at c.in-Ok-Fails-Flow.refuted.items =
    subst (FailsThere I cs (chosen_in c.args.chosen.now) c.args.at) c.in-Ok-Fails-Flow.field-0-0-is (subst (λ a. IfFails a (FailsThere I cs (chosen_in c.args.chosen.now) c.args.at)) c.in-Ok-Fails-Flow.field-0-is c.in-Ok-Fails-Flow.ensures.fails) in
    λ w. c.in-Ok.ensures.weakening I cs c.args.at c.requires.goals c.requires.covered c.unknown_of-unknown.ensures (subst (FlowFailsThere I cs (chosen_in c.args.chosen.now) c.args.at) (sym c.deref.ensures.value) f) w

pub returns-in-Ok-clause-falls : goal.returns-in-Ok-clause-falls
returns-in-Ok-clause-falls g c =
    let I = g.J.Judge.instances c.args.judge.now in
    let cs = g.J.Judge.constraints c.args.judge.now in
    let f : FlowFailsThere I cs (chosen_in c.args.chosen.now) c.args.at c.in-Ok-Fails-Flow.refuted.items =
    subst (FailsThere I cs (chosen_in c.args.chosen.now) c.args.at) c.in-Ok-Fails-Flow.field-0-0-is (subst (λ a. IfFails a (FailsThere I cs (chosen_in c.args.chosen.now) c.args.at)) c.in-Ok-Fails-Flow.field-0-is c.in-Ok-Fails-Flow.ensures.fails) in
    inl (c.in-Ok.ensures.falls I cs c.args.at c.requires.goals c.unknown_of-unknown.ensures (subst (FlowFailsThere I cs (chosen_in c.args.chosen.now) c.args.at) (sym c.deref.ensures.value) f))
