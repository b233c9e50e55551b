use Rattle.std.proofs.Common.{◌≡◌, Bool, true, false, sym, subst, arith}
use Rattle.lq_solve_fixpoint.specs.Weakening.Chosen.{chosen_in}
use Rattle.lq_solve_fixpoint.specs.Weakening.Judging.{FailsThere, FlowFailsThere, IfFails}
use Rattle.lq_solve_fixpoint.specs.declared.weakening.judge.Failure.TheVariants.{Demand}
use Rattle.lq_solve_fixpoint.proofs.WeakeningLemmas.Looping.{demand_fails, failing_is_flow, flow_met}
use Rattle.lq_solve_fixpoint.proofs.WeakeningLemmas.Weakening.{same_lengths}
use Rattle.lq_solve_fixpoint.proofs.weakening.solving.failing_point.Goals as goal

pub returns-then-is_flow-clause-none : goal.returns-then-is_flow-clause-none
returns-then-is_flow-clause-none g c =
    flow_met (g.J.Judge.instances c.args.judge.now) (g.J.Judge.constraints c.args.judge.now) (chosen_in c.args.chosen.now) c.args.goals.now c.args.at c.requires.goals (c.is_flow.ensures.is c.if-is_flow.true)

pub ask-requires-clause-there : goal.ask-requires-clause-there
ask-requires-clause-there g c =
    let e = same_lengths (g.J.Judge.constraints c.args.judge.now) c.args.goals.now c.requires.goals in
    let h = c.requires.at in omega (arith, e, h)

pub unreachable-requires : goal.unreachable-requires
unreachable-requires g c =
    let I = g.J.Judge.instances c.args.judge.now in
    let cs = g.J.Judge.constraints c.args.judge.now in
    let f : FlowFailsThere I cs (chosen_in c.args.chosen.now) c.args.at c.in-Ok-Fails-Flow.field-0-0-0.items =
    subst (FailsThere I cs (chosen_in c.args.chosen.now) c.args.at) c.in-Ok-Fails-Flow.field-0-0-is (subst (λ a. IfFails a (FailsThere I cs (chosen_in c.args.chosen.now) c.args.at)) c.in-Ok-Fails-Flow.field-0-is c.in-Ok-Fails-Flow.ensures.fails) in
    different (sym c.if-is_flow.false) (c.is_flow.ensures.not (failing_is_flow I cs (chosen_in c.args.chosen.now) c.args.goals.now c.args.at c.in-Ok-Fails-Flow.field-0-0-0.items c.requires.goals c.requires.at f))
  where
    different : {b : Bool} → false ≡ b → b ≡ true → ⊥
    different e f = cc

pub returns-in-Ok-Fails-Demand-clause-some : goal.returns-in-Ok-Fails-Demand-clause-some
returns-in-Ok-Fails-Demand-clause-some g c =
    let I = g.J.Judge.instances c.args.judge.now in
    let cs = g.J.Judge.constraints c.args.judge.now in
    let f : FailsThere I cs (chosen_in c.args.chosen.now) c.args.at (Demand c.in-Ok-Fails-Demand.point) =
    subst (FailsThere I cs (chosen_in c.args.chosen.now) c.args.at) c.in-Ok-Fails-Demand.field-0-0-is (subst (λ a. IfFails a (FailsThere I cs (chosen_in c.args.chosen.now) c.args.at)) c.in-Ok-Fails-Demand.field-0-is c.in-Ok-Fails-Demand.ensures.fails) in
    demand_fails I cs (chosen_in c.args.chosen.now) c.args.goals.now c.args.at c.in-Ok-Fails-Demand.point c.requires.goals c.requires.at f
