use Rattle.std.proofs.Common.{◌∙◌, refl, sym, subst}
use Rattle.lq_solve_fixpoint.specs.Weakening.Chosen.{chosen_in, total}
use Rattle.lq_solve_fixpoint.specs.Weakening.Index.{AreCovered, AreGoals}
use Rattle.lq_solve_fixpoint.proofs.WeakeningLemmas.Looping.{Weakens, first_flow, measure_falls, nothing_left, weakens_first, weakens_last, weakens_next}
use Rattle.lq_solve_fixpoint.proofs.weakening.solving.weaken_all.Goals as goal

pub loop-at-init : goal.loop-at-init
loop-at-init g c =
    (weakens_first (g.J.Judge.instances c.args.judge.now) (g.J.Judge.constraints c.args.judge.now) c.args.goals.now (chosen_in c.args.chosen.now) c.args.waiting.now.keys c.requires.all, refl, refl, λ i stop h. h, c.requires.kept)

pub step-requires-clause-goals : goal.step-requires-clause-goals
step-requires-clause-goals g c = subst (λ cs. AreGoals cs c.args.goals.now) (sym c.loop-at.invariant.2) c.requires.goals

pub step-requires-clause-covered : goal.step-requires-clause-covered
step-requires-clause-covered g c = subst (λ cs. AreCovered cs c.args.spans.now) (sym c.loop-at.invariant.2) c.requires.covered

pub step-requires-clause-flow : goal.step-requires-clause-flow
step-requires-clause-flow g c = first_flow c.args.goals.now c.loop-at.waiting.keys c.pop_first.new.self.keys c.in-Some.at c.in-Some.ensures.removal c.loop-at.invariant.0.flows

pub loop-at-smaller : goal.loop-at-smaller
loop-at-smaller g c =
    let I = g.J.Judge.instances c.args.judge.now in
    let cs = g.J.Judge.constraints c.args.judge.now in
    let w : Weakens I cs c.args.goals.now (chosen_in c.args.chosen.now) c.args.waiting.now.keys (chosen_in c.step.new.chosen) c.step.new.waiting.keys =
    weakens_next I (g.J.Judge.instances c.loop-at.judge) cs (g.J.Judge.constraints c.loop-at.judge) c.args.goals.now (chosen_in c.args.chosen.now) c.args.waiting.now.keys (chosen_in c.loop-at.chosen) (chosen_in c.step.new.chosen) c.loop-at.waiting.keys c.pop_first.new.self.keys c.step.new.waiting.keys c.in-Some.at c.loop-at.invariant.1 c.loop-at.invariant.2 c.loop-at.invariant.0 c.in-Some.ensures.removal c.in-Some.ensures.ordered c.in_default-step.ensures.weakening c.in_default-step.ensures.flows c.in_default-step.ensures.sorted in
    measure_falls c.args.goals.now (total c.loop-at.chosen) (total c.step.new.chosen) c.loop-at.waiting.keys c.pop_first.new.self.keys c.step.new.waiting.keys c.in-Some.at c.in-Some.ensures.removal c.in_default-step.ensures.falls w.sorted w.flows

pub loop-at-preserved : goal.loop-at-preserved
loop-at-preserved g c =
    let I = g.J.Judge.instances c.args.judge.now in
    let cs = g.J.Judge.constraints c.args.judge.now in
    (weakens_next I (g.J.Judge.instances c.loop-at.judge) cs (g.J.Judge.constraints c.loop-at.judge) c.args.goals.now (chosen_in c.args.chosen.now) c.args.waiting.now.keys (chosen_in c.loop-at.chosen) (chosen_in c.step.new.chosen) c.loop-at.waiting.keys c.pop_first.new.self.keys c.step.new.waiting.keys c.in-Some.at c.loop-at.invariant.1 c.loop-at.invariant.2 c.loop-at.invariant.0 c.in-Some.ensures.removal c.in-Some.ensures.ordered c.in_default-step.ensures.weakening c.in_default-step.ensures.flows c.in_default-step.ensures.sorted, c.in_default-step.ensures.instances ∙ c.loop-at.invariant.1, c.in_default-step.ensures.constraints ∙ c.loop-at.invariant.2, λ i stop h. c.loop-at.invariant.3 i stop (c.in_default-step.ensures.stops i stop h), c.in_default-step.ensures.kept)

pub returns-clause-weakened : goal.returns-clause-weakened
returns-clause-weakened g c =
    weakens_last (g.J.Judge.instances c.args.judge.now) (g.J.Judge.constraints c.args.judge.now) c.args.goals.now (chosen_in c.args.chosen.now) c.args.waiting.now.keys (chosen_in c.loop-at.chosen) c.loop-at.waiting.keys c.loop-at.invariant.0 (nothing_left c.loop-at.waiting.keys c.in_default.ensures.variant.1)
