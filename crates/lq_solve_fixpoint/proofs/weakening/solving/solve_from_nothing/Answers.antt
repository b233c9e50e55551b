use Rattle.std.proofs.Common.{◌≡◌, ℕ, ◌<◌, [], true, length, IfNone, IfSome, subst}
use Rattle.lq_solve_fixpoint.specs.Weakening.Chosen.{chosen_in}
use Rattle.lq_solve_fixpoint.specs.Weakening.Solving.{DemandsMet, IsFailingDemand}
use Rattle.lq_solve_fixpoint.specs.Weakening.Weakening.{IsWeakening}
use Rattle.lq_solve_fixpoint.proofs.WeakeningLemmas.Looping.{all_chosen, failing_same, met_same, no_solution, strongest, weakening_first}
use Rattle.lq_solve_fixpoint.proofs.weakening.solving.solve_from_nothing.Goals as goal

pub returns-in-Some-clause-solved : goal.returns-in-Some-clause-solved
returns-in-Some-clause-solved g c =
    let I = g.J.Judge.instances c.args.judge.now in
    let cs = g.J.Judge.constraints c.args.judge.now in
    let J = g.J.Judge.instances c.weaken_all.new.judge in
    let ds = g.J.Judge.constraints c.weaken_all.new.judge in
    let n = chosen_in c.weaken_all.new.chosen in
    let all : (u k : ℕ) → k < length (I u) → chosen_in c.in-Ok.chosen u k ≡ true = all_chosen I c.args.counts.now (chosen_in c.in-Ok.chosen) c.requires.counts c.in-Ok.ensures in
    let first : IsWeakening I cs (chosen_in c.in-Ok.chosen) c.in-Ok-all_flows.waiting.keys = weakening_first I cs c.args.goals.now (chosen_in c.in-Ok.chosen) c.in-Ok-all_flows.waiting.keys c.requires.goals all c.in-Ok-all_flows.ensures in
    let w : IsWeakening I cs n [] = c.in_ok-weaken_all.ensures.weakened first in
    let f : IsFailingDemand J ds n c.in-Some.at c.in-Some.point = subst (λ o. IfSome o (λ x. IsFailingDemand J ds n x.0 x.1)) c.in-Some.is c.in_ok-at.ensures.some in
    no_solution c.unions_of_selections.ensures.refutes I cs n c.in-Some.at c.in-Some.point w (failing_same I J cs ds n c.in-Some.at c.in-Some.point c.in_ok-weaken_all.ensures.instances c.in_ok-weaken_all.ensures.constraints f)

pub returns-clause-solved : goal.returns-clause-solved
returns-clause-solved g c =
    let I = g.J.Judge.instances c.args.judge.now in
    let cs = g.J.Judge.constraints c.args.judge.now in
    let J = g.J.Judge.instances c.weaken_all.new.judge in
    let ds = g.J.Judge.constraints c.weaken_all.new.judge in
    let n = chosen_in c.weaken_all.new.chosen in
    let all : (u k : ℕ) → k < length (I u) → chosen_in c.in-Ok.chosen u k ≡ true = all_chosen I c.args.counts.now (chosen_in c.in-Ok.chosen) c.requires.counts c.in-Ok.ensures in
    let first : IsWeakening I cs (chosen_in c.in-Ok.chosen) c.in-Ok-all_flows.waiting.keys = weakening_first I cs c.args.goals.now (chosen_in c.in-Ok.chosen) c.in-Ok-all_flows.waiting.keys c.requires.goals all c.in-Ok-all_flows.ensures in
    let w : IsWeakening I cs n [] = c.in_ok-weaken_all.ensures.weakened first in
    let d : DemandsMet J ds n = subst (λ o. IfNone o (DemandsMet J ds n)) c.in-None.is c.in_ok-at.ensures.none in
    strongest c.unions_of_selections.ensures.strongest I cs n w (met_same I J cs ds n c.in_ok-weaken_all.ensures.instances c.in_ok-weaken_all.ensures.constraints d)
