-- The demands so far are valid.
use Rattle.std.proofs.Common.{◌≡◌, ℕ}
use Rattle.lq_logic_predicates.specs.declared.pred.Stop.{Stop}
use Rattle.lq_solve_fixpoint.specs.Weakening.Chosen.{chosen_in}
use Rattle.lq_solve_fixpoint.proofs.WeakeningLemmas.Looping.{DemandsBefore}
use Rattle.lq_solve_fixpoint.proofs.weakening.solving.first_failing.Given as goal

abbrev pub invariant-loop-at : goal.invariant-loop-at
invariant-loop-at g l =
    DemandsBefore (g.J.Judge.instances l.initial.judge) (g.J.Judge.constraints l.initial.judge) (chosen_in l.chosen) l.at
    × (g.J.Judge.instances l.judge ≡ g.J.Judge.instances l.initial.judge)
    × (g.J.Judge.constraints l.judge ≡ g.J.Judge.constraints l.initial.judge)
    × ((i : ℕ) (stop : Stop) → g.J.Judge.may_stop l.judge i stop → g.J.Judge.may_stop l.initial.judge i stop)
    × g.J.Judge.keeps l.judge (chosen_in l.chosen)
