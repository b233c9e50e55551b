-- What waits, and how much is left.
use Rattle.std.proofs.Common.{◌≡◌, ℕ, ◌+◌, ◌*◌, length}
use Rattle.lq_logic_predicates.specs.declared.pred.Stop.{Stop}
use Rattle.lq_solve_fixpoint.specs.Weakening.Chosen.{chosen_in, total}
use Rattle.lq_solve_fixpoint.proofs.WeakeningLemmas.Looping.{Weakens}
use Rattle.lq_solve_fixpoint.proofs.weakening.solving.weaken_all.Given as goal

abbrev pub invariant-loop-at : goal.invariant-loop-at
invariant-loop-at g l =
    Weakens (g.J.Judge.instances l.initial.judge) (g.J.Judge.constraints l.initial.judge) l.goals (chosen_in l.initial.chosen) l.initial.waiting.keys (chosen_in l.chosen) l.waiting.keys
    × (g.J.Judge.instances l.judge ≡ g.J.Judge.instances l.initial.judge)
    × (g.J.Judge.constraints l.judge ≡ g.J.Judge.constraints l.initial.judge)
    × ((i : ℕ) (stop : Stop) → g.J.Judge.may_stop l.judge i stop → g.J.Judge.may_stop l.initial.judge i stop)
    × g.J.Judge.keeps l.judge (chosen_in l.chosen)

abbrev pub decreases-loop-at : goal.decreases-loop-at
decreases-loop-at g l = total l.chosen * (length l.goals + 1) + length l.waiting.keys
