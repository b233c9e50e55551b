use Rattle.std.proofs.Common.{[], ◌∷◌, length, refl, subst}
use Rattle.lq_solve_fixpoint.specs.Weakening.Index.{IsWithinOne}
use Rattle.lq_solve_fixpoint.specs.Weakening.Waking.{Wakes}
use Rattle.lq_solve_fixpoint.proofs.WeakeningLemmas.Looping.{wakes_all}
use Rattle.lq_solve_fixpoint.proofs.weakening.solving.all_flows.Goals as goal

pub returns : goal.returns
returns c =
    let all = record { start = 0; end = length c.args.goals.now } ∷ [] in
    wakes_all c.args.goals.now all c.wake_all.new.waiting.keys refl (subst (λ ks. Wakes c.args.goals.now (IsWithinOne all) ks c.wake_all.new.waiting.keys) c.new-waiting.ensures.empty c.in_ok-wake_all.ensures)
