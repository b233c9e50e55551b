-- The instances so far are taken out.
use Rattle.std.proofs.Common.{ℕ, ◌<◌, ◌≤◌, ◌≡◌, true, take}
use Rattle.lq_solve_fixpoint.specs.Weakening.Among.{IsAmong}
use Rattle.lq_solve_fixpoint.specs.Weakening.Chosen.{AreWithout, chosen_in, total}
use Rattle.lq_solve_fixpoint.proofs.weakening.removing.remove_all.Given as goal

abbrev pub invariant-loop-instance : goal.invariant-loop-instance
invariant-loop-instance l =
    AreWithout l.unknown (take l.instance-index l.instances) (chosen_in l.initial.chosen) (chosen_in l.chosen)
    × (total l.chosen ≤ total l.initial.chosen)
    × ((k : ℕ) → IsAmong (take l.instance-index l.instances) k → chosen_in l.initial.chosen l.unknown k ≡ true → total l.chosen < total l.initial.chosen)
