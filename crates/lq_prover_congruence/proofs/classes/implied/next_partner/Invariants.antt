-- No partner so far.
use Rattle.std.proofs.Common.{◌≡◌, ℕ, ◌<◌, length}
use Rattle.lq_prover_congruence.specs.Ring.Ring.{times}
use Rattle.lq_prover_congruence.specs.Classes.Standing.{core_of}
use Rattle.lq_prover_congruence.specs.Classes.Implied.{partners}
use Rattle.lq_prover_congruence.proofs.classes.implied.next_partner.Given as goal

abbrev pub invariant-loop-right : goal.invariant-loop-right
invariant-loop-right l = record { within : (j : ℕ) → 0 < times j l.walk → j < length l.state.known; same : partners (core_of l.state) l.left l.initial.walk ≡ partners (core_of l.state) l.left l.walk }

abbrev pub decreases-loop-right : goal.decreases-loop-right
decreases-loop-right l = length l.walk
