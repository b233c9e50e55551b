-- No pair so far.
use Rattle.std.proofs.Common.{◌≡◌, ◌-◌}
use Rattle.lq_prover_congruence.specs.Classes.Standing.{core_of}
use Rattle.lq_prover_congruence.specs.Classes.Implied.{left_pairs, IsUnderWay}
use Rattle.lq_prover_congruence.proofs.classes.implied.next_pair.Given as goal

abbrev pub invariant-loop-left : goal.invariant-loop-left
invariant-loop-left l = record { under_way : IsUnderWay (core_of l.state) l.left l.walk; same : left_pairs (core_of l.state) l.initial.left l.initial.walk ≡ left_pairs (core_of l.state) l.left l.walk }

abbrev pub decreases-loop-left : goal.decreases-loop-left
decreases-loop-left l = l.count - l.left
