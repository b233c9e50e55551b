-- So many rings of one index.
use Rattle.std.proofs.Common.{◌≡◌, length}
use Rattle.lq_prover_congruence.specs.Ring.Ring.{IsRings, alone}
use Rattle.lq_prover_congruence.proofs.ring.rings.Rings.new.Given as goal

abbrev pub invariant-loop : goal.invariant-loop
invariant-loop l = (length l.rings ≡ l.counter) × IsRings l.rings (alone l.counter)
