-- There are rings, by the invariant.
use Rattle.std.proofs.Common.{List, ℕ, subst}
use Rattle.lq_prover_congruence.specs.Ring.Ring.{IsRings}
use Rattle.lq_prover_congruence.proofs.ring.rings.Rings.len.Goals as goal

pub returns-clause-rings : goal.returns-clause-rings
returns-clause-rings c =
    let P : List ℕ → Type 0 = λ l. (rs : List (List ℕ)) × IsRings l rs in
    subst P c.self.view_is c.self.invariant
