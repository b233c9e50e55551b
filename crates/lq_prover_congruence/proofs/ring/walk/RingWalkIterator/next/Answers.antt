-- A step of a walk.
use Rattle.std.proofs.Common.{◌≡◌, ℕ, ◌∷◌, length, Option, subst, sym, ◌∙◌, ap, arith}
use Rattle.lq_prover_congruence.specs.Ring.Walk.{IsWalk, left_of}
use Rattle.lq_prover_congruence.proofs.RingLemmas.Walking.{stepped}
use Rattle.lq_prover_congruence.proofs.ring.walk.RingWalkIterator.next.Goals as goal

pub invariant_of-self : goal.invariant_of-self
invariant_of-self c =
    let P : Option ℕ → Type 0 = λ o. IsWalk c.self.inside.next.now c.self.inside.first o in
    let had = subst P c.in_ok-at.was c.self.invariant in
    (stepped c.self.inside.next.now c.self.inside.first c.in_ok-at.at had.0 had.1 c.after-self-inside.result c.after-self-inside.ensures).0

pub returns-clause-steps : goal.returns-clause-steps
returns-clause-steps c =
    let P : Option ℕ → Type 0 = λ o. IsWalk c.self.inside.next.now c.self.inside.first o in
    let had = subst P c.in_ok-at.was c.self.invariant in
    sym c.self.view_is ∙ ap (λ o. left_of c.self.inside.next.now c.self.inside.first o) c.in_ok-at.was ∙ (stepped c.self.inside.next.now c.self.inside.first c.in_ok-at.at had.0 had.1 c.after-self-inside.result c.after-self-inside.ensures).1

pub returns-clause-goes : goal.returns-clause-goes
returns-clause-goes c =
    let P : Option ℕ → Type 0 = λ o. IsWalk c.self.inside.next.now c.self.inside.first o in
    let had = subst P c.in_ok-at.was c.self.invariant in
    let e : c.args.self.now ≡ c.in_ok-at.at ∷ left_of c.self.inside.next.now c.self.inside.first c.after-self-inside.result = sym c.self.view_is ∙ ap (λ o. left_of c.self.inside.next.now c.self.inside.first o) c.in_ok-at.was ∙ (stepped c.self.inside.next.now c.self.inside.first c.in_ok-at.at had.0 had.1 c.after-self-inside.result c.after-self-inside.ensures).1 in
    record { on = λ f. (tt, tt, omega (arith, ap length e)); keeps = tt; rests = λ f. tt }
