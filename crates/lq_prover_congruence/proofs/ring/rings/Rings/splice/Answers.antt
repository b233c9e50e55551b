-- The followers of two indexes change places, and two rings are one.
use Rattle.std.proofs.Common.{List, ℕ, swap, ◌∙◌, ap, subst}
use Rattle.lq_prover_congruence.specs.Ring.Ring.{IsRings}
use Rattle.lq_prover_congruence.proofs.RingLemmas.Crossing.{crossed, spliced, two, joined-together}
use Rattle.lq_prover_congruence.proofs.ring.rings.Rings.splice.Goals as goal

pub invariant_of-self : goal.invariant_of-self
invariant_of-self c =
    let now = c.args.self.now in
    let P : List ℕ → Type 0 = λ l. (rs : List (List ℕ)) × IsRings l rs in
    let had = subst P c.self.view_is c.self.invariant in
    let w = two now c.args.a c.args.b had.0 had.1 c.requires.a_in c.requires.b_in c.requires.apart in
    let e = c.swap.ensures.items ∙ ap (λ l. swap l c.args.a c.args.b) c.self.view_is in
    (_, spliced now c.swap.new.self.items c.args.a c.args.b w.p w.q w.rs (crossed now c.swap.new.self.items c.args.a c.args.b c.requires.a_in c.requires.b_in e) w.are)

pub returns-clause-rings : goal.returns-clause-rings
returns-clause-rings c = λ p q rs.
    let e = c.swap.ensures.items ∙ ap (λ l. swap l c.args.a c.args.b) c.self.view_is in
    spliced c.args.self.now c.swap.new.self.items c.args.a c.args.b p q rs (crossed c.args.self.now c.swap.new.self.items c.args.a c.args.b c.requires.a_in c.requires.b_in e)

pub returns-clause-together : goal.returns-clause-together
returns-clause-together c = λ i j.
    let now = c.args.self.now in
    let P : List ℕ → Type 0 = λ l. (rs : List (List ℕ)) × IsRings l rs in
    let had = subst P c.self.view_is c.self.invariant in
    let w = two now c.args.a c.args.b had.0 had.1 c.requires.a_in c.requires.b_in c.requires.apart in
    let e = c.swap.ensures.items ∙ ap (λ l. swap l c.args.a c.args.b) c.self.view_is in
    joined-together now c.swap.new.self.items c.args.a c.args.b w i j (crossed now c.swap.new.self.items c.args.a c.args.b c.requires.a_in c.requires.b_in e)
