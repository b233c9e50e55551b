-- The followers of two indexes change places, and one ring is two.
use Rattle.std.proofs.Common.{◌≡◌, List, ℕ, ◌<◌, length, swap, ◌∙◌, ap, subst, arith}
use Rattle.std.proofs.lemmas.List.Edits.{length-swap}
use Rattle.lq_prover_congruence.specs.Ring.Ring.{IsRings}
use Rattle.lq_prover_congruence.proofs.RingLemmas.Crossing.{crossed, parts, one, both-in, crossed-back}
use Rattle.lq_prover_congruence.proofs.ring.rings.Rings.split_after.Goals as goal

pub swap-requires-clause-j_in_bounds : goal.swap-requires-clause-j_in_bounds
swap-requires-clause-j_in_bounds c =
    let P : List ℕ → Type 0 = λ l. (rs : List (List ℕ)) × IsRings l rs in
    let had = subst P c.self.view_is c.self.invariant in
    let h = both-in c.args.self.now had.0 c.args.a c.args.b had.1 c.requires.together in
    omega (arith, c.self.inside.next.ok, ap length c.self.view_is, h)

pub invariant_of-self : goal.invariant_of-self
invariant_of-self c =
    let now = c.args.self.now in
    let P : List ℕ → Type 0 = λ l. (rs : List (List ℕ)) × IsRings l rs in
    let had = subst P c.self.view_is c.self.invariant in
    let w = one now c.args.a c.args.b had.0 had.1 c.requires.differ c.requires.together in
    let e = c.swap.ensures.items ∙ ap (λ l. swap l c.args.a c.args.b) c.self.view_is in
    (_, parts now c.swap.new.self.items c.args.a c.args.b w.p w.q w.rs (crossed now c.swap.new.self.items c.args.a c.args.b c.requires.together.0 (both-in now had.0 c.args.a c.args.b had.1 c.requires.together) e) w.are)

pub returns-clause-rings : goal.returns-clause-rings
returns-clause-rings c = λ p q rs.
    let now = c.args.self.now in
    let P : List ℕ → Type 0 = λ l. (rs : List (List ℕ)) × IsRings l rs in
    let had = subst P c.self.view_is c.self.invariant in
    let e = c.swap.ensures.items ∙ ap (λ l. swap l c.args.a c.args.b) c.self.view_is in
    parts now c.swap.new.self.items c.args.a c.args.b p q rs (crossed now c.swap.new.self.items c.args.a c.args.b c.requires.together.0 (both-in now had.0 c.args.a c.args.b had.1 c.requires.together) e)

pub returns-clause-undoes : goal.returns-clause-undoes
returns-clause-undoes c = λ before was.
    let now = c.args.self.now in
    let P : List ℕ → Type 0 = λ l. (rs : List (List ℕ)) × IsRings l rs in
    let had = subst P c.self.view_is c.self.invariant in
    let b_in = both-in now had.0 c.args.a c.args.b had.1 c.requires.together in
    let long : length now ≡ length before = ap length was ∙ length-swap before c.args.a c.args.b in
    let e = c.swap.ensures.items ∙ ap (λ l. swap l c.args.a c.args.b) c.self.view_is in
    e ∙ ap (λ l. swap l c.args.a c.args.b) was ∙ crossed-back before c.args.a c.args.b (let h : c.args.a < length now = c.requires.together.0 in omega arith) (omega arith)
