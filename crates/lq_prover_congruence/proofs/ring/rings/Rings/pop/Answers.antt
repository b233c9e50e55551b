-- The last index goes with its ring.
use Rattle.std.proofs.Common.{◌≡◌, List, [], ◌∷◌, ◌++◌, ℕ, ◌-◌, take, length, sym, ◌∙◌, ap, subst, arith, length-append}
use Rattle.lq_prover_congruence.specs.Ring.Ring.{IsRings}
use Rattle.lq_prover_congruence.proofs.RingLemmas.Crossing.{shrunk, front-is}
use Rattle.lq_prover_congruence.proofs.ring.rings.Rings.pop.Goals as goal

front : (c : goal.After-pop) → c.pop.new.self.items ≡ c.requires.0
front c =
    let b = c.requires.0 in
    let e = c.self.view_is ∙ c.requires.1 in
    c.pop.ensures.rest ∙ ap (λ l. take (c.self.inside.next.len - 1) l) e
    ∙ front-is b (length b) c.self.inside.next.len (omega (arith, c.self.inside.next.ok, ap length e, length-append b (length b ∷ [])))

pub invariant_of-self : goal.invariant_of-self
invariant_of-self c =
    let P : List ℕ → Type 0 = λ l. (rs : List (List ℕ)) × IsRings l rs in
    let had = subst P (c.self.view_is ∙ c.requires.1) c.self.invariant in
    subst P (sym (front c)) (shrunk c.requires.0 had.0 had.1)

pub returns : goal.returns
returns c = c.requires.1 ∙ ap (λ l. l ++ length l ∷ []) (sym (front c))
