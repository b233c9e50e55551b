-- A walk goes round the ring of its first index.
use Rattle.std.proofs.Common.{◌≡◌, ◌↔◌, List, ℕ, ◌<◌, ◌∷◌, length, subst, sym, ◌∙◌}
use Rattle.lq_prover_congruence.specs.Ring.Ring.{IsRings, IsTogether, times}
use Rattle.lq_prover_congruence.specs.Ring.Walk.{IsLeft, until}
use Rattle.lq_prover_congruence.proofs.RingLemmas.Meeting.{met}
use Rattle.lq_prover_congruence.proofs.RingLemmas.Walking.{begun, begun-members, left-is}
use Rattle.lq_prover_congruence.proofs.ring.rings.Rings.walk.Goals as goal

pub invariant_of-result : goal.invariant_of-result
invariant_of-result c =
    let now = c.args.self.now in
    let P : List ℕ → Type 0 = λ l. (rs : List (List ℕ)) × IsRings l rs in
    let had = subst P c.self.view_is c.self.invariant in
    let w = begun now c.args.a had.0 had.1 c.requires in
    let e : c.deref.result.now ≡ now = c.deref.ensures.value ∙ c.self.view_is in
    let Q : List ℕ → Type 0 = λ l. IsLeft l c.args.a c.args.a w.p in
    (w.p, subst Q (sym e) w.left)

pub returns-clause-ring : goal.returns-clause-ring
returns-clause-ring c =
    let now = c.args.self.now in
    let P : List ℕ → Type 0 = λ l. (rs : List (List ℕ)) × IsRings l rs in
    let had = subst P c.self.view_is c.self.invariant in
    let w = begun now c.args.a had.0 had.1 c.requires in
    let e : c.deref.result.now ≡ now = c.deref.ensures.value ∙ c.self.view_is in
    let Q : List ℕ → Type 0 = λ l. until (length l) l c.args.a c.args.a ≡ c.args.a ∷ w.p in
    (w.p, w.rs, subst Q (sym e) (left-is now c.args.a c.args.a w.p w.left), w.are)

pub returns-clause-members : goal.returns-clause-members
returns-clause-members c = λ j.
    let now = c.args.self.now in
    let P : List ℕ → Type 0 = λ l. (rs : List (List ℕ)) × IsRings l rs in
    let had = subst P c.self.view_is c.self.invariant in
    let w = begun now c.args.a had.0 had.1 c.requires in
    let e : c.deref.result.now ≡ now = c.deref.ensures.value ∙ c.self.view_is in
    let Q : List ℕ → Type 0 = λ l. (0 < times j l) ↔ IsTogether now c.args.a j in
    let R : List ℕ → Type 0 = λ l. until (length l) l c.args.a c.args.a ≡ c.args.a ∷ w.p in
    subst Q (sym (subst R (sym e) (left-is now c.args.a c.args.a w.p w.left))) (begun-members now c.args.a w j)

pub returns-clause-within : goal.returns-clause-within
returns-clause-within c = λ j.
    let now = c.args.self.now in
    let P : List ℕ → Type 0 = λ l. (rs : List (List ℕ)) × IsRings l rs in
    let had = subst P c.self.view_is c.self.invariant in
    let w = begun now c.args.a had.0 had.1 c.requires in
    let e : c.deref.result.now ≡ now = c.deref.ensures.value ∙ c.self.view_is in
    let Q : List ℕ → Type 0 = λ l. 0 < times j l → j < length now in
    let R : List ℕ → Type 0 = λ l. until (length l) l c.args.a c.args.a ≡ c.args.a ∷ w.p in
    subst Q (sym (subst R (sym e) (left-is now c.args.a c.args.a w.p w.left))) (met now c.args.a (c.args.a ∷ w.p) c.args.a j w.are.rings.0)
