-- One more index, in a ring of its own.
use Rattle.std.proofs.Common.{◌≡◌, List, [], ◌∷◌, ◌++◌, ℕ, length, ◌∙◌, sym, ap, subst, ◌↔◌, ◌⊎◌}
use Rattle.lq_prover_congruence.specs.Ring.Ring.{IsRings, IsTogether}
use Rattle.lq_prover_congruence.proofs.RingLemmas.Crossing.{pushed, pushed-together}
use Rattle.lq_prover_congruence.proofs.ring.rings.Rings.push.Goals as goal

pub invariant_of-self-2 : goal.invariant_of-self-2
invariant_of-self-2 c =
    let now = c.args.self.now in
    let P : List ℕ → Type 0 = λ l. (rs : List (List ℕ)) × IsRings l rs in
    let had = subst P c.self.view_is c.self.invariant in
    let e : c.push.new.self.items ≡ now ++ length now ∷ [] = c.in_ok-push.ensures.items ∙ ap (λ l. l ++ c.len-index.result ∷ []) c.self.view_is ∙ ap (λ n. now ++ n ∷ []) c.len-index.ensures.len in
    subst P (sym e) (_, pushed now had.0 had.1)

pub returns-clause-rings : goal.returns-clause-rings
returns-clause-rings c = λ rs r.
    let now = c.args.self.now in
    let e : c.push.new.self.items ≡ now ++ length now ∷ [] = c.in_ok-push.ensures.items ∙ ap (λ l. l ++ c.len-index.result ∷ []) c.self.view_is ∙ ap (λ n. now ++ n ∷ []) c.len-index.ensures.len in
    let P : List ℕ → Type 0 = λ l. IsRings l ((length now ∷ []) ∷ rs) in
    subst P (sym e) (pushed now rs r)

pub returns-clause-together : goal.returns-clause-together
returns-clause-together c = λ i j.
    let now = c.args.self.now in
    let Q : List ℕ → Type 0 = λ l. (rs : List (List ℕ)) × IsRings l rs in
    let had = subst Q c.self.view_is c.self.invariant in
    let e : c.push.new.self.items ≡ now ++ length now ∷ [] = c.in_ok-push.ensures.items ∙ ap (λ l. l ++ c.len-index.result ∷ []) c.self.view_is ∙ ap (λ n. now ++ n ∷ []) c.len-index.ensures.len in
    let P : List ℕ → Type 0 = λ l. IsTogether l i j ↔ (IsTogether now i j ⊎ ((i ≡ length now) × (j ≡ i))) in
    subst P (sym e) (pushed-together now had.0 i j had.1)
