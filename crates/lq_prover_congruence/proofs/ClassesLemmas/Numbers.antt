-- Terms found by what they are.
use Rattle.std.proofs.Common.{◌≡◌, inl, inr, ℕ, zero, suc, ◌+◌, ◌<◌, true, cond, List, [], ◌∷◌, length, Some, None, sym, ap, ◌∙◌, subst, arith}
use Rattle.std.proofs.lemmas.Bool.{cases_Bool}
use Rattle.lq_prover_congruence.specs.Classes.Terms.{Term, same_term, find_in}
use Rattle.lq_prover_congruence.specs.Classes.Steps.{terms_of, term_at, IsTerm}
use Rattle.lq_prover_congruence.specs.Classes.Core.{Core}
use Rattle.lq_prover_congruence.specs.Classes.Standing.{numbered, IsExact}
use Rattle.lq_prover_congruence.specs.declared.classes.steps.Step.{Step}
use Rattle.lq_prover_congruence.proofs.ClassesLemmas.Filing.{term-is, term-refl}

some-is : (x y : ℕ) → Some x ≡ Some y → x ≡ y
some-is x y e = cc

found-numbered : (n : ℕ) (ts : List Term) (t : Term) (v : ℕ) → find_in (numbered n ts) t ≡ Some v → (i : ℕ) × (v ≡ n + i) × (i < length ts) × (term_at ts i ≡ t)
found-numbered n [] t v h = cc
found-numbered n (x ∷ ts) t v h =
    elim (cases_Bool (same_term t x)) [
      | inl b ↦ (let z : Some n ≡ Some v = sym (ap (λ q. cond q (Some n) (find_in (numbered (suc n) ts) t)) b) ∙ h in
          let y = some-is n v z in
          (0, omega arith, omega arith, sym (term-is t x b)))
      | inr b ↦
          let r = found-numbered (suc n) ts t v (sym (ap (λ q. cond q (Some n) (find_in (numbered (suc n) ts) t)) b) ∙ h) in
          (suc r.0, omega (arith, r.1), omega (arith, r.2), r.3)
    ]

none-numbered : (n : ℕ) (ts : List Term) (t : Term) → find_in (numbered n ts) t ≡ None → (i : ℕ) → i < length ts → term_at ts i ≡ t → ⊥
none-numbered n [] t h i k e = absurd (omega arith)
none-numbered n (x ∷ ts) t h zero k e =
    let P : Term → Type 0 = λ y. same_term t y ≡ true in
    let b = subst P (sym e) (term-refl t) in
    let z : Some n ≡ None = sym (ap (λ q. cond q (Some n) (find_in (numbered (suc n) ts) t)) b) ∙ h in
    cc
none-numbered n (x ∷ ts) t h (suc i) k e =
    elim (cases_Bool (same_term t x)) [
      | inl b ↦ (let z : Some n ≡ None = sym (ap (λ q. cond q (Some n) (find_in (numbered (suc n) ts) t)) b) ∙ h in cc)
      | inr b ↦ none-numbered (suc n) ts t (sym (ap (λ q. cond q (Some n) (find_in (numbered (suc n) ts) t)) b) ∙ h) i (omega arith) e
    ]

pub found-term : (steps : List Step) (c : Core) (t : Term) (v : ℕ) → IsExact steps c → find_in c.known t ≡ Some v → IsTerm steps v t
found-term steps c t v h e =
    let ts = terms_of steps in
    let r = found-numbered 0 ts t v (sym (ap (λ ks. find_in ks t) h.is.terms) ∙ e) in
    let q : r.0 ≡ v = omega (arith, r.1) in
    let P : ℕ → Type 0 = λ i. IsTerm steps i t in
    subst P q (r.2, r.3)

pub no-term : (steps : List Step) (c : Core) (t : Term) → IsExact steps c → find_in c.known t ≡ None → (i : ℕ) → IsTerm steps i t → ⊥
no-term steps c t h e i k = none-numbered 0 (terms_of steps) t (sym (ap (λ ks. find_in ks t) h.is.terms) ∙ e) i k.0 k.1
