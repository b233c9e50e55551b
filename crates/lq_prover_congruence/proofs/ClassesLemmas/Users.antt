-- Users listed.
use Rattle.std.proofs.Common.{◌≡◌, inl, inr, ℕ, ◌+◌, ◌<◌, List, [], ◌∷◌, ◌++◌, length, take, get_or, set, sym, ap, subst, arith, get_or-set_other, get_or-set_same}
use Rattle.std.proofs.lemmas.Bool.{cases_eq}
use Rattle.std.proofs.lemmas.Bool.Decides.{nat_tests}
use Rattle.std.proofs.lemmas.List.{take_more}
use Rattle.lq_prover_congruence.specs.Ring.Ring.{times}
use Rattle.lq_prover_congruence.specs.Classes.Moves.{KeepsUses}
use Rattle.lq_prover_congruence.proofs.ClassesLemmas.Walks.{more-times, times-append}

term-last : (term : ℕ) (old : List ℕ) → 0 < times term (old ++ term ∷ [])
term-last term old = omega (arith, times-append term old (term ∷ []), one term)
  where
    one : (i : ℕ) → times i (i ∷ []) ≡ 1
    one i = grind (arith, nat_tests)

set-users : (uses : List (List ℕ)) (at : ℕ) (users old : List ℕ) → at < length uses → old ≡ get_or uses at [] → ((i : ℕ) → 0 < times i old → 0 < times i users) → (a i : ℕ) → 0 < times i (get_or uses a []) → 0 < times i (get_or (set uses at users) a [])
set-users uses at users old h e k a i z =
    elim (cases_eq a at) [
      | inl q ↦
          (let Q : ℕ → Type 0 = λ x. 0 < times i (get_or (set uses at users) x []) in
          let R : ℕ → Type 0 = λ x. 0 < times i (get_or uses x []) in
          let S : List ℕ → Type 0 = λ l. 0 < times i l in
          let here : 0 < times i users = k i (subst S (sym e) (subst R q z)) in
          subst Q (sym q) (rw get_or-set_same here))
      | inr q ↦ (let ne : a ≡ at → ⊥ = q in rw get_or-set_other z)
    ]

more-old : (term : ℕ) (old users : List ℕ) → users ≡ old ++ term ∷ [] → (i : ℕ) → 0 < times i old → 0 < times i users
more-old term old users e i z = omega (arith, ap (times i) e, times-append i old (term ∷ []))

pub kept-on : (first uses : List (List ℕ)) (at term : ℕ) (users old : List ℕ) → at < length uses → old ≡ get_or uses at [] → users ≡ old ++ term ∷ [] → KeepsUses first uses → KeepsUses first (set uses at users)
kept-on first uses at term users old h e u k = λ a i z. set-users uses at users old h e (more-old term old users u) a i (k a i z)

pub listed-on : (uses : List (List ℕ)) (args : List ℕ) (n term : ℕ) (users old : List ℕ) → n < length args → get_or args n 0 < length uses → old ≡ get_or uses (get_or args n 0) [] → users ≡ old ++ term ∷ []
    → ((a : ℕ) → 0 < times a (take n args) → 0 < times term (get_or uses a [])) → (a : ℕ) → 0 < times a (take (n + 1) args) → 0 < times term (get_or (set uses (get_or args n 0) users) a [])
listed-on uses args n term users old h l e u k a z =
    let at = get_or args n 0 in
    elim (more-times a at (take n args)) [
      | inl p ↦
          (let Q : ℕ → Type 0 = λ x. 0 < times term (get_or (set uses at users) x []) in
          let S : List ℕ → Type 0 = λ us. 0 < times term us in
          let here : 0 < times term users = subst S (sym u) (term-last term old) in
          subst Q (sym p.0) (same uses at users term l here))
      | inr p ↦ set-users uses at users old l e (more-old term old users u) a term (k a (omega (arith, ap (times a) (take_more args n 0 h), p.1)))
    ]
  where
    same : (uses : List (List ℕ)) (at : ℕ) (users : List ℕ) (term : ℕ) → at < length uses → 0 < times term users → 0 < times term (get_or (set uses at users) at [])
    same uses at users term l here = rw get_or-set_same here
