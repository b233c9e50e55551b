-- Pairs of applications, term by term.
use Rattle.std.proofs.Common.{◌≡◌, ◌↔◌, inl, inr, ℕ, suc, ◌+◌, ◌-◌, ◌<◌, ◌≤◌, Bool, true, false, cond, eqb, nat_lt, ◌&&◌, List, [], ◌∷◌, ◌++◌, length, map, get_or, Option, Some, None, IfSome, IfNone, MatchOption, sym, ap, ap₂, ◌∙◌, subst, arith}
use Rattle.std.proofs.lemmas.Bool.{cases_Bool, cases_eq, and_parts}
use Rattle.std.proofs.lemmas.Bool.Decides.{nat_tests}
use Rattle.lq_prover_congruence.specs.Ring.Ring.{IsRings, times}
use Rattle.lq_prover_congruence.specs.Ring.Walk.{until}
use Rattle.lq_prover_congruence.proofs.RingLemmas.Meeting.{met}
use Rattle.lq_prover_congruence.proofs.RingLemmas.Walking.{few, left-is}
use Rattle.lq_prover_congruence.specs.Classes.Terms.{Term, same_term, term_in}
use Rattle.lq_prover_congruence.specs.Classes.Core.{Core, signature}
use Rattle.lq_prover_congruence.specs.Classes.Implied.{IsPartner, is_partner, pair, partners, pairs_on, left_pairs, IsUnderWay}
use Rattle.lq_prover_congruence.specs.declared.classes.head.Head.{Head}
use Rattle.lq_prover_congruence.specs.declared.classes.steps.Pair.{Pair}
use Rattle.lq_prover_congruence.proofs.ClassesLemmas.Filing.{term-is, term-refl}

lt-true : (i j : ℕ) → nat_lt i j ≡ true → i < j
lt-true i j h = grind (arith, nat_tests)

true-lt : (i j : ℕ) → i < j → nat_lt i j ≡ true
true-lt i j h = grind (arith, nat_tests)

same-true : (s t : Term) → s ≡ t → same_term s t ≡ true
same-true s t e = let P : Term → Type 0 = λ x. same_term s x ≡ true in subst P e (term-refl s)

pub partner-is : (c : Core) (i j : ℕ) → is_partner c i j ≡ true → IsPartner c i j
partner-is c i j h =
    let s = signature c.labels (term_in c.known i) in
    let t = signature c.labels (term_in c.known j) in
    let some = nat_lt 0 (length (term_in c.known i).1) in
    let p = and_parts (nat_lt i j) (some && same_term s t) h in
    let q = and_parts some (same_term s t) p.1 in
    record { before = lt-true i j p.0; some = lt-true 0 (length (term_in c.known i).1) q.0; same = term-is s t q.1 }

pub partner-true : (c : Core) (i j : ℕ) → IsPartner c i j → is_partner c i j ≡ true
partner-true c i j h =
    let s = signature c.labels (term_in c.known i) in
    let t = signature c.labels (term_in c.known j) in
    ap₂ (λ x y. x && y) (true-lt i j h.before) (ap₂ (λ x y. x && y) (true-lt 0 (length (term_in c.known i).1) h.some) (same-true s t h.same))

pub no-partner : (c : Core) (i j : ℕ) (r : Bool) → (r ≡ true) ↔ IsPartner c i j → r ≡ false → is_partner c i j ≡ false
no-partner c i j r h e =
    elim (cases_Bool (is_partner c i j)) [
      | inl t ↦ absurd (clash r e (h.1 (partner-is c i j t)))
      | inr f ↦ f
    ]
  where
    clash : (r : Bool) → r ≡ false → r ≡ true → ⊥
    clash r e f = let z : false ≡ true = sym e ∙ f in cc

-- ---- a walk, step by step

pub partners-skip : (c : Core) (i j : ℕ) (ws xs : List ℕ) → ws ≡ j ∷ xs → is_partner c i j ≡ false → partners c i ws ≡ partners c i xs
partners-skip c i j ws xs e f = ap (partners c i) e ∙ ap (λ b. cond b (pair i j ∷ partners c i xs) (partners c i xs)) f

times-self : (j : ℕ) (xs : List ℕ) → 0 < times j (j ∷ xs)
times-self j xs = grind (arith, nat_tests)

pub within-first : (n j : ℕ) (ws xs : List ℕ) → ws ≡ j ∷ xs → ((k : ℕ) → 0 < times k ws → k < n) → j < n
within-first n j ws xs e h = let P : List ℕ → Type 0 = λ l. 0 < times j l in h j (subst P (sym e) (times-self j xs))

pub within-rest : (n j : ℕ) (ws xs : List ℕ) → ws ≡ j ∷ xs → ((k : ℕ) → 0 < times k ws → k < n) → (k : ℕ) → 0 < times k xs → k < n
within-rest n j ws xs e h k z = h k (omega (arith, ap (times k) e))

-- ---- a ring

pub ring-is : (next : List ℕ) (a : ℕ) (p : List ℕ) (rs : List (List ℕ)) → IsRings next ((a ∷ p) ∷ rs) → until (length next) next a a ≡ a ∷ p
ring-is next a p rs are =
    let within : (i : ℕ) → 0 < times i (a ∷ p) → i < length next = λ i k. met next a (a ∷ p) a i are.rings.0 k in
    let most : (i : ℕ) → times i (a ∷ p) ≤ 1 = λ i. elim (cases_eq (times i (a ∷ p)) 0) [ inl e ↦ omega arith | inr d ↦ omega (arith, are.once i (within i (omega arith))) ] in
    left-is next a a p (record {
      meets = are.rings.0;
      never = omega (arith, most a, times-one a p);
      few = omega (arith, few (length next) (a ∷ p) most within);
    })
  where
    times-one : (i : ℕ) (xs : List ℕ) → times i (i ∷ xs) ≡ 1 + times i xs
    times-one i xs = grind (arith, nat_tests)

pub walk-none : (c : Core) (i : ℕ) (walk : Option (List ℕ)) (w p : List ℕ) (rs : List (List ℕ)) → walk ≡ None → i < length c.known → w ≡ i ∷ p → IsRings c.next ((i ∷ p) ∷ rs) → left_pairs c i walk ≡ partners c i w ++ pairs_on c (length c.known - suc i) (suc i)
walk-none c i walk w p rs e h q r =
    let n : length c.known - i ≡ suc (length c.known - suc i) = omega arith in
    ap (left_pairs c i) e ∙ ap (λ k. pairs_on c k i) n ∙ ap (λ l. partners c i l ++ pairs_on c (length c.known - suc i) (suc i)) (ring-is c.next i p rs r ∙ sym q)

-- ---- what a step of the search gives

pub yields : (old new : List Pair) (r : Option Pair) → IfSome r (λ p. old ≡ p ∷ new) → IfNone r ((old ≡ []) × (new ≡ [])) → MatchOption r ((old ≡ []) × (new ≡ [])) (λ p. old ≡ p ∷ new)
yields old new None h k = k
yields old new (Some p) h k = h

-- ---- partners by heads and labels

pub partner-iff : (c : Core) (i j : ℕ) (r : Bool) (h k : Head) (xs ys : List ℕ) → (h, xs) ≡ term_in c.known i → (k, ys) ≡ term_in c.known j → i < j → 0 < length xs → h ≡ k
    → (r ≡ true) ↔ (map (λ a. get_or c.labels a 0) xs ≡ map (λ a. get_or c.labels a 0) ys) → (r ≡ true) ↔ IsPartner c i j
partner-iff c i j r h k xs ys e f l s q m = (
  λ t. record {
    before = l;
    some = omega (arith, s, ap (λ z. length z.1) e);
    same = ap (signature c.labels) (sym e) ∙ ap₂ (λ x y. (x, y)) q (m.0 t) ∙ ap (signature c.labels) f;
  },
  λ p. m.1 (ap (λ t. t.1) (ap (signature c.labels) e ∙ p.same ∙ sym (ap (signature c.labels) f))),
)

pub not-iff : (P : Type 0) → (P → ⊥) → (false ≡ true) ↔ P
not-iff P n = (λ e. absurd (clash e), λ p. absurd (n p))
  where
    clash : false ≡ true → ⊥
    clash e = cc

pub some-of : (r : Bool) (n m : ℕ) → r ≡ eqb n 0 → r ≡ false → n ≡ m → 0 < m
some-of r n m e f q =
    let b : eqb n 0 ≡ false = sym e ∙ f in
    grind (arith, nat_tests)
