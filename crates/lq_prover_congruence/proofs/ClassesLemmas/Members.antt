-- The pairs that are met are those that are implied.
use Rattle.std.proofs.Common.{◌≡◌, ◌⊎◌, ◌↔◌, inl, inr, ℕ, zero, suc, ◌+◌, ◌-◌, ◌<◌, ◌≤◌, Bool, true, false, cond, eqb, ◌&&◌, List, [], ◌∷◌, ◌++◌, length, map, get_or, None, refl, sym, ap, ◌∙◌, subst, arith}
use Rattle.std.proofs.lemmas.Bool.{cases_Bool, cases_eq}
use Rattle.std.proofs.lemmas.Bool.Decides.{nat_tests}
use Rattle.std.proofs.lemmas.List.{length-map}
use Rattle.lq_prover_congruence.specs.Ring.Ring.{IsRings, IsTogether, times}
use Rattle.lq_prover_congruence.specs.Ring.Walk.{until}
use Rattle.lq_prover_congruence.proofs.RingLemmas.Meeting.{met}
use Rattle.lq_prover_congruence.proofs.RingLemmas.Walking.{begun, begun-members, left-is}
use Rattle.lq_prover_congruence.specs.Classes.Terms.{term_in}
use Rattle.lq_prover_congruence.specs.Classes.Steps.{terms_of, term_at, applied}
use Rattle.lq_prover_congruence.specs.Classes.Core.{Core, signature}
use Rattle.lq_prover_congruence.specs.Classes.Standing.{IsExact}
use Rattle.lq_prover_congruence.specs.Classes.Implied.{IsImplied, IsPartner, is_partner, pair, pair_times, partners, pairs_on, left_pairs}
use Rattle.lq_prover_congruence.specs.declared.classes.steps.Pair.{Pair}
use Rattle.lq_prover_congruence.specs.declared.classes.steps.Step.{Step}
use Rattle.lq_prover_congruence.proofs.ClassesLemmas.Labels.{term-numbered, length-numbered, map-same, same-labels}
use Rattle.lq_prover_congruence.proofs.ClassesLemmas.Walks.{below-at}
use Rattle.lq_prover_congruence.proofs.ClassesLemmas.Partners.{partner-is, partner-true}

abbrev ring : Core → ℕ → List ℕ
ring c i = until (length c.next) c.next i i

pub times-append : (i j : ℕ) (xs ys : List Pair) → pair_times i j (xs ++ ys) ≡ pair_times i j xs + pair_times i j ys
times-append i j [] ys = omega arith
times-append i j (x ∷ xs) ys = omega (arith, times-append i j xs ys)

first-or-rest : (i j k x n : ℕ) → 0 < cond (eqb i k && eqb j x) 1 0 + n → ((i ≡ k) × (j ≡ x)) ⊎ (0 < n)
first-or-rest i j k x n h =
    elim (cases_eq i k) [
      | inl e ↦ elim (cases_eq j x) [ inl f ↦ inl (e, f) | inr d ↦ inr (grind (arith, nat_tests)) ]
      | inr d ↦ inr (grind (arith, nat_tests))
    ]

first-one : (i j n : ℕ) → 0 < cond (eqb i i && eqb j j) 1 0 + n
first-one i j n = grind (arith, nat_tests)

times-first : (j x : ℕ) (xs : List ℕ) → 0 < times j (x ∷ xs) → (j ≡ x) ⊎ (0 < times j xs)
times-first j x xs h = elim (cases_eq j x) [ inl e ↦ inl e | inr d ↦ inr (grind (arith, nat_tests)) ]

times-here : (j x : ℕ) (xs : List ℕ) → j ≡ x → 0 < times j (x ∷ xs)
times-here j x xs e = grind (arith, nat_tests)

in-partners : (c : Core) (k : ℕ) (js : List ℕ) (i j : ℕ) → 0 < pair_times i j (partners c k js) → (i ≡ k) × (0 < times j js) × (is_partner c k j ≡ true)
in-partners c k [] i j h = absurd (omega arith)
in-partners c k (x ∷ js) i j h =
    let P : List Pair → Type 0 = λ ps. 0 < pair_times i j ps in
    elim (cases_Bool (is_partner c k x)) [
      | inl b ↦
          (let h2 : 0 < pair_times i j (pair k x ∷ partners c k js) = subst P (ap (λ t. cond t (pair k x ∷ partners c k js) (partners c k js)) b) h in
          elim (first-or-rest i j k x (pair_times i j (partners c k js)) h2) [
            | inl e ↦ (let Q : ℕ → Type 0 = λ y. is_partner c k y ≡ true in (e.0, times-here j x js e.1, subst Q (sym e.1) b))
            | inr r ↦ (let q = in-partners c k js i j r in (q.0, omega (arith, q.1), q.2))
          ])
      | inr b ↦
          (let r = subst P (ap (λ t. cond t (pair k x ∷ partners c k js) (partners c k js)) b) h in
          let q = in-partners c k js i j r in (q.0, omega (arith, q.1), q.2))
    ]

to-partners : (c : Core) (k : ℕ) (js : List ℕ) (j : ℕ) → 0 < times j js → is_partner c k j ≡ true → 0 < pair_times k j (partners c k js)
to-partners c k [] j h e = absurd (omega arith)
to-partners c k (x ∷ js) j h e =
    let P : List Pair → Type 0 = λ ps. 0 < pair_times k j ps in
    elim (cases_Bool (is_partner c k x)) [
      | inl b ↦
          (let h2 : 0 < pair_times k j (pair k x ∷ partners c k js) = elim (times-first j x js h) [
            | inl q ↦ (let Q : ℕ → Type 0 = λ y. 0 < pair_times k j (pair k y ∷ partners c k js) in subst Q q (first-one k j (pair_times k j (partners c k js))))
            | inr r ↦ omega (arith, to-partners c k js j r e)
          ] in
          subst P (sym (ap (λ t. cond t (pair k x ∷ partners c k js) (partners c k js)) b)) h2)
      | inr b ↦
          (let r : 0 < times j js = elim (times-first j x js h) [
            | inl q ↦ (let Q : ℕ → Type 0 = λ y. is_partner c k y ≡ true in absurd (clash (is_partner c k x) b (subst Q q e)))
            | inr r ↦ r
          ] in
          subst P (sym (ap (λ t. cond t (pair k x ∷ partners c k js) (partners c k js)) b)) (to-partners c k js j r e))
    ]
  where
    clash : (t : Bool) → t ≡ false → t ≡ true → ⊥
    clash t e f = let z : false ≡ true = sym e ∙ f in cc

in-pairs : (c : Core) (n k i j : ℕ) → 0 < pair_times i j (pairs_on c n k) → (k ≤ i) × (i < k + n) × (0 < times j (ring c i)) × (is_partner c i j ≡ true)
in-pairs c zero k i j h = absurd (omega arith)
in-pairs c (suc n) k i j h =
    elim (cases_eq (pair_times i j (partners c k (ring c k))) 0) [
      | inl e ↦
          (let r = in-pairs c n (suc k) i j (omega (arith, times-append i j (partners c k (ring c k)) (pairs_on c n (suc k)))) in
          (omega (arith, r.0), omega (arith, r.1), r.2, r.3))
      | inr d ↦
          (let q = in-partners c k (ring c k) i j (omega arith) in
          let P : ℕ → Type 0 = λ y. (0 < times j (ring c y)) × (is_partner c y j ≡ true) in
          let s = subst P (sym q.0) (q.1, q.2) in
          (omega (arith, q.0), omega (arith, q.0), s.0, s.1))
    ]

to-pairs : (c : Core) (n k i j : ℕ) → k ≤ i → i < k + n → 0 < times j (ring c i) → is_partner c i j ≡ true → 0 < pair_times i j (pairs_on c n k)
to-pairs c zero k i j h l t e = absurd (omega arith)
to-pairs c (suc n) k i j h l t e =
    elim (cases_eq i k) [
      | inl q ↦
          (let P : ℕ → Type 0 = λ y. 0 < pair_times i j (partners c y (ring c y)) in
          omega (arith, times-append i j (partners c k (ring c k)) (pairs_on c n (suc k)), subst P q (to-partners c i (ring c i) j t e)))
      | inr d ↦
          (let ne : i ≡ k → ⊥ = d in
          omega (arith, times-append i j (partners c k (ring c k)) (pairs_on c n (suc k)), to-pairs c n (suc k) i j (omega arith) (omega arith) t e))
    ]

ring-members : (next : List ℕ) (i j : ℕ) (rs : List (List ℕ)) → IsRings next rs → i < length next → (0 < times j (until (length next) next i i)) ↔ IsTogether next i j
ring-members next i j rs r h =
    let w = begun next i rs r h in
    let P : List ℕ → Type 0 = λ l. (0 < times j l) ↔ IsTogether next i j in
    subst P (sym (left-is next i i w.p w.left)) (begun-members next i w j)

pub map-at : (labels xs : List ℕ) (k : ℕ) → k < length xs → get_or (map (λ a. get_or labels a 0) xs) k 0 ≡ get_or labels (get_or xs k 0) 0
map-at labels [] k h = absurd (omega arith)
map-at labels (x ∷ xs) zero h = refl
map-at labels (x ∷ xs) (suc k) h = map-at labels xs k (omega arith)

pub partner-implied : (steps : List Step) (c : Core) (i j : ℕ) → IsExact steps c → i < length c.known → j < length c.known → IsPartner c i j → IsImplied steps i j
partner-implied steps c i j h k l p =
    let ts = terms_of steps in
    let long : length c.known ≡ length ts = ap length h.is.terms ∙ length-numbered 0 ts in
    let at : (x : ℕ) → term_at ts x ≡ term_in c.known x = λ x. sym (ap (λ z. term_in z x) h.is.terms ∙ term-numbered 0 ts x) in
    let xs = (term_in c.known i).1 in
    let ys = (term_in c.known j).1 in
    let head : (term_in c.known j).0 ≡ (term_in c.known i).0 = sym (ap (λ t. t.0) p.same) in
    let maps : map (λ a. get_or c.labels a 0) xs ≡ map (λ a. get_or c.labels a 0) ys = ap (λ t. t.1) p.same in
    let even : length xs ≡ length ys = sym (length-map xs (λ a. get_or c.labels a 0)) ∙ ap length maps ∙ length-map ys (λ a. get_or c.labels a 0) in
    record {
      before = p.before;
      head = (term_in c.known i).0;
      left = xs;
      right = ys;
      is_left = (omega arith, at i);
      is_right = (omega arith, at j ∙ ap (λ z. (z, ys)) head);
      some = p.some;
      even = even;
      same = λ n z.
          let x_in = below-at i xs n (h.is.shaped.args i k) z in
          let y_in = below-at j ys n (h.is.shaped.args j l) (omega arith) in
          h.is.sound (get_or xs n 0) (get_or ys n 0) (omega arith) (omega arith) (sym (map-at c.labels xs n z) ∙ ap (λ m. get_or m n 0) maps ∙ map-at c.labels ys n (omega arith));
    }

pub implied-partner : (steps : List Step) (c : Core) (i j : ℕ) → IsExact steps c → IsImplied steps i j → IsPartner c i j × (i < length c.known) × (j < length c.known) × (get_or c.labels i 0 ≡ get_or c.labels j 0)
implied-partner steps c i j h p =
    let ts = terms_of steps in
    let long : length c.known ≡ length ts = ap length h.is.terms ∙ length-numbered 0 ts in
    let at_i : term_in c.known i ≡ (p.head, p.left) = ap (λ l. term_in l i) h.is.terms ∙ term-numbered 0 ts i ∙ p.is_left.1 in
    let at_j : term_in c.known j ≡ (p.head, p.right) = ap (λ l. term_in l j) h.is.terms ∙ term-numbered 0 ts j ∙ p.is_right.1 in
    let maps = map-same c.labels p.left p.right p.even (λ k z. same-labels steps c h (get_or p.left k 0) (get_or p.right k 0) (p.same k z)) in
    let i_in : i < length ts = p.is_left.0 in
    let j_in : j < length ts = p.is_right.0 in (
      record {
        before = p.before;
        some = omega (arith, p.some, ap (λ t. length t.1) at_i);
        same = ap (signature c.labels) at_i ∙ ap (λ m. (p.head, m)) maps ∙ sym (ap (signature c.labels) at_j);
      },
      omega arith,
      omega arith,
      same-labels steps c h i j (applied i j p.head p.left p.right p.is_left p.is_right p.even p.same),
    )

pub all-pairs : (steps : List Step) (c : Core) (rs : List (List ℕ)) → IsExact steps c → IsRings c.next rs → (i j : ℕ) → (0 < pair_times i j (left_pairs c 0 None)) ↔ IsImplied steps i j
all-pairs steps c rs h r i j =
    let n : length c.known - 0 ≡ length c.known = omega arith in
    let P : ℕ → Type 0 = λ m. 0 < pair_times i j (pairs_on c m 0) in (
      λ t.
          let q = in-pairs c (length c.known) 0 i j (subst P n t) in
          let i_in : i < length c.known = omega (arith, q.1) in
          let w = (h.is.shaped.rings i j).0 ((ring-members c.next i j rs r (omega (arith, h.is.shaped.ringed))).0 q.2) in
          partner-implied steps c i j h i_in w.1 (partner-is c i j q.3),
      λ p.
          let q = implied-partner steps c i j h p in
          let t = (ring-members c.next i j rs r (omega (arith, q.1, h.is.shaped.ringed))).1 ((h.is.shaped.rings i j).1 (q.1, q.2, q.3)) in
          subst P (sym n) (to-pairs c (length c.known) 0 i j (omega arith) (omega (arith, q.1)) t (partner-true c i j q.0)),
    )

-- ---- each pair once

first-fits : (i j k x n m : ℕ) → n ≤ m → cond (eqb i k && eqb j x) 1 0 + n ≤ cond (eqb j x) 1 0 + m
first-fits i j k x n m h =
    elim (cases_eq i k) [
      | inl e ↦ elim (cases_eq j x) [ inl f ↦ grind (arith, nat_tests) | inr d ↦ grind (arith, nat_tests) ]
      | inr d ↦ grind (arith, nat_tests)
    ]

few-partners : (c : Core) (k : ℕ) (js : List ℕ) (i j : ℕ) → pair_times i j (partners c k js) ≤ times j js
few-partners c k [] i j = omega arith
few-partners c k (x ∷ js) i j =
    let P : List Pair → Type 0 = λ ps. pair_times i j ps ≤ times j (x ∷ js) in
    let rest = few-partners c k js i j in
    elim (cases_Bool (is_partner c k x)) [
      | inl b ↦ subst P (sym (ap (λ t. cond t (pair k x ∷ partners c k js) (partners c k js)) b)) (first-fits i j k x (pair_times i j (partners c k js)) (times j js) rest)
      | inr b ↦ subst P (sym (ap (λ t. cond t (pair k x ∷ partners c k js) (partners c k js)) b)) (omega (arith, rest))
    ]

few-pairs : (c : Core) (n k i j : ℕ) → pair_times i j (pairs_on c n k) ≤ times j (ring c i)
few-pairs c zero k i j = omega arith
few-pairs c (suc n) k i j =
    let all = times-append i j (partners c k (ring c k)) (pairs_on c n (suc k)) in
    elim (cases_eq i k) [
      | inl e ↦
          (let P : ℕ → Type 0 = λ y. pair_times i j (partners c y (ring c y)) ≤ times j (ring c i) in
          let here = subst P e (few-partners c i (ring c i) i j) in
          elim (cases_eq (pair_times i j (pairs_on c n (suc k))) 0) [
            | inl z ↦ omega (arith, all, here)
            | inr d ↦ absurd (let r = in-pairs c n (suc k) i j (omega arith) in omega (arith, r.0))
          ])
      | inr d ↦
          elim (cases_eq (pair_times i j (partners c k (ring c k))) 0) [
            | inl z ↦ omega (arith, all, few-pairs c n (suc k) i j)
            | inr q ↦ absurd (d (in-partners c k (ring c k) i j (omega arith)).0)
          ]
    ]

pub pairs-once : (c : Core) (rs : List (List ℕ)) → IsRings c.next rs → length c.next ≡ length c.known → (i j : ℕ) → pair_times i j (left_pairs c 0 None) ≤ 1
pairs-once c rs r l i j =
    let n : length c.known - 0 ≡ length c.known = omega arith in
    let P : ℕ → Type 0 = λ m. pair_times i j (pairs_on c m 0) ≤ 1 in
    subst P (sym n) (elim (cases_eq (pair_times i j (pairs_on c (length c.known) 0)) 0) [
      | inl z ↦ omega arith
      | inr d ↦
          (let q = in-pairs c (length c.known) 0 i j (omega arith) in
          let w = begun c.next i rs r (omega (arith, q.1)) in
          let e : ring c i ≡ i ∷ w.p = left-is c.next i i w.p w.left in
          let j_in : j < length c.next = met c.next i (i ∷ w.p) i j w.are.rings.0 (let Q : List ℕ → Type 0 = λ ls. 0 < times j ls in subst Q e q.2) in
          omega (arith, few-pairs c (length c.known) 0 i j, ap (times j) e, w.are.once j j_in))
    ])
