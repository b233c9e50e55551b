-- Walks go round a ring once.
use Rattle.std.proofs.Common.{◌≡◌, ◌↔◌, inl, inr, ℕ, zero, suc, ◌+◌, ◌<◌, ◌≤◌, Bool, cond, eqb, true, false, ◌||◌, List, [], ◌∷◌, length, get_or, Option, Some, None, refl, sym, ap, ◌∙◌, subst, arith}
use Rattle.std.specs.List.{IsDistinct, AllByRecursion, list_any}
use Rattle.std.proofs.lemmas.Bool.{cases_eq, cases_Bool}
use Rattle.std.proofs.lemmas.Bool.Decides.{nat_tests}
use Rattle.std.proofs.lemmas.Map.Steps.{length-le_from_distinct_below}
use Rattle.lq_prover_congruence.specs.Ring.Ring.{Meets, IsRings, IsTogether, times}
use Rattle.lq_prover_congruence.specs.Ring.Walk.{until, left_of, IsLeft, IsWalk}
use Rattle.lq_prover_congruence.proofs.RingLemmas.Meeting.{times-here, met, pull, both-all, both-together, together-both}

apart-from : (x : ℕ) (xs : List ℕ) → times x xs ≡ 0 → AllByRecursion (λ y. eqb x y ≡ false) xs
apart-from x [] h = tt
apart-from x (y ∷ ys) h =
    elim (cases_Bool (eqb x y)) [
      | inl e ↦ absurd (let P : Bool → Type 0 = λ b. cond b 1 0 + times x ys ≡ 0 in let z = subst P e h in omega arith)
      | inr e ↦ (e, apart-from x ys (let P : Bool → Type 0 = λ b. cond b 1 0 + times x ys ≡ 0 in let z = subst P e h in omega arith))
    ]

distinct : (xs : List ℕ) → ((i : ℕ) → times i xs ≤ 1) → IsDistinct eqb xs
unfolding IsDistinct
distinct [] h = tt
distinct (x ∷ xs) h = (apart-from x xs (omega (arith, times-here x xs, h x)), distinct xs (λ i. omega (arith, h i)))

any-times : (q : ℕ) (xs : List ℕ) → list_any (eqb q) xs ≡ true → 0 < times q xs
any-times q [] h = grind arith
any-times q (x ∷ xs) h =
    elim (cases_Bool (eqb q x)) [
      | inl e ↦ (let P : Bool → Type 0 = λ b. 0 < cond b 1 0 + times q xs in subst P (sym e) (omega arith))
      | inr e ↦ (let P : Bool → Type 0 = λ b. 0 < cond b 1 0 + times q xs in
          let Q : Bool → Type 0 = λ b. (b || list_any (eqb q) xs) ≡ true in
          let k = any-times q xs (subst Q e h) in subst P (sym e) (omega arith))
    ]

pub few : (n : ℕ) (xs : List ℕ) → ((i : ℕ) → times i xs ≤ 1) → ((i : ℕ) → 0 < times i xs → i < n) → length xs ≤ n
few n xs h k = length-le_from_distinct_below xs n (distinct xs h) (λ q e. k q (any-times q xs e))

pub until-is : (most : ℕ) (next : List ℕ) (first at : ℕ) (xs : List ℕ) → Meets next at (at ∷ xs) first → times first xs ≡ 0 → length xs < most → until most next first at ≡ at ∷ xs
until-is zero next first at xs h k l = absurd (omega arith)
until-is (suc most) next first at [] h k l =
    let e : eqb (get_or next at 0) first ≡ true = let z : get_or next at 0 ≡ first = h.2 in grind (arith, nat_tests) in
    ap (λ b. at ∷ cond b [] (until most next first (get_or next at 0))) e
until-is (suc most) next first at (y ∷ ys) h k l =
    let z : get_or next at 0 ≡ y = h.2.0 in
    let ne : y ≡ first → ⊥ = λ e. absurd (let P : ℕ → Type 0 = λ n. times n (y ∷ ys) ≡ 0 in omega (arith, subst P (sym e) k, times-here y ys)) in
    let e : eqb (get_or next at 0) first ≡ false = grind (arith, nat_tests) in
    let rest = until-is most next first y ys (refl, h.2.1, h.2.2) (omega arith) (omega arith) in
    ap (λ b. at ∷ cond b [] (until most next first (get_or next at 0))) e ∙ ap (λ n. at ∷ until most next first n) z ∙ ap (λ l. at ∷ l) rest

pub left-is : (next : List ℕ) (first at : ℕ) (xs : List ℕ) → IsLeft next first at xs → until (length next) next first at ≡ at ∷ xs
left-is next first at xs h = until-is (length next) next first at xs h.meets h.never h.few

-- a step of a walk
pub stepped : (next : List ℕ) (first at : ℕ) (xs : List ℕ) → IsLeft next first at xs → (t : Option ℕ) → t ≡ cond (eqb (get_or next at 0) first) None (Some (get_or next at 0)) → IsWalk next first t × (until (length next) next first at ≡ at ∷ left_of next first t)
stepped next first at [] h t e =
    let z : get_or next at 0 ≡ first = h.meets.2 in
    let b : eqb (get_or next at 0) first ≡ true = grind (arith, nat_tests) in
    let done : t ≡ None = e ∙ ap (λ b. cond b None (Some (get_or next at 0))) b in
    let P : Option ℕ → Type 0 = λ o. IsWalk next first o × (until (length next) next first at ≡ at ∷ left_of next first o) in
    subst P (sym done) (tt, left-is next first at [] h)
stepped next first at (y ∷ ys) h t e =
    let z : get_or next at 0 ≡ y = h.meets.2.0 in
    let k = h.never in
    let ne : y ≡ first → ⊥ = λ w. absurd (let P : ℕ → Type 0 = λ n. times n (y ∷ ys) ≡ 0 in omega (arith, subst P (sym w) k, times-here y ys)) in
    let b : eqb (get_or next at 0) first ≡ false = grind (arith, nat_tests) in
    let on : t ≡ Some y = e ∙ ap (λ b. cond b None (Some (get_or next at 0))) b ∙ ap (λ n. Some n) z in
    let P : Option ℕ → Type 0 = λ o. IsWalk next first o × (until (length next) next first at ≡ at ∷ left_of next first o) in
    let more : IsLeft next first y ys = record { meets = (refl, h.meets.2.1, h.meets.2.2); never = omega arith; few = omega (arith, h.few) } in
    subst P (sym on) ((ys, more), left-is next first at (y ∷ ys) h ∙ ap (λ l. at ∷ l) (sym (left-is next first y ys more)))

-- the walk from an index on
pub record Begun (next : List ℕ) (a : ℕ) : Type 0 where
  pub p : List ℕ
  pub rs : List (List ℕ)
  pub are : IsRings next ((a ∷ p) ∷ rs)
  pub left : IsLeft next a a p

pub begun : (next : List ℕ) (a : ℕ) (rs : List (List ℕ)) → IsRings next rs → a < length next → Begun next a
begun next a rs r h =
    let x = pull next rs a r h in
    let are : IsRings next ((a ∷ x.0) ∷ x.1) = x.2 in
    let within : (i : ℕ) → 0 < times i (a ∷ x.0) → i < length next = λ i k. met next a (a ∷ x.0) a i are.rings.0 k in
    let most : (i : ℕ) → times i (a ∷ x.0) ≤ 1 = λ i. elim (cases_eq (times i (a ∷ x.0)) 0) [ inl e ↦ omega arith | inr d ↦ omega (arith, are.once i (within i (omega arith))) ] in
    record {
      p = x.0;
      rs = x.1;
      are = are;
      left = record { meets = are.rings.0; never = omega (arith, most a, times-here a x.0); few = omega (arith, few (length next) (a ∷ x.0) most within) };
    }

pub begun-members : (next : List ℕ) (a : ℕ) (w : Begun next a) (j : ℕ) → (0 < times j (a ∷ w.p)) ↔ IsTogether next a j
begun-members next a w j = (
  λ k. together-both next ((a ∷ w.p) ∷ w.rs) a j w.are.rings (inl (omega (arith, times-here a w.p), k)),
  λ t. elim (both-together next ((a ∷ w.p) ∷ w.rs) a j w.are t) [
    | inl m ↦ m.1
    | inr m ↦ absurd (omega (arith, (both-all w.rs a j m).0, w.are.once a t.0, times-here a w.p))
  ],
)

any-member : (b x : ℕ) (n : ℕ) (r : Bool) → (r ≡ true) ↔ (0 < n) → ((eqb x b || r) ≡ true) ↔ (0 < cond (eqb b x) 1 0 + n)
any-member b x n r h =
    elim (cases_eq x b) [
      | inl e ↦ (λ k. grind (arith, nat_tests), λ k. grind (arith, nat_tests))
      | inr d ↦
          let f : eqb x b ≡ false = grind (arith, nat_tests) in
          let g : eqb b x ≡ false = grind (arith, nat_tests) in
          let P : Bool → Type 0 = λ t. ((t || r) ≡ true) ↔ (0 < cond (eqb b x) 1 0 + n) in
          let Q : Bool → Type 0 = λ t. (r ≡ true) ↔ (0 < cond t 1 0 + n) in
          subst P (sym f) (subst Q (sym g) (λ k. let z = h.0 k in omega arith, λ k. h.1 (omega arith)))
    ]

pub any-times-of : (b : ℕ) (xs : List ℕ) → (list_any (λ x. eqb x b) xs ≡ true) ↔ (0 < times b xs)
any-times-of b [] = (λ e. absurd (let z : false ≡ true = e in cc), λ h. absurd (omega arith))
any-times-of b (x ∷ xs) = any-member b x (times b xs) (list_any (λ y. eqb y b) xs) (any-times-of b xs)
