-- What was done, taken back.
use Rattle.std.proofs.Common.{◌≡◌, ◌≢◌, ◌⊎◌, inl, inr, ℕ, zero, suc, ◌+◌, ◌-◌, ◌<◌, ◌≤◌, cond, eqb, List, [], ◌∷◌, ◌++◌, length, take, get_or, set, refl, sym, ap, ap₂, ◌∙◌, subst, arith, length-append, get_or-set_other, get_or-set_same}
use Rattle.std.proofs.lemmas.Bool.{cases_eq}
use Rattle.std.proofs.lemmas.Bool.Decides.{nat_tests}
use Rattle.std.proofs.lemmas.List.{length-map, ext_get_or, length-take, get_or-take, take-append-le, take_all}
use Rattle.lq_prover_congruence.specs.Ring.Ring.{IsTogether, times}
use Rattle.lq_prover_congruence.specs.Classes.Terms.{Term, term_in}
use Rattle.lq_prover_congruence.specs.Classes.Core.{Core, AllBelow, IsShaped}
use Rattle.lq_prover_congruence.specs.Classes.Standing.{HasUses, IsAdded, IsJoined}
use Rattle.lq_prover_congruence.proofs.ClassesLemmas.Labels.{joins, label-relabelled}
use Rattle.lq_prover_congruence.proofs.ClassesLemmas.Joins.{label, among-below}

pub snoc-front : {A : Type 0} (xs ys : List A) (x y : A) → xs ++ x ∷ [] ≡ ys ++ y ∷ [] → xs ≡ ys
snoc-front [] [] x y e = refl
snoc-front [] (b ∷ []) x y e = absurd (let z = ap length e in omega arith)
snoc-front [] (b ∷ c ∷ ys) x y e = absurd (let z = ap length e in omega arith)
snoc-front (a ∷ []) [] x y e = absurd (let z = ap length e in omega arith)
snoc-front (a ∷ c ∷ xs) [] x y e = absurd (let z = ap length e in omega arith)
snoc-front (a ∷ xs) (b ∷ ys) x y e = ap₂ (λ u l. u ∷ l) (heads a b (xs ++ x ∷ []) (ys ++ y ∷ []) e) (snoc-front xs ys x y (tails a b (xs ++ x ∷ []) (ys ++ y ∷ []) e))
  where
    heads : {A : Type 0} (a b : A) (xs ys : List A) → a ∷ xs ≡ b ∷ ys → a ≡ b
    heads a b xs ys e = cc

    tails : {A : Type 0} (a b : A) (xs ys : List A) → a ∷ xs ≡ b ∷ ys → xs ≡ ys
    tails a b xs ys e = cc

pub snoc-last : {A : Type 0} (xs ys : List A) (x y : A) → xs ++ x ∷ [] ≡ ys ++ y ∷ [] → x ≡ y
snoc-last [] [] x y e = cc
snoc-last [] (b ∷ []) x y e = absurd (let z = ap length e in omega arith)
snoc-last [] (b ∷ c ∷ ys) x y e = absurd (let z = ap length e in omega arith)
snoc-last (a ∷ []) [] x y e = absurd (let z = ap length e in omega arith)
snoc-last (a ∷ c ∷ xs) [] x y e = absurd (let z = ap length e in omega arith)
snoc-last (a ∷ xs) (b ∷ ys) x y e = snoc-last xs ys x y (tails a b (xs ++ x ∷ []) (ys ++ y ∷ []) e)
  where
    tails : {A : Type 0} (a b : A) (xs ys : List A) → a ∷ xs ≡ b ∷ ys → xs ≡ ys
    tails a b xs ys e = cc

-- the labels from before a join
pub parted-labels : (before after : Core) (kept moved : ℕ) (new : List ℕ) → IsShaped before → IsJoined kept moved before after → length new ≡ length after.labels
    → ((i : ℕ) → IsTogether before.next moved i → get_or new i 0 ≡ moved) → ((i : ℕ) → (IsTogether before.next moved i → ⊥) → get_or new i 0 ≡ get_or after.labels i 0) → new ≡ before.labels
parted-labels before after kept moved new h j l ring others =
    let even : length after.labels ≡ length before.labels = ap length j.labels ∙ length-map before.labels (λ x. cond (eqb x moved) kept x) in
    ext_get_or 0 new before.labels (l ∙ even) (λ i k.
    elim (label-relabelled before.labels kept moved i (omega arith)) [
      | inl p ↦ ring i ((h.rings moved i).1 (j.moved_in, omega (arith, h.labelled), j.moved_rests ∙ sym p.0)) ∙ sym p.0
      | inr p ↦ others i (λ t. p.0 (sym ((h.rings moved i).0 t).2 ∙ j.moved_rests)) ∙ ap (λ ls. get_or ls i 0) j.labels ∙ p.1
    ])

pub parted-together : (before after : Core) (kept moved : ℕ) → IsShaped before → IsShaped after → IsJoined kept moved before after → IsTogether after.next kept moved
parted-together before after kept moved h k j =
    let x = joins before after kept moved j h in
    let n = ap length j.known in
    let a : label after kept ≡ kept = elim (x.each kept j.kept_in) [ inl p ↦ p.1 | inr p ↦ p.1 ∙ j.kept_rests ] in
    let b : label after moved ≡ kept = elim (x.each moved j.moved_in) [ inl p ↦ p.1 | inr p ↦ absurd (p.0 j.moved_rests) ] in
    (k.rings kept moved).1 (omega (arith, j.kept_in), omega (arith, j.moved_in), a ∙ sym b)

abbrev pub a-core : List (Term × ℕ) → List ℕ → List ℕ → List (Term × ℕ) → Core
a-core k l n f = record { known = k; labels = l; next = n; filed = f }

pub same-core : (ka kb : List (Term × ℕ)) (la lb na nb : List ℕ) (fa fb : List (Term × ℕ)) → ka ≡ kb → la ≡ lb → na ≡ nb → fa ≡ fb → a-core ka la na fa ≡ a-core kb lb nb fb
same-core ka kb la lb na nb fa fb k l n f = ap (λ x. a-core x la na fa) k ∙ ap (λ x. a-core kb x na fa) l ∙ ap (λ x. a-core kb lb x fa) n ∙ ap (λ x. a-core kb lb nb x) f

-- ---- users

pub forgotten : (uses new : List (List ℕ)) (first : List (List ℕ)) (at term : ℕ) (users old : List ℕ) → at < length uses → old ≡ get_or uses at [] → new ≡ set uses at users → (users ≡ old) ⊎ (old ≡ users ++ term ∷ [])
    → ((a i : ℕ) → i ≢ term → 0 < times i (get_or first a []) → 0 < times i (get_or uses a []))
    → (a i : ℕ) → i ≢ term → 0 < times i (get_or first a []) → 0 < times i (get_or new a [])
forgotten uses new first at term users old h e n u k a i d z =
    let was = k a i d z in
    let P : List (List ℕ) → Type 0 = λ l. 0 < times i (get_or l a []) in
    subst P (sym n) (elim (cases_eq a at) [
      | inl q ↦
          (let Q : ℕ → Type 0 = λ x. 0 < times i (get_or (set uses at users) x []) in
          let R : ℕ → Type 0 = λ x. 0 < times i (get_or uses x []) in
          let here : 0 < times i old = (let S : List ℕ → Type 0 = λ l. 0 < times i l in subst S (sym e) (subst R q was)) in
          let left : 0 < times i users = elim u [
            | inl f ↦ (let S : List ℕ → Type 0 = λ l. 0 < times i l in subst S (sym f) here)
            | inr f ↦ omega (arith, ap (times i) f, append i users (term ∷ []), other i term [] d, here)
          ] in
          subst Q (sym q) (rw get_or-set_same left))
      | inr q ↦ (let ne : a ≡ at → ⊥ = q in rw get_or-set_other was)
    ])
  where
    append : (i : ℕ) (xs ys : List ℕ) → times i (xs ++ ys) ≡ times i xs + times i ys
    append i [] ys = omega arith
    append i (x ∷ xs) ys = omega (arith, append i xs ys)

    other : (i x : ℕ) (xs : List ℕ) → (i ≡ x → ⊥) → times i (x ∷ xs) ≡ times i xs
    other i x xs h = grind (arith, nat_tests)

-- ---- the last of a list taken off

pub front-of : {A : Type 0} (items before : List A) (x : A) (n : ℕ) → n ≡ length items → items ≡ before ++ x ∷ [] → take (n - 1) items ≡ before
front-of items before x n h e =
    let long : length items ≡ length before + 1 = omega (arith, ap length e, length-append before (x ∷ [])) in
    let m : n - 1 ≡ length before = omega arith in
    let le : length before ≤ length before = omega arith in
    ap₂ take m e ∙ take-append-le (length before) before (x ∷ []) le ∙ take_all (length before) before le

pub added-args : (t : Term) (b c : Core) → IsAdded t b c → term_in c.known (length b.known) ≡ t
added-args t b c h = ap (λ ks. term_in ks (length b.known)) h.known ∙ last b.known t (length b.known)
  where
    last : (ks : List (Term × ℕ)) (t : Term) (n : ℕ) → term_in (ks ++ (t, n) ∷ []) (length ks) ≡ t
    last [] t n = refl
    last (k ∷ ks) t n = last ks t n

pub term-front : (ks : List (Term × ℕ)) (e : Term × ℕ) (i : ℕ) → i < length ks → term_in (ks ++ e ∷ []) i ≡ term_in ks i
term-front [] e i h = absurd (omega arith)
term-front (k ∷ ks) e zero h = refl
term-front (k ∷ ks) e (suc i) h = term-front ks e i (omega arith)

-- the users without those of the last term, and without it
pub uses-less : (known new : List (Term × ℕ)) (e : Term × ℕ) (uses forgot left : List (List ℕ)) (n : ℕ) → known ≡ new ++ e ∷ [] → HasUses known uses → ((i : ℕ) → i < length known → AllBelow i (term_in known i).1)
    → length forgot ≡ length uses → n ≡ length uses → left ≡ take (n - 1) forgot
    → ((a i : ℕ) → i ≢ length new → 0 < times i (get_or uses a []) → 0 < times i (get_or forgot a [])) → HasUses new left
uses-less known new e uses forgot left n k h below l m f keeps =
    let long : length known ≡ length new + 1 = omega (arith, ap length k, length-append new (e ∷ [])) in
    record {
      each = omega (arith, ap length f, length-take (n - 1) forgot, h.each);
      listed = λ i a j t.
          let same : term_in known i ≡ term_in new i = ap (λ ks. term_in ks i) k ∙ term-front new e i j in
          let P : Term → Type 0 = λ x. 0 < times a x.1 in
          let in_known = subst P (sym same) t in
          let a_less : a < i = among-below i (term_in known i).1 a (below i (omega arith)) in_known in
          let kept = keeps a i (λ z. absurd (omega arith)) (h.listed i a (omega arith) in_known) in
          let Q : List (List ℕ) → Type 0 = λ us. 0 < times i (get_or us a []) in
          subst Q (sym f) (let R : List ℕ → Type 0 = λ us. 0 < times i us in subst R (sym (get_or-take (n - 1) forgot a [] (omega (arith, h.each)))) kept);
    }
