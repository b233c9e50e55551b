-- Applications that stand for those of their class.
use Rattle.std.proofs.Common.{◌≡◌, ◌≢◌, ◌⊎◌, inl, inr, ℕ, ◌+◌, ◌<◌, ◌≤◌, List, [], ◌∷◌, ◌++◌, length, map, get_or, Some, None, refl, sym, ap, ap₂, ◌∙◌, subst, arith, length-append}
use Rattle.std.proofs.lemmas.Bool.{cases_eq, cases_order}
use Rattle.std.proofs.lemmas.Bool.Decides.{nat_tests}
use Rattle.std.proofs.lemmas.List.{length-map}
use Rattle.lq_prover_congruence.specs.Classes.Terms.{find_in, term_in}
use Rattle.lq_prover_congruence.specs.Classes.Steps.{terms_of}
use Rattle.lq_prover_congruence.specs.Classes.Core.{Core, signature, AllBelow, SameLabels, IsShaped, AllFound}
use Rattle.lq_prover_congruence.specs.Classes.Standing.{IsExact}
use Rattle.lq_prover_congruence.specs.Classes.Implied.{IsImplied, HaveOne, Represents, pair, pair_times}
use Rattle.lq_prover_congruence.specs.declared.classes.steps.Pair.{Pair}
use Rattle.lq_prover_congruence.specs.declared.classes.steps.Step.{Step}
use Rattle.lq_prover_congruence.proofs.ClassesLemmas.Filing.{found-filed}
use Rattle.lq_prover_congruence.proofs.ClassesLemmas.Following.{terms-known}
use Rattle.lq_prover_congruence.proofs.ClassesLemmas.Members.{times-append, partner-implied, implied-partner}

-- ---- what is found has the signature

labels-same : (labels : List ℕ) (n i v : ℕ) (xs ys : List ℕ) → ((x : ℕ) → x < n → get_or labels (get_or labels x 0) 0 ≡ get_or labels x 0) → i < n → AllBelow i xs → SameLabels labels n ys (map (λ a. get_or labels a 0) xs) → map (λ a. get_or labels a 0) ys ≡ map (λ a. get_or labels a 0) xs
labels-same labels n i v [] [] h k b s = refl
labels-same labels n i v [] (y ∷ ys) h k b s = absurd s
labels-same labels n i v (x ∷ xs) [] h k b s = absurd s
labels-same labels n i v (x ∷ xs) (y ∷ ys) h k b s = ap₂ (λ a l. a ∷ l) (s.1 ∙ h x (omega (arith, b.0))) (labels-same labels n i v xs ys h k b.1 s.2)

pub found-signature : (c : Core) (i k : ℕ) → IsShaped c → i < length c.known → find_in c.filed (signature c.labels (term_in c.known i)) ≡ Some k → (k < length c.known) × (signature c.labels (term_in c.known k) ≡ signature c.labels (term_in c.known i))
found-signature c i k h l e =
    let f = found-filed c c.filed (signature c.labels (term_in c.known i)) k h.filed e in
    let labels = labels-same c.labels (length c.known) i k (term_in c.known i).1 (term_in c.known k).1 h.rests l (h.args i l) f.args in
    (f.within, ap₂ (λ x y. (x, y)) f.head labels)

pub not-none : (c : Core) (i : ℕ) → AllFound c 0 0 [] → i < length c.known → find_in c.filed (signature c.labels (term_in c.known i)) ≡ None → ⊥
not-none c i h l e = elim (h i l) [ inl z ↦ absurd (omega arith) | inr f ↦ some-none f.by (sym f.found ∙ e) ]
  where
    some-none : (k : ℕ) → Some k ≡ None → ⊥
    some-none k e = cc

-- ---- the pairs

represented : (steps : List Step) (c : Core) (i k : ℕ) → IsExact steps c → i < length c.known → 0 < length (term_in c.known i).1 → find_in c.filed (signature c.labels (term_in c.known i)) ≡ Some k → k ≢ i → IsImplied steps k i ⊎ IsImplied steps i k
represented steps c i k h l some e d =
    let f = found-signature c i k h.is.shaped l e in
    elim (order k i d) [
      | inl less ↦ inl (partner-implied steps c k i h f.0 l (record { before = less; some = omega (arith, some, args-long c k i f.1); same = f.1 }))
      | inr more ↦ inr (partner-implied steps c i k h l f.0 (record { before = more; some = some; same = sym f.1 }))
    ]
  where
    order : (a b : ℕ) → a ≢ b → (a < b) ⊎ (b < a)
    order a b d = elim (cases_order a b) [ inl e ↦ absurd (d e) | inr o ↦ o ]

    args-long : (c : Core) (a b : ℕ) → signature c.labels (term_in c.known a) ≡ signature c.labels (term_in c.known b) → length (term_in c.known a).1 ≡ length (term_in c.known b).1
    args-long c a b e = sym (length-map (term_in c.known a).1 (λ x. get_or c.labels x 0)) ∙ ap (λ t. length t.1) e ∙ length-map (term_in c.known b).1 (λ x. get_or c.labels x 0)

pub represents-each : (steps : List Step) (c : Core) (pairs : List Pair) → IsExact steps c → Represents c (length c.known) pairs → (k i : ℕ) → 0 < pair_times k i pairs → IsImplied steps k i ⊎ IsImplied steps i k
represents-each steps c pairs h r k i t =
    let e = r.each k i t in
    represented steps c i k h e.0 e.1 e.2 e.3

pub represents-all : (steps : List Step) (c : Core) (pairs : List Pair) → IsExact steps c → Represents c (length c.known) pairs → (i j : ℕ) → IsImplied steps i j → HaveOne pairs i j
represents-all steps c pairs h r i j p =
    let q = implied-partner steps c i j h p in
    let b = found-any c i h.found q.1 in
    let long : 0 < length (term_in c.known j).1 = omega (arith, q.0.some, sym (length-map (term_in c.known i).1 (λ x. get_or c.labels x 0)) ∙ ap (λ t. length t.1) q.0.same ∙ length-map (term_in c.known j).1 (λ x. get_or c.labels x 0)) in
    (b.0, r.all i b.0 q.1 q.0.some b.1, r.all j b.0 q.2 long (ap (find_in c.filed) (sym q.0.same) ∙ b.1))
  where
    found-any : (c : Core) (i : ℕ) → AllFound c 0 0 [] → i < length c.known → (k : ℕ) × (find_in c.filed (signature c.labels (term_in c.known i)) ≡ Some k)
    found-any c i h l = elim (h i l) [ inl z ↦ absurd (omega arith) | inr f ↦ (f.by, f.found) ]

pub represents-few : (steps : List Step) (c : Core) (pairs : List Pair) → IsExact steps c → Represents c (length c.known) pairs → length pairs ≤ length (terms_of steps)
represents-few steps c pairs h r = omega (arith, r.few, terms-known steps c h)

-- ---- term by term

pair-here : (k i : ℕ) (pairs : List Pair) → 0 < pair_times k i (pairs ++ pair k i ∷ [])
pair-here k i pairs = omega (arith, times-append k i pairs (pair k i ∷ []), one k i)
  where
    one : (k i : ℕ) → pair_times k i (pair k i ∷ []) ≡ 1
    one k i = grind (arith, nat_tests)

pair-last : (k i a b : ℕ) (pairs : List Pair) → 0 < pair_times k i (pairs ++ pair a b ∷ []) → (0 < pair_times k i pairs) ⊎ ((k ≡ a) × (i ≡ b))
pair-last k i a b pairs t =
    elim (cases_eq k a) [
      | inl p ↦ elim (cases_eq i b) [
        | inl q ↦ inr (p, q)
        | inr d ↦ inl (omega (arith, t, times-append k i pairs (pair a b ∷ []), other-right k i a b d))
      ]
      | inr d ↦ inl (omega (arith, t, times-append k i pairs (pair a b ∷ []), other-left k i a b d))
    ]
  where
    other-left : (k i a b : ℕ) → (k ≡ a → ⊥) → pair_times k i (pair a b ∷ []) ≡ 0
    other-left k i a b d = grind (arith, nat_tests)

    other-right : (k i a b : ℕ) → (i ≡ b → ⊥) → pair_times k i (pair a b ∷ []) ≡ 0
    other-right k i a b d = grind (arith, nat_tests)

pair-kept : (k i : ℕ) (pairs : List Pair) (p : Pair) → 0 < pair_times k i pairs → 0 < pair_times k i (pairs ++ p ∷ [])
pair-kept k i pairs p t = omega (arith, times-append k i pairs (p ∷ []))

some-is : (x y : ℕ) → Some x ≡ Some y → x ≡ y
some-is x y e = cc

-- one for which another stands
pub represents-more : (c : Core) (n by : ℕ) (pairs more : List Pair) → Represents c n pairs → 0 < length (term_in c.known n).1 → find_in c.filed (signature c.labels (term_in c.known n)) ≡ Some by → by ≢ n → more ≡ pairs ++ pair by n ∷ [] → Represents c (n + 1) more
represents-more c n by pairs more r some e d q =
    let P : List Pair → Type 0 = λ ps. Represents c (n + 1) ps in
    subst P (sym q) (record {
      each = λ k i t. elim (pair-last k i by n pairs t) [
        | inl old ↦ (let z = r.each k i old in (omega (arith, z.0), z.1, z.2, z.3))
        | inr new ↦
            let A : ℕ → Type 0 = λ x. 0 < length (term_in c.known x).1 in
            let E : ℕ → Type 0 = λ x. find_in c.filed (signature c.labels (term_in c.known x)) ≡ Some k in
            (omega (arith, new.1), subst A (sym new.1) some, subst E (sym new.1) (e ∙ ap Some (sym new.0)), λ z. d (sym new.0 ∙ z ∙ new.1))
      ];
      all = λ i k l s f. elim (cases_eq i n) [
        | inl p ↦
            let E : ℕ → Type 0 = λ x. find_in c.filed (signature c.labels (term_in c.known x)) ≡ Some k in
            let one : by ≡ k = some-is by k (sym e ∙ subst E p f) in
            let T : ℕ → Type 0 = λ x. 0 < pair_times k x (pairs ++ pair by n ∷ []) in
            let B : ℕ → Type 0 = λ x. 0 < pair_times x n (pairs ++ pair by n ∷ []) in
            inr (subst T (sym p) (subst B one (pair-here by n pairs)))
        | inr o ↦ elim (r.all i k (omega (arith, l)) s f) [ inl z ↦ inl z | inr z ↦ inr (pair-kept k i pairs (pair by n) z) ]
      ];
      few = omega (arith, r.few, length-append pairs (pair by n ∷ []));
    })
