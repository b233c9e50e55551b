-- Labels, and what becomes of them where two classes are joined.
use Rattle.std.proofs.Common.{◌≡◌, ◌⊎◌, ◌↔◌, inl, inr, ℕ, zero, suc, ◌<◌, ◌≤◌, true, false, cond, eqb, List, [], ◌∷◌, length, map, get_or, Some, refl, sym, ap, ap₂, ◌∙◌, subst, arith, eq-eqb, eqb-true}
use Rattle.std.proofs.lemmas.Bool.{cases_eq}
use Rattle.std.proofs.lemmas.Bool.Decides.{nat_tests}
use Rattle.std.proofs.lemmas.Grind.{get_or_default_zero}
use Rattle.lq_prover_congruence.specs.Ring.Ring.{times}
use Rattle.lq_prover_congruence.specs.Classes.Terms.{Term, find_in, term_in}
use Rattle.lq_prover_congruence.specs.Classes.Steps.{terms_of, term_at, IsSame, merged, itself, turned, onward, applied}
use Rattle.lq_prover_congruence.specs.Classes.Core.{Core, signature, relabelled, AllBelow, SameLabels, IsShaped, IsFound, AllFound}
use Rattle.lq_prover_congruence.specs.Classes.Standing.{numbered, IsJoined, IsExact}
use Rattle.lq_prover_congruence.specs.declared.classes.steps.Step.{Step}

-- ---- terms by number

pub term-numbered : (n : ℕ) (ts : List Term) (i : ℕ) → term_in (numbered n ts) i ≡ term_at ts i
term-numbered n [] i = refl
term-numbered n (t ∷ ts) zero = refl
term-numbered n (t ∷ ts) (suc i) = term-numbered (suc n) ts i

pub length-numbered : (n : ℕ) (ts : List Term) → length (numbered n ts) ≡ length ts
length-numbered n [] = refl
length-numbered n (t ∷ ts) = ap suc (length-numbered (suc n) ts)

-- ---- the classes hold what is the same

pub map-same : (labels : List ℕ) (xs ys : List ℕ) → length xs ≡ length ys → ((k : ℕ) → k < length xs → get_or labels (get_or xs k 0) 0 ≡ get_or labels (get_or ys k 0) 0) → map (λ a. get_or labels a 0) xs ≡ map (λ a. get_or labels a 0) ys
map-same labels [] [] l h = refl
map-same labels [] (y ∷ ys) l h = absurd (omega arith)
map-same labels (x ∷ xs) [] l h = absurd (omega arith)
map-same labels (x ∷ xs) (y ∷ ys) l h = ap₂ (λ a l. a ∷ l) (h 0 (omega arith)) (map-same labels xs ys (omega arith) (λ k z. h (suc k) (omega arith)))

some-once : {A : Type 0} (x y : A) → Some x ≡ Some y → x ≡ y
some-once x y e = cc

closed : (c : Core) (i j : ℕ) → AllFound c 0 0 [] → i < length c.known → j < length c.known → signature c.labels (term_in c.known i) ≡ signature c.labels (term_in c.known j) → get_or c.labels i 0 ≡ get_or c.labels j 0
closed c i j h k l e = by (h i k) (h j l)
  where
    equal : (f : (x : ℕ) × ((get_or c.labels x 0 ≡ get_or c.labels i 0) ⊎ ((get_or c.labels i 0 ≡ 0) × (get_or c.labels x 0 ≡ 0)))) → get_or c.labels f.0 0 ≡ get_or c.labels i 0
    equal f = elim f.1 [ inl e ↦ e | inr p ↦ p.1 ∙ sym p.0 ]

    by : (0 < times i []) ⊎ IsFound c 0 0 i → (0 < times j []) ⊎ IsFound c 0 0 j → get_or c.labels i 0 ≡ get_or c.labels j 0
    by (inl p) q = absurd (omega arith)
    by (inr p) (inl q) = absurd (omega arith)
    by (inr p) (inr q) =
        let one : p.by ≡ q.by = some-once p.by q.by (sym p.found ∙ ap (find_in c.filed) e ∙ q.found) in
        let a : get_or c.labels p.by 0 ≡ get_or c.labels i 0 = elim p.label [ inl z ↦ z | inr z ↦ z.1 ∙ sym z.0 ] in
        let b : get_or c.labels q.by 0 ≡ get_or c.labels j 0 = elim q.label [ inl z ↦ z | inr z ↦ z.1 ∙ sym z.0 ] in
        sym a ∙ ap (λ x. get_or c.labels x 0) one ∙ b

pub same-labels : (steps : List Step) (c : Core) → IsExact steps c → (i j : ℕ) → IsSame steps i j → get_or c.labels i 0 ≡ get_or c.labels j 0
same-labels steps c h i j (merged _ _ r m) = (h.merges i j r m).2
same-labels steps c h i j (itself _) = refl
same-labels steps c h i j (turned _ _ s) = sym (same-labels steps c h j i s)
same-labels steps c h i j (onward _ k _ s t) = same-labels steps c h i k s ∙ same-labels steps c h k j t
same-labels steps c h i j (applied _ _ head xs ys t u l s) =
    let ts = terms_of steps in
    let long : length c.known ≡ length ts = ap length h.is.terms ∙ length-numbered 0 ts in
    let at_i : term_in c.known i ≡ (head, xs) = ap (λ l. term_in l i) h.is.terms ∙ term-numbered 0 ts i ∙ t.1 in
    let at_j : term_in c.known j ≡ (head, ys) = ap (λ l. term_in l j) h.is.terms ∙ term-numbered 0 ts j ∙ u.1 in
    let maps = map-same c.labels xs ys l (λ k z. same-labels steps c h (get_or xs k 0) (get_or ys k 0) (s k z)) in
    closed c i j h.found (let z : i < length ts = t.0 in omega arith) (let z : j < length ts = u.0 in omega arith)
    (ap (signature c.labels) at_i ∙ ap (λ m. (head, m)) maps ∙ sym (ap (signature c.labels) at_j))

-- ---- a class with another label

pub label-relabelled : (labels : List ℕ) (kept moved i : ℕ) → i < length labels → ((get_or labels i 0 ≡ moved) × (get_or (relabelled labels kept moved) i 0 ≡ kept)) ⊎ ((get_or labels i 0 ≡ moved → ⊥) × (get_or (relabelled labels kept moved) i 0 ≡ get_or labels i 0))
label-relabelled [] kept moved i h = absurd (omega arith)
label-relabelled (l ∷ ls) kept moved zero h =
    elim (cases_eq l moved) [
      | inl e ↦ inl (e, let b : eqb l moved ≡ true = grind (arith, nat_tests) in ap (λ t. cond t kept l) b)
      | inr d ↦ inr (d, let b : eqb l moved ≡ false = grind (arith, nat_tests) in ap (λ t. cond t kept l) b)
    ]
label-relabelled (l ∷ ls) kept moved (suc i) h = label-relabelled ls kept moved i (omega arith)

-- what an old and a new list of labels have to do with one another
pub record Joins (b c : Core) (kept moved : ℕ) : Type 0 where
  pub is : IsJoined kept moved b c
  pub shaped : IsShaped b
  pub each : (i : ℕ) → i < length b.known → ((get_or b.labels i 0 ≡ moved) × (get_or c.labels i 0 ≡ kept)) ⊎ ((get_or b.labels i 0 ≡ moved → ⊥) × (get_or c.labels i 0 ≡ get_or b.labels i 0))

pub joins : (b c : Core) (kept moved : ℕ) → IsJoined kept moved b c → IsShaped b → Joins b c kept moved
joins b c kept moved h s = record {
  is = h;
  shaped = s;
  each = λ i k.
      let P : List ℕ → Type 0 = λ l. ((get_or b.labels i 0 ≡ moved) × (get_or l i 0 ≡ kept)) ⊎ ((get_or b.labels i 0 ≡ moved → ⊥) × (get_or l i 0 ≡ get_or b.labels i 0)) in
      subst P (sym h.labels) (label-relabelled b.labels kept moved i (let e = s.labelled in omega arith));
}

-- what had one label has one
pub coarser : (b c : Core) (kept moved : ℕ) → Joins b c kept moved → (i j : ℕ) → i < length b.known → j < length b.known → get_or b.labels i 0 ≡ get_or b.labels j 0 → get_or c.labels i 0 ≡ get_or c.labels j 0
coarser b c kept moved h i j k l e =
    elim (h.each i k) [
      | inl p ↦ elim (h.each j l) [ inl q ↦ p.1 ∙ sym q.1 | inr q ↦ absurd (q.0 (sym e ∙ p.0)) ]
      | inr p ↦ elim (h.each j l) [ inl q ↦ absurd (p.0 (e ∙ q.0)) | inr q ↦ p.1 ∙ e ∙ sym q.1 ]
    ]

pub below-more : (n m : ℕ) (xs : List ℕ) → n ≤ m → AllBelow n xs → AllBelow m xs
below-more n m [] h k = tt
below-more n m (x ∷ xs) h k = (omega (arith, k.0), below-more n m xs h k.1)

pub labels-kept : (old new : List ℕ) (n m : ℕ) (xs ls : List ℕ) → n ≤ m → ((x y : ℕ) → x < n → y < n → get_or old x 0 ≡ get_or old y 0 → get_or new x 0 ≡ get_or new y 0) → AllBelow n xs → SameLabels old n xs ls → SameLabels new m xs ls
labels-kept old new n m [] [] z h k s = tt
labels-kept old new n m [] (l ∷ ls) z h k s = absurd s
labels-kept old new n m (x ∷ xs) [] z h k s = absurd s
labels-kept old new n m (x ∷ xs) (l ∷ ls) z h k s = (omega (arith, s.0), h x l k.0 s.0 s.1, labels-kept old new n m xs ls z h k.1 s.2)

-- ---- as many labels as terms
pub terms-labels : (steps : List Step) (c : Core) → IsExact steps c → length (terms_of steps) ≡ length c.labels
terms-labels steps c h = omega (arith, ap length h.is.terms, length-numbered 0 (terms_of steps), h.is.shaped.labelled)

pub labels-decide : (steps : List Step) (c : Core) → IsExact steps c → (i j x y : ℕ) → i < length (terms_of steps) → j < length (terms_of steps) → x ≡ get_or c.labels i x → y ≡ get_or c.labels j y → (eqb x y ≡ true) ↔ IsSame steps i j
labels-decide steps c h i j x y k l e f =
    let long = terms-labels steps c h in
    let a : x ≡ get_or c.labels i 0 = e ∙ get_or_default_zero c.labels i x (omega arith) in
    let b : y ≡ get_or c.labels j 0 = f ∙ get_or_default_zero c.labels j y (omega arith) in (
      λ t. h.is.sound i j (omega (arith, h.is.shaped.labelled)) (omega (arith, h.is.shaped.labelled)) (sym a ∙ eqb-true x y t ∙ b),
      λ s. eq-eqb x y (a ∙ same-labels steps c h i j s ∙ sym b),
    )

pub labels-tell : (steps : List Step) (c : Core) (labels : List ℕ) → IsExact steps c → labels ≡ c.labels → (i j : ℕ) → i < length (terms_of steps) → j < length (terms_of steps)
    → (get_or labels i 0 ≡ get_or labels j 0) ↔ IsSame steps i j
labels-tell steps c labels h e i j k l =
    let long = terms-labels steps c h in
    let at_i : get_or labels i 0 ≡ get_or c.labels i 0 = ap (λ ls. get_or ls i 0) e in
    let at_j : get_or labels j 0 ≡ get_or c.labels j 0 = ap (λ ls. get_or ls j 0) e in (
      λ t. h.is.sound i j (omega (arith, h.is.shaped.labelled)) (omega (arith, h.is.shaped.labelled)) (sym at_i ∙ t ∙ at_j),
      λ s. at_i ∙ same-labels steps c h i j s ∙ sym at_j,
    )
