-- Names, and merges of names among the entries of the trail.
use Rattle.std.proofs.Common.{◌≡◌, ◌⊎◌, inl, inr, ℕ, zero, suc, ◌+◌, ◌<◌, List, [], ◌∷◌, ◌++◌, length, take, get_or, refl, sym, ap, ◌∙◌, subst, arith, append-nil}
use Rattle.std.proofs.lemmas.List.{take_more}
use Rattle.lq_prover_congruence.specs.Classes.Terms.{Term, term_in}
use Rattle.lq_prover_congruence.specs.Classes.Steps.{terms_of, term_at, IsMerge}
use Rattle.lq_prover_congruence.specs.Classes.Chains.{AllNamed, IsName, IsNameIn}
use Rattle.lq_prover_congruence.specs.Classes.Core.{Core}
use Rattle.lq_prover_congruence.specs.Classes.Standing.{step_of, steps_of, IsExact}
use Rattle.lq_prover_congruence.specs.declared.classes.steps.Entry.{Entry}
use Rattle.lq_prover_congruence.specs.declared.classes.steps.Step.{Step}
use Rattle.lq_prover_congruence.specs.declared.classes.steps.Step.TheVariants.{Merged}
use Rattle.lq_prover_congruence.proofs.ClassesLemmas.Clashes.{left-of, right-of}
use Rattle.lq_prover_congruence.proofs.ClassesLemmas.Kept.{exact-in}
use Rattle.lq_prover_congruence.proofs.ClassesLemmas.Labels.{term-numbered}
use Rattle.lq_prover_congruence.proofs.ClassesLemmas.Longer.{merge-more}
use Rattle.lq_prover_congruence.proofs.ClassesLemmas.Moving.{steps-append}

-- ---- names

known-at : (steps : List Step) (c : Core) (i : ℕ) → IsExact steps c → term_in c.known i ≡ term_at (terms_of steps) i
known-at steps c i h = ap (λ ks. term_in ks i) h.is.terms ∙ term-numbered 0 (terms_of steps) i

pub name-known : (steps : List Step) (c : Core) (i : ℕ) → IsExact steps c → i < length (terms_of steps) → IsNameIn c.known i → IsName steps i
name-known steps c i h l n = (n.0, n.1, (l, sym (known-at steps c i h) ∙ n.2))

pub known-name : (steps : List Step) (c : Core) (i : ℕ) → IsExact steps c → IsName steps i → IsNameIn c.known i
known-name steps c i h n = (n.0, n.1, known-at steps c i h ∙ n.2.1)

-- ---- merges among entries

merge-right : (xs ys : List Step) (a b r : ℕ) → IsMerge ys a b r → IsMerge (xs ++ ys) a b r
merge-right [] ys a b r h = h
merge-right (x ∷ xs) ys a b r h = inr (merge-right xs ys a b r h)

merge-split : (xs ys : List Step) (a b r : ℕ) → IsMerge (xs ++ ys) a b r → IsMerge xs a b r ⊎ IsMerge ys a b r
merge-split [] ys a b r h = inr h
merge-split (x ∷ xs) ys a b r h =
    elim h [
      | inl e ↦ inl (inl e)
      | inr k ↦ elim (merge-split xs ys a b r k) [ inl m ↦ inl (inr m) | inr m ↦ inr m ]
    ]

-- what an entry merges
pub merged-is : (e : Entry) (l r z a b q : ℕ) → step_of e ≡ Merged l r z ∷ [] → IsMerge (step_of e) a b q → (l ≡ a) × (r ≡ b)
merged-is e l r z a b q h d =
    let P : List Step → Type 0 = λ ss. IsMerge ss a b q in
    elim (subst P h d) [ inl p ↦ (ap left-of p, ap right-of p) | inr k ↦ absurd k ]

merge-among : (es : List Entry) (i : ℕ) (e : Entry) (a b r : ℕ) → i < length es → e ≡ get_or es i e → IsMerge (step_of e) a b r → IsMerge (steps_of es) a b r
merge-among [] i e a b r h q d = absurd (omega arith)
merge-among (x ∷ es) zero e a b r h q d =
    let P : Entry → Type 0 = λ y. IsMerge (step_of y) a b r in
    merge-more (step_of x) (steps_of es) a b r (subst P q d)
merge-among (x ∷ es) (suc i) e a b r h q d = merge-right (step_of x) (steps_of es) a b r (merge-among es i e a b r (omega arith) q d)

pub merged-in : (es : List Entry) (i : ℕ) (e : Entry) (l r z : ℕ) → i < length es → e ≡ get_or es i e → step_of e ≡ Merged l r z ∷ [] → IsMerge (steps_of es) l r z
merged-in es i e l r z h q t =
    let P : List Step → Type 0 = λ ss. IsMerge ss l r z in
    merge-among es i e l r z h q (subst P (sym t) (here l r z))
  where
    here : (l r z : ℕ) → IsMerge (Merged l r z ∷ []) l r z
    here l r z = inl refl

pub merged-before : (es : List Entry) (i : ℕ) (e : Entry) (a b r : ℕ) → i < length es → e ≡ get_or es i e → IsMerge (steps_of (take (i + 1) es)) a b r → IsMerge (steps_of (take i es)) a b r ⊎ IsMerge (step_of e) a b r
merged-before es i e a b r h q d =
    let t : take (i + 1) es ≡ take i es ++ e ∷ [] = take_more es i e h ∙ ap (λ x. take i es ++ x ∷ []) (sym q) in
    let s : steps_of (take (i + 1) es) ≡ steps_of (take i es) ++ step_of e = ap steps_of t ∙ steps-append (take i es) (e ∷ []) ∙ ap (λ l. steps_of (take i es) ++ l) (append-nil (step_of e)) in
    let P : List Step → Type 0 = λ ss. IsMerge ss a b r in
    merge-split (steps_of (take i es)) (step_of e) a b r (subst P s d)

-- the names of the merges so far
abbrev pub NamesIn : List (Term × ℕ) → List Step → Type 0
NamesIn known steps = (a b r : ℕ) → IsMerge steps a b r → IsNameIn known a × IsNameIn known b

pub names-over : (known : List (Term × ℕ)) (es : List Entry) (i : ℕ) (e : Entry) → i < length es → e ≡ get_or es i e → ((a b r : ℕ) → IsMerge (step_of e) a b r → ⊥) → NamesIn known (steps_of (take i es)) → NamesIn known (steps_of (take (i + 1) es))
names-over known es i e h q none n = λ a b r m. elim (merged-before es i e a b r h q m) [ inl k ↦ n a b r k | inr k ↦ absurd (none a b r k) ]

pub names-more : (known : List (Term × ℕ)) (es : List Entry) (i : ℕ) (e : Entry) (l r : ℕ) → i < length es → e ≡ get_or es i e → (z : ℕ) × (step_of e ≡ Merged l r z ∷ []) → IsNameIn known l → IsNameIn known r → NamesIn known (steps_of (take i es)) → NamesIn known (steps_of (take (i + 1) es))
names-more known es i e l r h q s left right n = λ a b w m. elim (merged-before es i e a b w h q m) [
  | inl k ↦ n a b w k
  | inr k ↦
      let p = merged-is e l r s.0 a b w s.1 k in
      let P : ℕ → Type 0 = λ x. IsNameIn known x in
      let one = subst P p.0 left in
      let other = subst P p.1 right in
      (one, other)
]

pub all-named : (steps : List Step) (c : Core) → IsExact steps c → NamesIn c.known steps → AllNamed steps
all-named steps c h n = λ a b r m.
    let l = exact-in steps c h a b r m in
    let k = n a b r m in
    (name-known steps c a h l.0 k.0, name-known steps c b h l.1 k.1)

pub named-all : (steps : List Step) (c : Core) → IsExact steps c → AllNamed steps → NamesIn c.known steps
named-all steps c h n = λ a b r m. (let k = n a b r m in (known-name steps c a h k.0, known-name steps c b h k.1))
