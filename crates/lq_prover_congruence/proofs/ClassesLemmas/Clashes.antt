-- Differences among the entries of the trail.
use Rattle.std.proofs.Common.{◌≡◌, ◌⊎◌, inl, inr, ℕ, zero, suc, ◌+◌, ◌<◌, List, [], ◌∷◌, ◌++◌, length, take, get_or, Option, Some, None, IfNone, refl, sym, ap, ◌∙◌, subst, arith, append-nil}
use Rattle.std.proofs.lemmas.List.{take_more}
use Rattle.lq_prover_congruence.specs.Classes.Steps.{IsDifference}
use Rattle.lq_prover_congruence.specs.Classes.Standing.{step_of, steps_of}
use Rattle.lq_prover_congruence.specs.declared.classes.steps.Pair.{Pair}
use Rattle.lq_prover_congruence.specs.declared.classes.steps.Step.{Step}
use Rattle.lq_prover_congruence.specs.declared.classes.steps.Step.TheVariants.{Added, Merged, Differed}
use Rattle.lq_prover_congruence.specs.declared.classes.steps.Entry.{Entry}
use Rattle.lq_prover_congruence.proofs.ClassesLemmas.Moving.{steps-append}

abbrev pub left-of : Step → ℕ
left-of (Added h xs) = 0
left-of (Merged a b r) = a
left-of (Differed a b) = a

abbrev pub right-of : Step → ℕ
right-of (Added h xs) = 0
right-of (Merged a b r) = b
right-of (Differed a b) = b

abbrev pub kind-of : Step → ℕ
kind-of (Added h xs) = 0
kind-of (Merged a b r) = 1
kind-of (Differed a b) = 2

difference-left : (xs ys : List Step) (a b : ℕ) → IsDifference xs a b → IsDifference (xs ++ ys) a b
difference-left [] ys a b h = absurd h
difference-left (x ∷ xs) ys a b h = elim h [ inl e ↦ inl e | inr k ↦ inr (difference-left xs ys a b k) ]

difference-right : (xs ys : List Step) (a b : ℕ) → IsDifference ys a b → IsDifference (xs ++ ys) a b
difference-right [] ys a b h = h
difference-right (x ∷ xs) ys a b h = inr (difference-right xs ys a b h)

difference-split : (xs ys : List Step) (a b : ℕ) → IsDifference (xs ++ ys) a b → IsDifference xs a b ⊎ IsDifference ys a b
difference-split [] ys a b h = inr h
difference-split (x ∷ xs) ys a b h =
    elim h [
      | inl e ↦ inl (inl e)
      | inr k ↦ elim (difference-split xs ys a b k) [ inl m ↦ inl (inr m) | inr m ↦ inr m ]
    ]

-- what an entry tells
pub told-is : (e : Entry) (l r a b : ℕ) → step_of e ≡ Differed l r ∷ [] → IsDifference (step_of e) a b → (l ≡ a) × (r ≡ b)
told-is e l r a b h d =
    let P : List Step → Type 0 = λ ss. IsDifference ss a b in
    elim (subst P h d) [ inl q ↦ (ap left-of q, ap right-of q) | inr z ↦ absurd z ]

told-here : (e : Entry) (l r : ℕ) → step_of e ≡ Differed l r ∷ [] → IsDifference (step_of e) l r
told-here e l r h = let P : List Step → Type 0 = λ ss. IsDifference ss l r in subst P (sym h) (here l r)
  where
    here : (l r : ℕ) → IsDifference (Differed l r ∷ []) l r
    here l r = inl refl

told-among : (es : List Entry) (i : ℕ) (e : Entry) (a b : ℕ) → i < length es → e ≡ get_or es i e → IsDifference (step_of e) a b → IsDifference (steps_of es) a b
told-among [] i e a b h q d = absurd (omega arith)
told-among (x ∷ es) zero e a b h q d =
    let P : Entry → Type 0 = λ y. IsDifference (step_of y) a b in
    difference-left (step_of x) (steps_of es) a b (subst P q d)
told-among (x ∷ es) (suc i) e a b h q d = difference-right (step_of x) (steps_of es) a b (told-among es i e a b (omega arith) q d)

pub told-in : (es : List Entry) (i : ℕ) (e : Entry) (l r : ℕ) → i < length es → e ≡ get_or es i e → step_of e ≡ Differed l r ∷ [] → IsDifference (steps_of es) l r
told-in es i e l r h q t = told-among es i e l r h q (told-here e l r t)

pub told-before : (es : List Entry) (i : ℕ) (e : Entry) (a b : ℕ) → i < length es → e ≡ get_or es i e → IsDifference (steps_of (take (i + 1) es)) a b → IsDifference (steps_of (take i es)) a b ⊎ IsDifference (step_of e) a b
told-before es i e a b h q d =
    let t : take (i + 1) es ≡ take i es ++ e ∷ [] = take_more es i e h ∙ ap (λ x. take i es ++ x ∷ []) (sym q) in
    let s : steps_of (take (i + 1) es) ≡ steps_of (take i es) ++ step_of e = ap steps_of t ∙ steps-append (take i es) (e ∷ []) ∙ ap (λ l. steps_of (take i es) ++ l) (append-nil (step_of e)) in
    let P : List Step → Type 0 = λ ss. IsDifference ss a b in
    difference-split (steps_of (take i es)) (step_of e) a b (subst P s d)

pub none-map : (r : Option Pair) (P Q : Type 0) → (P → Q) → IfNone r P → IfNone r Q
none-map None P Q f h = f h
none-map (Some x) P Q f h = h
