-- Lists of steps that grow.
use Rattle.std.proofs.Common.{◌≡◌, ◌⊎◌, inl, inr, ℕ, zero, suc, ◌+◌, ◌<◌, List, [], ◌∷◌, ◌++◌, length, get_or, refl, ap, ◌∙◌, arith, append-nil, length-append}
use Rattle.lq_prover_congruence.specs.Classes.Terms.{Term}
use Rattle.lq_prover_congruence.specs.Classes.Steps.{terms_of, term_at, IsTerm, IsMerge, IsDifference, IsSame, merged, itself, turned, onward, applied}
use Rattle.lq_prover_congruence.specs.Classes.Standing.{numbered}
use Rattle.lq_prover_congruence.specs.declared.classes.steps.Step.{Step}
use Rattle.lq_prover_congruence.specs.declared.classes.steps.Step.TheVariants.{Added, Merged, Differed}

pub terms-append : (xs ys : List Step) → terms_of (xs ++ ys) ≡ terms_of xs ++ terms_of ys
terms-append [] ys = refl
terms-append (Added h args ∷ xs) ys = ap (λ l. (h, args) ∷ l) (terms-append xs ys)
terms-append (Merged a b r ∷ xs) ys = terms-append xs ys
terms-append (Differed a b ∷ xs) ys = terms-append xs ys

pub term-before : (ts us : List Term) (i : ℕ) → i < length ts → term_at (ts ++ us) i ≡ term_at ts i
term-before [] us i h = absurd (omega arith)
term-before (t ∷ ts) us zero h = refl
term-before (t ∷ ts) us (suc i) h = term-before ts us i (omega arith)

pub term-more : (xs ys : List Step) (i : ℕ) (t : Term) → IsTerm xs i t → IsTerm (xs ++ ys) i t
term-more xs ys i t h =
    let e = terms-append xs ys in
    (omega (arith, h.0, ap length e, length-append (terms_of xs) (terms_of ys)), ap (λ l. term_at l i) e ∙ term-before (terms_of xs) (terms_of ys) i h.0 ∙ h.1)

pub merge-more : (xs ys : List Step) (a b r : ℕ) → IsMerge xs a b r → IsMerge (xs ++ ys) a b r
merge-more [] ys a b r h = absurd h
merge-more (x ∷ xs) ys a b r h = elim h [ inl e ↦ inl e | inr m ↦ inr (merge-more xs ys a b r m) ]

pub merge-here : (xs : List Step) (s : Step) (a b r : ℕ) → s ≡ Merged a b r → IsMerge (xs ++ s ∷ []) a b r
merge-here [] s a b r e = inl e
merge-here (x ∷ xs) s a b r e = inr (merge-here xs s a b r e)

pub merge-last : (xs : List Step) (s : Step) (a b r : ℕ) → IsMerge (xs ++ s ∷ []) a b r → IsMerge xs a b r ⊎ (s ≡ Merged a b r)
merge-last [] s a b r h = elim h [ inl e ↦ inr e | inr m ↦ inl m ]
merge-last (x ∷ xs) s a b r h =
    elim h [
      | inl e ↦ inl (inl e)
      | inr m ↦ elim (merge-last xs s a b r m) [ inl k ↦ inl (inr k) | inr k ↦ inr k ]
    ]

pub difference-last : (xs : List Step) (s : Step) (a b : ℕ) → IsDifference (xs ++ s ∷ []) a b → IsDifference xs a b ⊎ (s ≡ Differed a b)
difference-last [] s a b h = elim h [ inl e ↦ inr e | inr m ↦ inl m ]
difference-last (x ∷ xs) s a b h =
    elim h [
      | inl e ↦ inl (inl e)
      | inr m ↦ elim (difference-last xs s a b m) [ inl k ↦ inl (inr k) | inr k ↦ inr k ]
    ]

-- what is the same stays so
pub same-more : (xs ys : List Step) (i j : ℕ) → IsSame xs i j → IsSame (xs ++ ys) i j
same-more xs ys i j (merged _ _ r m) = merged i j r (merge-more xs ys i j r m)
same-more xs ys i j (itself _) = itself i
same-more xs ys i j (turned _ _ s) = turned j i (same-more xs ys j i s)
same-more xs ys i j (onward _ k _ s t) = onward i k j (same-more xs ys i k s) (same-more xs ys k j t)
same-more xs ys i j (applied _ _ head args others t u l s) =
    applied i j head args others (term-more xs ys i (head, args) t) (term-more xs ys j (head, others) u) l (λ k z. same-more xs ys (get_or args k 0) (get_or others k 0) (s k z))

-- ---- the terms

pub numbered-last : (n : ℕ) (ts : List Term) (t : Term) → numbered n (ts ++ t ∷ []) ≡ numbered n ts ++ (t, n + length ts) ∷ []
numbered-last n [] t = ap (λ m. (t, m) ∷ []) (let z : n ≡ n + 0 = omega arith in z)
numbered-last n (x ∷ ts) t = ap (λ l. (x, n) ∷ l) (numbered-last (suc n) ts t ∙ ap (λ m. numbered (suc n) ts ++ (t, m) ∷ []) (let z : suc n + length ts ≡ n + suc (length ts) = omega arith in z))

pub terms-noted : (xs : List Step) (s : Step) → terms_of (s ∷ []) ≡ [] → terms_of (xs ++ s ∷ []) ≡ terms_of xs
terms-noted xs s e = terms-append xs (s ∷ []) ∙ ap (λ l. terms_of xs ++ l) e ∙ append-nil (terms_of xs)
