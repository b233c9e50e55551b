-- Environments that grow.
use Rattle.std.proofs.Common.{◌≡◌, ℕ, zero, suc, ◌+◌, ◌<◌, ◌≤◌, length, List, [], ◌∷◌, ◌++◌, slice_get, Some, Bool, true, false, if◌then◌else◌, ◌⊎◌, inl, inr, refl, sym, ap, subst, ◌∙◌, arith}
use Rattle.std.proofs.lemmas.List.{length-append}
use Rattle.lq_refined_substitution.specs.declared.environments.environments.Environment.{Environment}
use Rattle.lq_refined_substitution.specs.Environments.Entries.{at, grown, AreBelow}

pub length-grown : (all : List (List ℕ)) (es : List Environment) → length (grown all es) ≡ length all + length es
length-grown all [] = omega arith
length-grown all (e ∷ es) =
    let new = at all e.parent ++ e.part ∷ [] in
    let h = length-grown (all ++ new ∷ []) es in
    let k = length-append all (new ∷ []) in omega arith

pub grown-push : (all : List (List ℕ)) (es : List Environment) (e : Environment) → grown all (es ++ e ∷ []) ≡ grown all es ++ (at (grown all es) e.parent ++ e.part ∷ []) ∷ []
grown-push all [] e = refl
grown-push all (x ∷ es) e = grown-push (all ++ (at all x.parent ++ x.part ∷ []) ∷ []) es e

at-append : (xs ys : List (List ℕ)) (i : ℕ) → i < length xs → at (xs ++ ys) i ≡ at xs i
at-append [] ys i h = absurd (omega arith)
at-append (x ∷ xs) ys zero h = refl
at-append (x ∷ xs) ys (suc i) h = at-append xs ys i (omega arith)

at-last : (xs : List (List ℕ)) (y : List ℕ) → at (xs ++ y ∷ []) (length xs) ≡ y
at-last [] y = refl
at-last (x ∷ xs) y = at-last xs y

-- what stands before a further entry stays
pub grown-keeps : (all : List (List ℕ)) (es : List Environment) (i : ℕ) → i < length all → at (grown all es) i ≡ at all i
grown-keeps all [] i h = refl
grown-keeps all (e ∷ es) i h =
    let new = at all e.parent ++ e.part ∷ [] in
    let k = length-append all (new ∷ []) in grown-keeps (all ++ new ∷ []) es i (omega arith) ∙ at-append all (new ∷ []) i h

-- an entry's hypotheses are its parent's and its own
pub grown-entry : (es : List Environment) (all : List (List ℕ)) (k : ℕ) (e : Environment) → slice_get es k ≡ Some e → e.parent < length all + k → at (grown all es) (length all + k) ≡ at (grown all es) e.parent ++ e.part ∷ []
grown-entry [] all k e h b = absurd (cc)
grown-entry (x ∷ es) all zero e h b =
    let same : x ≡ e = cc in
    let new = at all x.parent ++ x.part ∷ [] in
    let next = all ++ new ∷ [] in
    let n = length-append all (new ∷ []) in
    let p : x.parent < length all = subst (λ y. y.parent < length all) (sym same) (omega arith) in
    let i : length all + 0 ≡ length all = omega arith in
    let here : at (grown next es) (length all) ≡ new = grown-keeps next es (length all) (omega arith) ∙ at-last all new in
    let there : at (grown next es) x.parent ≡ at all x.parent = grown-keeps next es x.parent (omega arith) ∙ at-append all (new ∷ []) x.parent p in
    subst (λ y. at (grown next es) (length all + 0) ≡ at (grown next es) y.parent ++ y.part ∷ []) same (ap (at (grown next es)) i ∙ here ∙ ap (λ l. l ++ x.part ∷ []) (sym there))
grown-entry (x ∷ es) all (suc k) e h b =
    let new = at all x.parent ++ x.part ∷ [] in
    let next = all ++ new ∷ [] in
    let n : length next ≡ length all + 1 = length-append all (new ∷ []) in
    let i : length all + suc k ≡ length next + k = omega arith in
    ap (at (grown next es)) i ∙ grown-entry es next k e h (omega arith)

one_more : (es : List Environment) (e x : Environment) (k : ℕ) → slice_get (es ++ e ∷ []) k ≡ Some x → (slice_get es k ≡ Some x) ⊎ ((k ≡ length es) × (e ≡ x))
one_more [] e x zero h = inr (refl, cc)
one_more [] e x (suc k) h = absurd (cc)
one_more (y ∷ es) e x zero h = inl h
one_more (y ∷ es) e x (suc k) h = by (one_more es e x k h)
  where
    by : (slice_get es k ≡ Some x) ⊎ ((k ≡ length es) × (e ≡ x)) → (slice_get (y ∷ es) (suc k) ≡ Some x) ⊎ ((suc k ≡ suc (length es)) × (e ≡ x))
    by (inl s) = inl s
    by (inr p) = inr (ap suc p.0, p.1)

-- an entry whose parent is there keeps the invariant
pub below-push : (b : Bool) (es fs : List Environment) (e : Environment) → fs ≡ (if b then es ++ e ∷ [] else es) → AreBelow es → e.parent ≤ length es → AreBelow fs
below-push true es fs e h below p k x s = by (one_more es e x k (ap (λ l. slice_get l k) (sym h) ∙ s))
  where
    by : (slice_get es k ≡ Some x) ⊎ ((k ≡ length es) × (e ≡ x)) → x.parent ≤ k
    by (inl g) = below k x g
    by (inr q) = subst (λ y. y.parent ≤ k) q.1 (subst (λ n. e.parent ≤ n) (sym q.0) p)
below-push false es fs e h below p k x s = below k x (ap (λ l. slice_get l k) (sym h) ∙ s)
