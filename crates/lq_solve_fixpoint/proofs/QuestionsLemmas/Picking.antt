-- Chosen instances, one after another.
use Rattle.std.proofs.Common.{◌≡◌, ◌∙◌, ℕ, zero, suc, ◌+◌, slice_get, slice_index_or, take, arith, Bool, true, false, cond, if◌then◌else◌, List, [], ◌∷◌, ◌++◌, map, Option, Some, None, refl, sym, ap, subst}
use Rattle.std.proofs.lemmas.Option.{unwrap_or-slice_get}
use Rattle.std.specs.Option.{unwrap_or}
use Rattle.lq_refined_types.specs.Parts.Flowing.{picked}
use Rattle.lq_refined_types.specs.Parts.Substitution.{Subst, formula_by}
use Rattle.lq_logic_predicates.specs.Formula.{Formula}

-- the next instance, where it is chosen
abbrev pub if_chosen : Subst → Bool → Formula → List Formula
if_chosen σ b q = if b then formula_by σ q ∷ [] else []

assoc : {X : Type 0} (x y z : List X) → (x ++ y) ++ z ≡ x ++ (y ++ z)
assoc [] y z = refl
assoc (w ∷ x) y z = ap (λ l. w ∷ l) (assoc x y z)

the : {X : Type 0} → X → Option X → X
the a None = a
the a (Some x) = x

some_is : {X : Type 0} (a b : X) → Some a ≡ Some b → a ≡ b
unfolding the
some_is a b h = ap (the a) h

pub picked_next : (f : ℕ → Bool) (σ : Subst) (k at : ℕ) (qs : List Formula) (q : Formula) → slice_get qs at ≡ Some q
    → map (formula_by σ) (picked f k (take (at + 1) qs)) ≡ map (formula_by σ) (picked f k (take at qs)) ++ if_chosen σ (f (k + at)) q
picked_next f σ k at [] q e = absurd (cc)
picked_next f σ k zero (a ∷ qs) q e = subst (λ x. map (formula_by σ) (picked f k (a ∷ [])) ≡ if_chosen σ (f (k + 0)) x) (some_is a q e) (subst (λ j. map (formula_by σ) (picked f k (a ∷ [])) ≡ if_chosen σ (f j) a) here (by (f k)))
  where
    here : k ≡ k + 0
    here = omega arith

    by : (b : Bool) → map (formula_by σ) (cond b (a ∷ []) []) ≡ if_chosen σ b a
    by true = refl
    by false = refl
picked_next f σ k (suc at) (a ∷ qs) q e = subst (λ n. map (formula_by σ) (picked f k (take n (a ∷ qs))) ≡ map (formula_by σ) (picked f k (take (suc at) (a ∷ qs))) ++ if_chosen σ (f (k + suc at)) q) next (subst (λ j. map (formula_by σ) (picked f k (a ∷ take (at + 1) qs)) ≡ map (formula_by σ) (picked f k (a ∷ take at qs)) ++ if_chosen σ (f j) q) along (by (f k) (picked_next f σ (suc k) at qs q e)))
  where
    next : suc (at + 1) ≡ suc at + 1
    next = omega arith

    along : suc k + at ≡ k + suc at
    along = omega arith

    by : (b : Bool) → map (formula_by σ) (picked f (suc k) (take (at + 1) qs)) ≡ map (formula_by σ) (picked f (suc k) (take at qs)) ++ if_chosen σ (f (suc k + at)) q
        → map (formula_by σ) (cond b (a ∷ picked f (suc k) (take (at + 1) qs)) (picked f (suc k) (take (at + 1) qs)))
        ≡ map (formula_by σ) (cond b (a ∷ picked f (suc k) (take at qs)) (picked f (suc k) (take at qs))) ++ if_chosen σ (f (suc k + at)) q
    by true h = ap (λ l. formula_by σ a ∷ l) h
    by false h = h

-- the invariant of the loop: what was added so far
pub added_next : (f : ℕ → Bool) (σ : Subst) (at : ℕ) (qs : List Formula) (q : Formula) (before mid after : List Formula) → Some q ≡ slice_get qs at
    → mid ≡ before ++ map (formula_by σ) (picked f 0 (take at qs)) → after ≡ mid ++ if_chosen σ (f at) q
    → after ≡ before ++ map (formula_by σ) (picked f 0 (take (at + 1) qs))
added_next f σ at qs q before mid after e m a =
    let zero_at : 0 + at ≡ at = omega arith in
    let n : map (formula_by σ) (picked f 0 (take (at + 1) qs)) ≡ map (formula_by σ) (picked f 0 (take at qs)) ++ if_chosen σ (f at) q =
    subst (λ j. map (formula_by σ) (picked f 0 (take (at + 1) qs)) ≡ map (formula_by σ) (picked f 0 (take at qs)) ++ if_chosen σ (f j) q) zero_at (picked_next f σ 0 at qs q (sym e)) in
    a ∙ ap (λ l. l ++ if_chosen σ (f at) q) m ∙ assoc before (map (formula_by σ) (picked f 0 (take at qs))) (if_chosen σ (f at) q) ∙ ap (λ l. before ++ l) (sym n)

-- of an unknown that isn't there nothing is added
pub nothing_added : (all : List (List Formula)) (u : ℕ) (f : ℕ → Bool) (σ : Subst) (l : List Formula) → None ≡ slice_get all u
    → l ≡ l ++ map (formula_by σ) (picked f 0 (slice_index_or all u []))
nothing_added all u f σ l e = subst (λ qs. l ≡ l ++ map (formula_by σ) (picked f 0 qs)) (sym empty) (end l)
  where
    empty : slice_index_or all u [] ≡ []
    empty = sym (unwrap_or-slice_get all u []) ∙ ap (λ o. unwrap_or o []) (sym e)

    end : (k : List Formula) → k ≡ k ++ []
    end [] = refl
    end (x ∷ k) = ap (λ m. x ∷ m) (end k)
