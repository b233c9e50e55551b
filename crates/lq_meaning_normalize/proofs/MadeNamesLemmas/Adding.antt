-- Names are added one part behind another.
use Rattle.std.proofs.Common.{◌≡◌, ◌∙◌, ℕ, zero, suc, ◌+◌, ◌<◌, ◌≤◌, List, [], ◌∷◌, ◌++◌, length, drop, get_or, refl, sym, ap, subst, append_assoc, arith}
use Rattle.std.proofs.lemmas.List.{append-nil, map-append}
use Rattle.lq_base_names.specs.declared.name.Binder.{Binder}
use Rattle.lq_meaning_normalize.specs.MadeNames.Numbers.{binders_view}

one_more : (i : ℕ) → suc i ≡ i + 1
one_more i = omega arith

dropped_next : {X : Type 0} (xs : List X) (i : ℕ) (x : X) → i < length xs → x ≡ get_or xs i x → drop i xs ≡ x ∷ drop (i + 1) xs
dropped_next {X} xs i x h e =
    subst (λ k. drop i xs ≡ x ∷ drop k xs) (one_more i) (from xs i h ∙ ap (λ y. y ∷ drop (suc i) xs) (sym e))
  where
    from : (ys : List X) (k : ℕ) → k < length ys → drop k ys ≡ get_or ys k x ∷ drop (suc k) ys
    from [] k h = absurd (omega arith)
    from (y ∷ ys) zero h = refl
    from (y ∷ ys) (suc k) h = from ys k (omega arith)

dropped_all : {X : Type 0} (xs : List X) (i : ℕ) → length xs ≤ i → drop i xs ≡ []
dropped_all [] zero h = refl
dropped_all [] (suc i) h = refl
dropped_all (x ∷ xs) zero h = absurd (omega arith)
dropped_all (x ∷ xs) (suc i) h = dropped_all xs i (omega arith)

-- one name more
pub name_added : (old new : List Binder) (x : Binder) → new ≡ old ++ x ∷ [] → binders_view new ≡ binders_view old ++ x.0 ∷ []
name_added old new x e = ap binders_view e ∙ map-append (λ b. b.0) old (x ∷ [])

-- names, and others behind them
pub then : (old mid new xs ys : List ℕ) → mid ≡ old ++ xs → new ≡ mid ++ ys → new ≡ old ++ (xs ++ ys)
then old mid new xs ys first second = second ∙ (ap (λ l. l ++ ys) first ∙ append_assoc old xs ys)

-- a row of parts, whose names are those of each behind those of the one before
module _ {X : Type 0} (all : List X → List ℕ) (one : X → List ℕ) (none : all [] ≡ []) (more : (x : X) (xs : List X) → all (x ∷ xs) ≡ one x ++ all xs) where
  -- the names so far and those that are left are these
  pub row_next : (xs : List X) (i : ℕ) (x : X) (whole old new : List ℕ) → i < length xs → x ≡ get_or xs i x → old ++ all (drop i xs) ≡ whole
      → new ≡ old ++ one x → new ++ all (drop (i + 1) xs) ≡ whole
  row_next xs i x whole old new h e before is =
      ap (λ l. l ++ all (drop (i + 1) xs)) is
      ∙ (append_assoc old (one x) (all (drop (i + 1) xs)) ∙ (ap (λ l. old ++ l) (sym (ap all (dropped_next xs i x h e) ∙ more x (drop (i + 1) xs))) ∙ before))

  pub row_done : (xs : List X) (i : ℕ) (whole old : List ℕ) → length xs ≤ i → old ++ all (drop i xs) ≡ whole → old ≡ whole
  row_done xs i whole old h before = sym (append-nil old) ∙ (ap (λ l. old ++ l) (sym (ap all (dropped_all xs i h) ∙ none)) ∙ before)
