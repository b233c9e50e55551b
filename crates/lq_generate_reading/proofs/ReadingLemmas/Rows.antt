-- Rows of parts.
use Rattle.std.proofs.Common.{◌≡◌, ◌∙◌, ℕ, zero, suc, ◌+◌, ◌<◌, ◌≤◌, List, [], ◌∷◌, ◌++◌, length, map, drop, get_or, refl, sym, ap, subst, append_assoc, arith}
use Rattle.std.proofs.lemmas.List.{map-append}

one_more : (i : ℕ) → suc i ≡ i + 1
one_more i = omega arith

-- what is left begins with the next part
pub dropped_next : {X : Type 0} (xs : List X) (i : ℕ) (x : X) → i < length xs → x ≡ get_or xs i x → drop i xs ≡ x ∷ drop (i + 1) xs
dropped_next {X} xs i x h e =
    subst (λ k. drop i xs ≡ x ∷ drop k xs) (one_more i) (from xs i h ∙ ap (λ y. y ∷ drop (suc i) xs) (sym e))
  where
    from : (ys : List X) (k : ℕ) → k < length ys → drop k ys ≡ get_or ys k x ∷ drop (suc k) ys
    from [] k h = absurd (omega arith)
    from (y ∷ ys) zero h = refl
    from (y ∷ ys) (suc k) h = from ys k (omega arith)

pub dropped_all : {X : Type 0} (xs : List X) (i : ℕ) → length xs ≤ i → drop i xs ≡ []
dropped_all [] zero h = refl
dropped_all [] (suc i) h = refl
dropped_all (x ∷ xs) zero h = absurd (omega arith)
dropped_all (x ∷ xs) (suc i) h = dropped_all xs i (omega arith)

-- one more in a row
pub view_pushed : {X Y : Type 0} (view : X → Y) (old new : List X) (x : X) → new ≡ old ++ x ∷ [] → (ys : List Y)
    → map view new ++ ys ≡ map view old ++ view x ∷ ys
view_pushed view old new x e ys =
    ap (λ l. l ++ ys) (ap (map view) e ∙ map-append view old (x ∷ [])) ∙ append_assoc (map view old) (view x ∷ []) ys

pub nothing_left : {X : Type 0} (xs : List X) → length xs ≡ 0 → xs ≡ []
nothing_left [] h = refl
nothing_left (x ∷ xs) h = absurd (omega arith)
