-- Parts in a row, one more at a time.
use Rattle.std.proofs.Common.{◌≡◌, ◌⊎◌, ℕ, ◌+◌, ◌<◌, ◌≤◌, List, [], ◌∷◌, ◌++◌, map, take, length, slice_get, get_or, Some, None, refl, sym, ap, ◌∙◌, arith, inl, inr}
use Rattle.std.proofs.lemmas.List.{take_more, take_all, map-append, append_assoc}
use Rattle.std.proofs.lemmas.Option.{slice_get_within, slice_get_cases, get_or_from_slice_get}
use Rattle.lq_text_tree.specs.Tree.{Tree}
use Rattle.lq_text_tree.specs.TreeView.{Case}
use Rattle.lq_text_walk.specs.Walk.Parts.{row_parts, arm_parts, arms_parts}
use Rattle.lq_text_walk.specs.Walk.Visits.{Visit, enter}

pub one_more : {X : Type 0} (h : List X → List Visit) (one : X → List Visit) → ((xs : List X) (x : X) → h (xs ++ x ∷ []) ≡ h xs ++ one x)
    → (xs : List X) (at : ℕ) (x : X) (base old new : List Visit) → slice_get xs at ≡ Some x → old ≡ base ++ h (take at xs) → new ≡ old ++ one x → new ≡ base ++ h (take (at + 1) xs)
one_more {X} h one joins xs at x base old new is before pushed =
    let within = slice_get_within xs at x is in
    let more = take_more xs at x within in
    let this = get_or_from_slice_get xs at x x is in
    let longer : take (at + 1) xs ≡ take at xs ++ x ∷ [] = more ∙ ap (λ (y : X). take at xs ++ y ∷ []) this in
    pushed ∙ ap (λ (l : List Visit). l ++ one x) before ∙ append_assoc base (h (take at xs)) (one x) ∙ ap (λ (l : List Visit). base ++ l) (sym (joins (take at xs) x))
    ∙ ap (λ (l : List X). base ++ h l) (sym longer)

pub past : {X : Type 0} (xs : List X) (at : ℕ) → slice_get xs at ≡ None → length xs ≤ at
past {X = X} xs at is = by_cases (slice_get_cases xs at).1
  where
    by_cases : ((x : X) × (at < length xs) × (slice_get xs at ≡ Some x) × (get_or xs at x ≡ x)) ⊎ ((length xs ≤ at) × (slice_get xs at ≡ None)) → length xs ≤ at
    by_cases (inl some) = absurd (let e = some.2 in cc)
    by_cases (inr none) = none.0

pub no_more : {X : Type 0} (h : List X → List Visit) (xs : List X) (at : ℕ) (base old : List Visit) → slice_get xs at ≡ None → old ≡ base ++ h (take at xs) → old ≡ base ++ h (take (at + 1) xs)
no_more {X} h xs at base old none before =
    let far = past xs at none in
    before ∙ ap (λ (l : List X). base ++ h l) (take_all at xs far ∙ sym (take_all (at + 1) xs (omega (arith, far))))

pub all_taken : {X : Type 0} (h : List X → List Visit) (xs : List X) (at : ℕ) (base old : List Visit) → length xs ≤ at → old ≡ base ++ h (take at xs) → old ≡ base ++ h xs
all_taken {X} h xs at base old far before = before ∙ ap (λ (l : List X). base ++ h l) (take_all at xs far)

pub row_joins : {X : Type 0} (f : X → Tree) (xs : List X) (x : X) → row_parts (map f (xs ++ x ∷ [])) ≡ row_parts (map f xs) ++ enter (f x) ∷ []
row_joins f xs x = ap row_parts (map-append f xs (x ∷ [])) ∙ map-append enter (map f xs) (f x ∷ [])

arms_append : (as_ bs : List Case) → arms_parts (as_ ++ bs) ≡ arms_parts as_ ++ arms_parts bs
arms_append [] bs = refl
arms_append (a ∷ as_) bs = ap (λ (l : List Visit). arm_parts a ++ l) (arms_append as_ bs) ∙ sym (append_assoc (arm_parts a) (arms_parts as_) (arms_parts bs))

pub arms_joins : {X : Type 0} (f : X → Case) (xs : List X) (x : X) → arms_parts (map f (xs ++ x ∷ [])) ≡ arms_parts (map f xs) ++ arm_parts (f x)
arms_joins f xs x = ap arms_parts (map-append f xs (x ∷ [])) ∙ arms_append (map f xs) (f x ∷ [])
