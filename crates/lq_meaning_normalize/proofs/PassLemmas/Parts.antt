-- What is left of a row, one part on and at its end.
use Rattle.std.proofs.Common.{◌≡◌, ◌⊎◌, ℕ, ◌+◌, ◌<◌, ◌≤◌, List, [], ◌∷◌, drop, length, get_or, slice_get, Some, None, ap, ◌∙◌, inl, inr}
use Rattle.std.proofs.lemmas.List.{drop_more, drop_all}
use Rattle.std.proofs.lemmas.Option.{slice_get_within, slice_get_cases, get_or_from_slice_get}

pub one_less : {X : Type 0} (xs : List X) (at : ℕ) (x : X) → slice_get xs at ≡ Some x → drop at xs ≡ x ∷ drop (at + 1) xs
one_less {X} xs at x is = drop_more xs at x (slice_get_within xs at x is) ∙ ap (λ (y : X). y ∷ drop (at + 1) xs) (get_or_from_slice_get xs at x x is)

past : {X : Type 0} (xs : List X) (at : ℕ) → slice_get xs at ≡ None → length xs ≤ at
past {X = X} xs at is = by_cases (slice_get_cases xs at).1
  where
    by_cases : ((x : X) × (at < length xs) × (slice_get xs at ≡ Some x) × (get_or xs at x ≡ x)) ⊎ ((length xs ≤ at) × (slice_get xs at ≡ None)) → length xs ≤ at
    by_cases (inl some) = absurd (let e = some.2 in cc)
    by_cases (inr none) = none.0

pub none_left : {X : Type 0} (xs : List X) (at : ℕ) → slice_get xs at ≡ None → drop at xs ≡ []
none_left xs at is = drop_all at xs (past xs at is)
