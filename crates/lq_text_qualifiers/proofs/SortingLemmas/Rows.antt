-- Lists from one of their places on.
use Rattle.std.proofs.Common.{◌≡◌, ◌⊎◌, ℕ, zero, suc, ◌+◌, ◌<◌, ◌≤◌, List, [], ◌∷◌, ◌++◌, map, take, drop, length, slice_get, get_or, Some, None, refl, sym, ap, ◌∙◌, arith, inl, inr}
use Rattle.std.proofs.lemmas.List.{map-append, take_more}
use Rattle.std.proofs.lemmas.Option.{slice_get_cases}

pub drop_by : {X : Type 0} (xs : List X) (at : ℕ) (x : X) → at < length xs → x ≡ get_or xs at x → drop at xs ≡ x ∷ drop (at + 1) xs
drop_by {X} xs at x less is = let next : at + 1 ≡ suc at = omega arith in from_here xs at less is ∙ ap (λ (n : ℕ). x ∷ drop n xs) (sym next)
  where
    from_here : (ys : List X) (at : ℕ) → at < length ys → x ≡ get_or ys at x → drop at ys ≡ x ∷ drop (suc at) ys
    from_here [] at less is = absurd (omega (arith, less))
    from_here (y ∷ ys) zero less is = ap (λ (z : X). z ∷ ys) (sym is)
    from_here (y ∷ ys) (suc at) less is = from_here ys at (omega (arith, less)) is

pub drop_at : {X : Type 0} (xs : List X) (i : ℕ) (x : X) → slice_get xs i ≡ Some x → drop i xs ≡ x ∷ drop (i + 1) xs
drop_at {X} xs i x is = let next : i + 1 ≡ suc i = omega arith in from_here xs i is ∙ ap (λ (n : ℕ). x ∷ drop n xs) (sym next)
  where
    from_here : (ys : List X) (i : ℕ) → slice_get ys i ≡ Some x → drop i ys ≡ x ∷ drop (suc i) ys
    from_here [] i is = absurd (let e = is in cc)
    from_here (y ∷ ys) zero is = let same : y ≡ x = cc in ap (λ z. z ∷ ys) same
    from_here (y ∷ ys) (suc i) is = from_here ys i is

pub past : {X : Type 0} (xs : List X) (at : ℕ) → slice_get xs at ≡ None → length xs ≤ at
past {X = X} xs at is = by_cases (slice_get_cases xs at).1
  where
    by_cases : ((x : X) × (at < length xs) × (slice_get xs at ≡ Some x) × (get_or xs at x ≡ x)) ⊎ ((length xs ≤ at) × (slice_get xs at ≡ None)) → length xs ≤ at
    by_cases (inl some) = absurd (let e = some.2 in cc)
    by_cases (inr none) = none.0

pub nothing_left : {X : Type 0} (xs : List X) (at : ℕ) → length xs ≤ at → drop at xs ≡ []
nothing_left {X} [] at past = by_number at
  where
    by_number : (n : ℕ) → drop {A = X} n [] ≡ []
    by_number zero = refl
    by_number (suc n) = refl
nothing_left (x ∷ xs) zero past = absurd (omega (arith, past))
nothing_left (x ∷ xs) (suc at) past = nothing_left xs at (omega (arith, past))

-- one more of a list is made of the next of another
pub two_more : {T X Y Z : Type 0} (f : T → Z) (g : Y → Z) (h : X → Y) (ts : List T) (t : T) (xs : List X) (at : ℕ) (x d : X) → at < length xs → x ≡ get_or xs at d
    → map f ts ≡ map g (map h (take at xs)) → f t ≡ g (h x) → map f (ts ++ t ∷ []) ≡ map g (map h (take (at + 1) xs))
two_more {X = X} {Z = Z} f g h ts t xs at x d less here before is =
    let taken = take_more xs at d less ∙ ap (λ (y : X). take at xs ++ y ∷ []) (sym here) in
    map-append f ts (t ∷ []) ∙ ap (λ (l : List Z). l ++ f t ∷ []) before ∙ ap (λ (z : Z). map g (map h (take at xs)) ++ z ∷ []) is
    ∙ sym (ap (λ (l : List X). map g (map h l)) taken ∙ ap (map g) (map-append h (take at xs) (x ∷ [])) ∙ map-append g (map h (take at xs)) (h x ∷ []))
