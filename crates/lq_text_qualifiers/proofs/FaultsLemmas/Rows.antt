-- Lists from one of their places on, and complaints one after another.
use Rattle.std.proofs.Common.{◌≡◌, ◌⊎◌, ℕ, zero, suc, ◌+◌, ◌<◌, ◌≤◌, List, [], ◌∷◌, ◌++◌, drop, length, slice_get, get_or, Option, Some, None, refl, sym, ap, ◌∙◌, arith, inl, inr}
use Rattle.std.proofs.lemmas.Option.{slice_get_cases}
use Rattle.lq_text_qualifiers.specs.Faults.Complaints.{Complaint, least_with, lesser}

pub least_acts : (best : Option Complaint) (cs ds : List Complaint) → least_with best (cs ++ ds) ≡ least_with (least_with best cs) ds
least_acts best [] ds = refl
least_acts best (c ∷ cs) ds = least_acts (lesser best c) cs ds

-- what was noted first, and then the rest
pub noted : (best new : Option Complaint) (cs ds : List Complaint) → new ≡ least_with best cs → least_with new ds ≡ least_with best (cs ++ ds)
noted best new cs ds is = ap (λ (b : Option Complaint). least_with b ds) is ∙ sym (least_acts best cs ds)

pub drop_or : {X : Type 0} (xs : List X) (at : ℕ) (x d : X) → at < length xs → x ≡ get_or xs at d → drop at xs ≡ x ∷ drop (at + 1) xs
drop_or {X} xs at x d less is = let next : at + 1 ≡ suc at = omega arith in from_here xs at less is ∙ ap (λ (n : ℕ). x ∷ drop n xs) (sym next)
  where
    from_here : (ys : List X) (at : ℕ) → at < length ys → x ≡ get_or ys at d → drop at ys ≡ x ∷ drop (suc at) ys
    from_here [] at less is = absurd (omega (arith, less))
    from_here (y ∷ ys) zero less is = ap (λ (z : X). z ∷ ys) (sym is)
    from_here (y ∷ ys) (suc at) less is = from_here ys at (omega (arith, less)) is

pub drop_by : {X : Type 0} (xs : List X) (at : ℕ) (x : X) → at < length xs → x ≡ get_or xs at x → drop at xs ≡ x ∷ drop (at + 1) xs
drop_by xs at x = drop_or xs at x x

pub drop_at : {X : Type 0} (xs : List X) (i : ℕ) (x : X) → slice_get xs i ≡ Some x → drop i xs ≡ x ∷ drop (i + 1) xs
drop_at {X} xs i x is = let next : i + 1 ≡ suc i = omega arith in from_here xs i is ∙ ap (λ (n : ℕ). x ∷ drop n xs) (sym next)
  where
    from_here : (ys : List X) (i : ℕ) → slice_get ys i ≡ Some x → drop i ys ≡ x ∷ drop (suc i) ys
    from_here [] i is = absurd (let e = is in cc)
    from_here (y ∷ ys) zero is = let same : y ≡ x = cc in ap (λ z. z ∷ ys) same
    from_here (y ∷ ys) (suc i) is = from_here ys i is

pub past : {X : Type 0} (xs : List X) (at : ℕ) → slice_get xs at ≡ None → length xs ≤ at
past {X = X} xs at is = by_cases (slice_get_cases xs at).1
  where
    by_cases : ((x : X) × (at < length xs) × (slice_get xs at ≡ Some x) × (get_or xs at x ≡ x)) ⊎ ((length xs ≤ at) × (slice_get xs at ≡ None)) → length xs ≤ at
    by_cases (inl some) = absurd (let e = some.2 in cc)
    by_cases (inr none) = none.0

pub nothing_left : {X : Type 0} (xs : List X) (at : ℕ) → length xs ≤ at → drop at xs ≡ []
nothing_left {X} [] at past = by_number at
  where
    by_number : (n : ℕ) → drop {A = X} n [] ≡ []
    by_number zero = refl
    by_number (suc n) = refl
nothing_left (x ∷ xs) zero past = absurd (omega (arith, past))
nothing_left (x ∷ xs) (suc at) past = nothing_left xs at (omega (arith, past))

pub two_noted : (best one two : Option Complaint) (cs ds es : List Complaint) → one ≡ least_with best cs → two ≡ least_with one ds → least_with two es ≡ least_with best (cs ++ (ds ++ es))
two_noted best one two cs ds es first second = noted one two ds es second ∙ noted best one cs (ds ++ es) first

pub four_noted : (best one two three four : Option Complaint) (cs ds es fs : List Complaint) → one ≡ least_with best cs → two ≡ least_with one ds → three ≡ least_with two es → four ≡ least_with three fs
    → four ≡ least_with best (cs ++ (ds ++ (es ++ fs)))
four_noted best one two three four cs ds es fs first second third fourth =
    fourth ∙ two_noted one two three ds es fs second third ∙ noted best one cs (ds ++ (es ++ fs)) first
