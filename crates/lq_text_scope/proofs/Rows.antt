-- Loops over rows: what is done for the first of a row is what is done for fewer, and then for one more.
use Rattle.std.proofs.Common.{◌≡◌, ◌⊎◌, ℕ, ◌+◌, ◌<◌, ◌≤◌, List, [], ◌∷◌, ◌++◌, take, length, slice_get, get_or, Option, Some, None, refl, sym, ap, ◌∙◌, arith, inl, inr}
use Rattle.std.proofs.lemmas.List.{take_more, take_all, append_assoc}
use Rattle.std.proofs.lemmas.Option.{slice_get_within, slice_get_cases, get_or_from_slice_get}
use Rattle.lq_text_scope.specs.Complaints.{Complaint, least_with, lesser}

-- what lists do, where two in a row do it one after the other
pub Acts : {B Y : Type 0} → (B → List Y → B) → Type 0
Acts {B} {Y} act = (b : B) (ys zs : List Y) → act b (ys ++ zs) ≡ act (act b ys) zs

pub least_acts : (best : Option Complaint) (cs ds : List Complaint) → least_with best (cs ++ ds) ≡ least_with (least_with best cs) ds
least_acts best [] ds = refl
least_acts best (c ∷ cs) ds = least_acts (lesser best c) cs ds

pub append_acts : {Y : Type 0} (b ys zs : List Y) → b ++ (ys ++ zs) ≡ (b ++ ys) ++ zs
append_acts b ys zs = sym (append_assoc b ys zs)

pub longer_at : {X : Type 0} (xs : List X) (at : ℕ) (x : X) → slice_get xs at ≡ Some x → take (at + 1) xs ≡ take at xs ++ x ∷ []
longer_at {X} xs at x is = take_more xs at x (slice_get_within xs at x is) ∙ ap (λ (y : X). take at xs ++ y ∷ []) (get_or_from_slice_get xs at x x is)

pub longer_by : {X : Type 0} (xs : List X) (at : ℕ) (x : X) → at < length xs → x ≡ get_or xs at x → take (at + 1) xs ≡ take at xs ++ x ∷ []
longer_by {X} xs at x within is = take_more xs at x within ∙ ap (λ (y : X). take at xs ++ y ∷ []) (sym is)

pub past : {X : Type 0} (xs : List X) (at : ℕ) → slice_get xs at ≡ None → length xs ≤ at
past {X = X} xs at is = by_cases (slice_get_cases xs at).1
  where
    by_cases : ((x : X) × (at < length xs) × (slice_get xs at ≡ Some x) × (get_or xs at x ≡ x)) ⊎ ((length xs ≤ at) × (slice_get xs at ≡ None)) → length xs ≤ at
    by_cases (inl some) = absurd (let e = some.2 in cc)
    by_cases (inr none) = none.0

pub one_more : {B X Y : Type 0} (act : B → List Y → B) → ((b : B) (ys zs : List Y) → act b (ys ++ zs) ≡ act (act b ys) zs)
    → (h : List X → List Y) (one : X → List Y) → ((xs : List X) (x : X) → h (xs ++ x ∷ []) ≡ h xs ++ one x)
    → (xs : List X) (at : ℕ) (x : X) (base old new : B) → take (at + 1) xs ≡ take at xs ++ x ∷ [] → old ≡ act base (h (take at xs)) → new ≡ act old (one x) → new ≡ act base (h (take (at + 1) xs))
one_more {B} {X} act acts h one joins xs at x base old new longer before then =
    then ∙ ap (λ (b : B). act b (one x)) before ∙ sym (acts base (h (take at xs)) (one x)) ∙ ap (act base) (sym (joins (take at xs) x)) ∙ ap (λ (l : List X). act base (h l)) (sym longer)

pub no_more : {B X Y : Type 0} (act : B → List Y → B) (h : List X → List Y) (xs : List X) (at : ℕ) (base old : B) → slice_get xs at ≡ None → old ≡ act base (h (take at xs)) → old ≡ act base (h (take (at + 1) xs))
no_more {B} {X} act h xs at base old none before =
    let far = past xs at none in
    before ∙ ap (λ (l : List X). act base (h l)) (take_all at xs far ∙ sym (take_all (at + 1) xs (omega (arith, far))))

pub all_taken : {B X Y : Type 0} (act : B → List Y → B) (h : List X → List Y) (xs : List X) (at : ℕ) (base old : B) → length xs ≤ at → old ≡ act base (h (take at xs)) → old ≡ act base (h xs)
all_taken {B} {X} act h xs at base old far before = before ∙ ap (λ (l : List X). act base (h l)) (take_all at xs far)
