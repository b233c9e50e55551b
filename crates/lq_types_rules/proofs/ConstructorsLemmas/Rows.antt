-- Rows of types in memory.
use Rattle.std.proofs.Common.{◌≡◌, ◌⊎◌, ℕ, zero, suc, ◌+◌, ◌-◌, ◌<◌, ◌≤◌, List, [], ◌∷◌, ◌++◌, map, drop, length, slice_get, get_or, Some, None, refl, ap, sym, ◌∙◌, arith, inl, inr}
use Rattle.std.proofs.lemmas.List.{length-map, reverse-append}
use Rattle.std.proofs.lemmas.Option.{slice_get_cases}
use Rattle.lq_text_tree.specs.MlType.{MlType, MlTypes}
use Rattle.lq_text_tree.specs.SimpleTypeView.{simple_type_view, simple_types_view, simple_types_items, types_of, simple_type_step, simple_types_step}
use Rattle.lq_text_tree.specs.declared.simple_type.SimpleType.{SimpleType}
use Rattle.lq_text_tree.specs.declared.simple_type.SimpleTypes.{SimpleTypes, fold_out-SimpleTypes}
use Rattle.lq_types_rules.specs.Constructors.Tasks as plain
use Rattle.lq_types_rules.specs.Constructors.Tasks.{enter, listed}
use Rattle.lq_types_rules.specs.Constructors.Views.{task_view, tasks_view}
use Rattle.lq_types_rules.specs.declared.constructors.tasks.Task.{Task}

pub row_seen : (ts : SimpleTypes) → simple_types_view ts ≡ types_of (map simple_type_view (simple_types_items ts))
row_seen ts = fold_out-SimpleTypes MlType MlTypes simple_type_step simple_types_step ts

listed_back : (ts : List MlType) → listed (types_of ts) ≡ ts
listed_back [] = refl
listed_back (t ∷ ts) = ap (λ (us : List MlType). t ∷ us) (listed_back ts)

pub row_listed : (ts : SimpleTypes) → listed (simple_types_view ts) ≡ map simple_type_view (simple_types_items ts)
row_listed ts = ap listed (row_seen ts) ∙ listed_back (map simple_type_view (simple_types_items ts))

pub row_count : (ts : SimpleTypes) → length (listed (simple_types_view ts)) ≡ length (simple_types_items ts)
row_count ts = ap length (row_listed ts) ∙ length-map (simple_types_items ts) simple_type_view

abbrev pub entering : SimpleType → plain.Task
entering t = enter (simple_type_view t)

pub tasks_more : (ts : List Task) (t : Task) → tasks_view (ts ++ t ∷ []) ≡ task_view t ∷ tasks_view ts
tasks_more ts t = ap (map task_view) (reverse-append ts (t ∷ []))

drop_here : {X : Type 0} (xs : List X) (i : ℕ) (x : X) → slice_get xs i ≡ Some x → drop i xs ≡ x ∷ drop (suc i) xs
drop_here [] i x is = absurd (let e = is in cc)
drop_here (y ∷ xs) zero x is = let same : y ≡ x = cc in ap (λ z. z ∷ xs) same
drop_here (y ∷ xs) (suc i) x is = drop_here xs i x is

pub pushed_before : (xs : List SimpleType) (count at : ℕ) (x : SimpleType) (base old new : List plain.Task) → at < count → slice_get xs (count - 1 - at) ≡ Some x
    → old ≡ map entering (drop (count - at) xs) ++ base → new ≡ entering x ∷ old → new ≡ map entering (drop (count - (at + 1)) xs) ++ base
pushed_before xs count at x base old new less is before then =
    let here : count - (at + 1) ≡ count - 1 - at = omega (arith, less) in
    let next : count - at ≡ suc (count - 1 - at) = omega (arith, less) in
    then ∙ ap (λ (l : List plain.Task). entering x ∷ l) (before ∙ ap (λ (n : ℕ). map entering (drop n xs) ++ base) next)
    ∙ sym (ap (λ (n : ℕ). map entering (drop n xs) ++ base) here ∙ ap (λ (l : List SimpleType). map entering l ++ base) (drop_here xs (count - 1 - at) x is))

past : {X : Type 0} (xs : List X) (at : ℕ) → slice_get xs at ≡ None → length xs ≤ at
past {X = X} xs at is = by_cases (slice_get_cases xs at).1
  where
    by_cases : ((x : X) × (at < length xs) × (slice_get xs at ≡ Some x) × (get_or xs at x ≡ x)) ⊎ ((length xs ≤ at) × (slice_get xs at ≡ None)) → length xs ≤ at
    by_cases (inl some) = absurd (let e = some.2 in cc)
    by_cases (inr none) = none.0

pub none_left : (xs : List SimpleType) (count at : ℕ) → count ≡ length xs → at < count → slice_get xs (count - 1 - at) ≡ None → ⊥
none_left xs count at is less none = let far = past xs (count - 1 - at) none in omega (arith, is, less, far)

entered_all : (ts : List SimpleType) → map entering ts ≡ map enter (map simple_type_view ts)
entered_all [] = refl
entered_all (t ∷ ts) = ap (λ (l : List plain.Task). entering t ∷ l) (entered_all ts)

pub all_pushed : (ts : SimpleTypes) (count at : ℕ) (base now : List plain.Task) → count ≤ at → now ≡ map entering (drop (count - at) (simple_types_items ts)) ++ base
    → now ≡ map enter (listed (simple_types_view ts)) ++ base
all_pushed ts count at base now over is =
    let none : count - at ≡ 0 = omega (arith, over) in
    is ∙ ap (λ (n : ℕ). map entering (drop n (simple_types_items ts)) ++ base) none
    ∙ ap (λ (l : List plain.Task). l ++ base) (entered_all (simple_types_items ts) ∙ ap (map enter) (sym (row_listed ts)))
