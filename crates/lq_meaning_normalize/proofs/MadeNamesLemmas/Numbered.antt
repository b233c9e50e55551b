-- Made names are numbered in their order.
use mathlib.Core.Path.{fun_ext}
use Rattle.std.proofs.Common.{◌≡◌, ◌⊎◌, inl, inr, ℕ, zero, suc, ◌+◌, ◌-◌, ◌<◌, ◌≤◌, ◌==◌, nat_lt, Bool, true, false, not, cond, if◌then◌else◌, List, [], ◌∷◌, length, Option, Some, None, slice_get, get_or, refl, sym, ap, subst, ◌∙◌, arith}
use Rattle.std.specs.List.{filter}
use Rattle.std.proofs.lemmas.Bool.Decides.{Decides-eqb, Decides-ltb}
use Rattle.std.proofs.lemmas.Option.{slice_get_cases}
use Rattle.lq_text_walk.specs.Scoped.Numbers.{from_on, AreFrom}
use Rattle.lq_text_tree.specs.Items.{ItemTree}
use Rattle.lq_meaning_normal_form.specs.Types.Plain.{ItemsArePlain}
use Rattle.lq_meaning_normal_form.specs.Types.Programs.{next_items, normal_items}
use Rattle.lq_meaning_normalize.specs.MadeNames.Laws.{is_from, names_from, AllNamed, MadeNamesAreAlone, MadeNamesAreInOrder}
use Rattle.lq_meaning_normalize.specs.MadeNames.Numbers.{has_no_name, is_made, made_names, number_from}
use Rattle.lq_meaning_normalize.specs.MadeNames.Order.{names_of_items}
use Rattle.lq_meaning_normalize.proofs.MadeNamesLemmas.Ascending.{Ascends}
use Rattle.lq_meaning_normalize.proofs.MadeNamesLemmas.InOrder.{program-run}

one-more : (k : ℕ) → k + 1 ≡ suc k
one-more k = omega arith

is-low : (base x : ℕ) → x < base → is_from base x ≡ false
is-low base x less = ap not ((Decides-ltb x base).1 less)

by-not : (b : Bool) → (b ≡ true → ⊥) → not b ≡ true
by-not true h = absurd (h refl)
by-not false h = refl

is-high : (base x : ℕ) → base ≤ x → is_from base x ≡ true
is-high base x most = by-not (nat_lt x base) (λ e. let less = (Decides-ltb x base).0 e in omega (arith, less, most))

-- ---- what ascends is a run of numbers

abbrev Fills : ℕ → ℕ → List ℕ → Type 0
Fills k m xs = AreFrom k xs × (k + length xs ≡ m)

filled : (base : ℕ) (xs : List ℕ) (k m : ℕ) → base ≤ k → Ascends base k xs m → Fills k m (filter (is_from base) xs)
filled base [] k m most h = (refl, omega (arith, h))
filled base (x ∷ xs) k m most (inl h) =
    let rest = filter (is_from base) xs in
    subst (λ (b : Bool). Fills k m (cond b (x ∷ rest) rest)) (sym (is-low base x h.0)) (filled base xs k m most h.1)
filled base (x ∷ xs) k m most (inr h) =
    let rest = filter (is_from base) xs in
    let same : x ≡ k = h.0 in
    let more = filled base xs (k + 1) m (omega (arith, most)) h.1 in
    let ones : rest ≡ from_on (suc k) (length rest) = subst (λ j. rest ≡ from_on j (length rest)) (one-more k) more.0 in
    let whole : Fills k m (x ∷ rest) =
    (ap (λ y. y ∷ rest) same ∙ ap (λ ys. k ∷ ys) ones, let up = more.1 in omega (arith, up)) in
    subst (λ (b : Bool). Fills k m (cond b (x ∷ rest) rest)) (sym (is-high base x (omega (arith, most, same)))) whole

program-filled : (k : ℕ) (is : List ItemTree) → ItemsArePlain k is → Fills k (next_items k is) (names_from k (normal_items k is))
program-filled k is fine = filled k (names_of_items (normal_items k is)) k (next_items k is) (omega arith) (program-run k is k fine)

pub in-order : MadeNamesAreInOrder
in-order k is fine = let h = program-filled k is fine in record { ascending = h.0; all = h.1 }

-- ---- numbers in a run

none-before : (n k j x : ℕ) → x < k → number_from j (from_on k n) x ≡ None
none-before zero k j x less = refl
none-before (suc n) k j x less = by (k == x) refl (none-before n (suc k) (j + 1) x (omega (arith, less)))
  where
    by : (b : Bool) → (k == x) ≡ b → number_from (j + 1) (from_on (suc k) n) x ≡ None → (if b then Some j else number_from (j + 1) (from_on (suc k) n) x) ≡ None
    by true e h = let same = (Decides-eqb k x).0 e in absurd (omega (arith, same, less))
    by false e h = h

some-within : (n k j d : ℕ) → d < n → number_from j (from_on k n) (k + d) ≡ Some (d + j)
some-within zero k j d less = absurd (omega (arith, less))
some-within (suc n) k j zero less = by (k == (k + zero)) refl
  where
    by : (b : Bool) → (k == (k + zero)) ≡ b → (if b then Some j else number_from (j + 1) (from_on (suc k) n) (k + zero)) ≡ Some (zero + j)
    by true e = ap (λ i. Some i) (omega arith)
    by false e = let same = (Decides-eqb k (k + zero)).1 (omega arith) in absurd (cc)
some-within (suc n) k j (suc d) less = by (k == (k + suc d)) refl (some-within n (suc k) (j + 1) d (omega (arith, less)))
  where
    place : suc k + d ≡ k + suc d
    place = omega arith

    by : (b : Bool) → (k == (k + suc d)) ≡ b → number_from (j + 1) (from_on (suc k) n) (suc k + d) ≡ Some (d + (j + 1))
        → (if b then Some j else number_from (j + 1) (from_on (suc k) n) (k + suc d)) ≡ Some (suc d + j)
    by true e rest = let same = (Decides-eqb k (k + suc d)).0 e in absurd (omega (arith, same))
    by false e rest = subst (λ y. number_from (j + 1) (from_on (suc k) n) y ≡ Some (suc d + j)) place (rest ∙ ap (λ i. Some i) (omega arith))

none-behind : (n k j x : ℕ) → k + n ≤ x → number_from j (from_on k n) x ≡ None
none-behind zero k j x most = refl
none-behind (suc n) k j x most = by (k == x) refl (none-behind n (suc k) (j + 1) x (omega (arith, most)))
  where
    by : (b : Bool) → (k == x) ≡ b → number_from (j + 1) (from_on (suc k) n) x ≡ None → (if b then Some j else number_from (j + 1) (from_on (suc k) n) x) ≡ None
    by true e h = let same = (Decides-eqb k x).0 e in absurd (omega (arith, same, most))
    by false e h = h

-- ---- where each binder of the text has a name

made-or-from : (sources : List (Option ℕ)) → AllNamed sources → (x : ℕ) → is_made sources x ≡ is_from (length sources) x
made-or-from sources named x = by (slice_get_cases sources x).1
  where
    by-source : (o : Option ℕ) → x < length sources → slice_get sources x ≡ Some o → is_made sources x ≡ is_from (length sources) x
    by-source None less e = absurd (named x e)
    by-source (Some y) less e = ap has_no_name e ∙ sym (is-low (length sources) x less)

    by : ((o : Option ℕ) × (x < length sources) × (slice_get sources x ≡ Some o) × (get_or sources x o ≡ o)) ⊎ ((length sources ≤ x) × (slice_get sources x ≡ None))
        → is_made sources x ≡ is_from (length sources) x
    by (inl h) = by-source h.0 h.1 h.2
    by (inr h) = ap has_no_name h.1 ∙ sym (is-high (length sources) x h.0)

pub alone : MadeNamesAreAlone
alone sources is named fine x = (
  λ less. at (λ xs. number_from 1 xs x ≡ None) (none-before n k 1 x less),
  λ most less. at (λ xs. number_from 1 xs x ≡ Some (x - k + 1))
      (subst (λ y. number_from 1 (from_on k n) y ≡ Some (x - k + 1)) (omega (arith, most)) (some-within n k 1 (x - k) (let end = whole.1 in omega (arith, most, less, end)))),
  λ most. at (λ xs. number_from 1 xs x ≡ None) (none-behind n k 1 x (let end = whole.1 in omega (arith, most, end))),
)
  where
    k : ℕ
    k = length sources

    ys : List ℕ
    ys = names_from k (normal_items k is)

    n : ℕ
    n = length ys

    whole : Fills k (next_items k is) ys
    whole = program-filled k is fine

    same : made_names sources (normal_items k is) ≡ from_on k n
    same = ap (λ test. filter test (names_of_items (normal_items k is))) (fun_ext (made-or-from sources named)) ∙ whole.0

    at : (P : List ℕ → Type 0) → P (from_on k n) → P (made_names sources (normal_items k is))
    at P h = subst P (sym same) h
