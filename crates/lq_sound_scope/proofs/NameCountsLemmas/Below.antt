-- What a normal form binds is below the name behind the last made one.
use Rattle.std.proofs.Common.{◌≡◌, ◌⊎◌, inl, inr, ℕ, ◌+◌, ◌<◌, ◌≤◌, ◌==◌, Bool, true, false, cond, List, [], ◌∷◌, length, None, refl, ap, arith}
use Rattle.std.proofs.lemmas.Bool.Decides.{Decides-eqb}
use Rattle.std.proofs.lemmas.Bool.{cases_lt}
use Rattle.lq_text_tree.specs.MlType as ml
use Rattle.lq_text_tree.specs.MlType.{MlType}
use Rattle.lq_text_tree.specs.Types.{Signature}
use Rattle.lq_meaning_normal_form.specs.Binders.Apart.{ScopedBindOnce}
use Rattle.lq_meaning_normal_form.specs.Binders.Counting.{once, times, counted_items}
use Rattle.lq_sound_readiness.proofs.NormalScopeLemmas.Counting.{given, all-counts}
use Rattle.lq_meaning_normal_form.specs.Types.Laws.{MadeNamesRun}
use Rattle.lq_meaning_normal_form.specs.Types.Made.{Given, Runs}
use Rattle.lq_meaning_normal_form.specs.Types.Plain.{AreBelow}
use Rattle.lq_meaning_normal_form.specs.Types.Programs.{items_made, normal_items, next_items}
use Rattle.lq_sound_scope.specs.NameCounts.Laws.{NormalFormsBindBelow}

-- names that run from one number on up to another
runs-up : (k m : ℕ) (xs : Given) → Runs k xs m → k ≤ m
runs-up k m [] r = omega (arith, r)
runs-up k m (y ∷ ys) r = let more = runs-up (k + 1) m ys r.1 in omega (arith, more)

once-none : (x y : ℕ) → (y ≡ x → ⊥) → once x y ≡ 0
once-none x y differ = by-test (y == x) refl
  where
    by-test : (b : Bool) → (y == x) ≡ b → once x y ≡ 0
    by-test true e = absurd (differ ((Decides-eqb y x).0 e))
    by-test false e = ap (λ b. cond b 1 0) e

-- a number from the last on is none of them
runs-high : (x k m : ℕ) (xs : Given) → Runs k xs m → m ≤ x → given x xs ≡ 0
runs-high x k m [] r high = refl
runs-high x k m (y ∷ ys) r high =
    let up = runs-up (k + 1) m ys r.1 in let is = r.0 in
    let first = once-none x y.0 (λ e. omega (arith, is, e, up, high)) in
    let rest = runs-high x (k + 1) m ys r.1 high in
    omega (arith, first, rest)

pub bind-below : ScopedBindOnce → MadeNamesRun → NormalFormsBindBelow
bind-below once runs s scoped fine x some =
    let k = length s.sources in
    let g : Signature = λ c. None in let nodes : ℕ → MlType = λ i. ml.unit in
    let m = next_items k s.items in let xs = items_made g nodes k s.items in
    let total = all-counts x g k nodes s.items k fine in
    let run = runs g nodes k s.items in let up = runs-up k m xs run in
    by-place k m (counted_items x s.items) (given x xs) (counted_items x (normal_items k s.items)) total some up (once s scoped x).1
    (runs-high x k m xs run) (cases_lt x m)
  where
    by-place : (k m n j t : ℕ) → t ≡ n + j → 1 ≤ t → k ≤ m → (1 ≤ n → x < k) → (m ≤ x → j ≡ 0) → (x < m) ⊎ (m ≤ x) → x < m
    by-place k m n j t is some up own none (inl low) = low
    by-place k m n j t is some up own none (inr high) =
        let zero = none high in let low = own (omega (arith, is, some, zero)) in omega (arith, low, up)

-- a list each of whose numbers is below another
pub all-below : (m top : ℕ) → m ≤ top → (xs : List ℕ) → ((x : ℕ) → 1 ≤ times x xs → x < m) → AreBelow top xs
all-below m top most [] h = tt
all-below m top most (y ∷ ys) h =
    let same : once y y ≡ 1 = ap (λ b. cond b 1 0) ((Decides-eqb y y).1 refl) in
    let low = h y (omega (arith, same)) in
    (omega (arith, low, most), all-below m top most ys (λ x some. h x (omega (arith, some))))
