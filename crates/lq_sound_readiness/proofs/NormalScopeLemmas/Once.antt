-- The normal form of a scoped program binds no name twice.
use Rattle.std.proofs.Common.{◌≡◌, ℕ, zero, suc, ◌+◌, ◌<◌, ◌≤◌, ◌==◌, Bool, true, false, cond, [], ◌∷◌, length, None, refl, ap, arith}
use Rattle.std.proofs.lemmas.Bool.Decides.{Decides-eqb}
use Rattle.lq_text_tree.specs.MlType as ml
use Rattle.lq_text_tree.specs.MlType.{MlType}
use Rattle.lq_text_tree.specs.Types.{Signature}
use Rattle.lq_meaning_normal_form.specs.Binders.Apart.{ScopedBindOnce}
use Rattle.lq_meaning_normal_form.specs.Binders.Counting.{once, counted_items}
use Rattle.lq_meaning_normal_form.specs.Types.Made.{Given, Runs}
use Rattle.lq_meaning_normal_form.specs.Types.Laws.{MadeNamesRun}
use Rattle.lq_meaning_normal_form.specs.Types.Programs.{items_made, normal_items, next_items}
use Rattle.lq_sound_readiness.specs.NormalScope.Laws.{NormalFormsBindOnce}
use Rattle.lq_sound_readiness.proofs.NormalScopeLemmas.Counting.{given, all-counts}

once-none : (x y : ℕ) → (y ≡ x → ⊥) → once x y ≡ 0
once-none x y differ = by-test (y == x) refl
  where
    by-test : (b : Bool) → (y == x) ≡ b → once x y ≡ 0
    by-test true e = absurd (differ ((Decides-eqb y x).0 e))
    by-test false e = ap (λ b. cond b 1 0) e

-- a number below the first name is none of them
runs-low : (x k m : ℕ) (xs : Given) → Runs k xs m → x < k → given x xs ≡ 0
runs-low x k m [] r low = refl
runs-low x k m (y ∷ ys) r low =
    let is = r.0 in
    let first = once-none x y.0 (λ e. omega (arith, is, e, low)) in
    let rest = runs-low x (k + 1) m ys r.1 (omega (arith, low)) in
    omega (arith, first, rest)

-- each stands there once
runs-once : (x k m : ℕ) (xs : Given) → Runs k xs m → given x xs ≤ 1
runs-once x k m [] r = omega arith
runs-once x k m (y ∷ ys) r = by-test (runs-once x (k + 1) m ys r.1) (y.0 == x) refl
  where
    by-test : given x ys ≤ 1 → (b : Bool) → (y.0 == x) ≡ b → once x y.0 + given x ys ≤ 1
    by-test rest true e =
        let same = (Decides-eqb y.0 x).0 e in let is = r.0 in
        let one : once x y.0 ≡ 1 = ap (λ b. cond b 1 0) e in
        let none = runs-low x (k + 1) m ys r.1 (omega (arith, same, is)) in
        omega (arith, one, none)
    by-test rest false e = let none : once x y.0 ≡ 0 = ap (λ b. cond b 1 0) e in omega (arith, none, rest)

pub bind-once : ScopedBindOnce → MadeNamesRun → NormalFormsBindOnce
bind-once once runs s scoped fine x =
    let k = length s.sources in
    let g : Signature = λ c. None in let nodes : ℕ → MlType = λ i. ml.unit in
    let total = all-counts x g k nodes s.items k fine in
    let own = once s scoped x in let run = runs g nodes k s.items in
    by-own (counted_items x s.items) (given x (items_made g nodes k s.items)) (counted_items x (normal_items k s.items)) total own.0
    (runs-once x k (next_items k s.items) (items_made g nodes k s.items) run)
    (λ some. runs-low x k (next_items k s.items) (items_made g nodes k s.items) run (own.1 some))
  where
    by-own : (n m t : ℕ) → t ≡ n + m → n ≤ 1 → m ≤ 1 → (1 ≤ n → m ≡ 0) → t ≤ 1
    by-own zero m t is few most none = omega (arith, is, most)
    by-own (suc n) m t is few most none = let zero = none (omega arith) in omega (arith, is, few, zero)
