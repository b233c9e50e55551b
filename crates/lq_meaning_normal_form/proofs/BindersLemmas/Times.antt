-- How often a number stands in a list.
use Rattle.std.proofs.Common.{◌≡◌, ℕ, zero, suc, ◌+◌, ◌<◌, ◌≤◌, Bool, true, false, ◌||◌, ◌==◌, cond, List, [], ◌∷◌, ◌++◌, refl, ap, arith}
use Rattle.std.proofs.lemmas.Bool.Decides.{Decides-eqb}
use Rattle.lq_meaning_normal_form.specs.Outcomes.Apart.{is_in}
use Rattle.lq_text_walk.specs.Scoped.Numbers.{from_on}
use Rattle.lq_meaning_normal_form.specs.Binders.Counting.{once, times}

pub times_append : (x : ℕ) (xs ys : List ℕ) → times x (xs ++ ys) ≡ times x xs + times x ys
times_append x [] ys = omega arith
times_append x (z ∷ xs) ys = let more = times_append x xs ys in omega (arith, more)

pub in_times : (x : ℕ) (xs : List ℕ) → is_in xs x ≡ true → 1 ≤ times x xs
in_times x [] h = cc
in_times x (y ∷ ys) h = by_test (λ k. in_times x ys k) (y == x) refl h
  where
    by_test : (is_in ys x ≡ true → 1 ≤ times x ys) → (t : Bool) → (y == x) ≡ t → (t || is_in ys x) ≡ true → 1 ≤ once x y + times x ys
    by_test go true e k = let is : once x y ≡ 1 = ap (λ b. cond b 1 0) e in omega (arith, is)
    by_test go false e k = let more = go k in omega (arith, more)

once_same : (x y : ℕ) → 1 ≤ once x y → y ≡ x
once_same x y h = by_test (y == x) refl
  where
    by_test : (t : Bool) → (y == x) ≡ t → y ≡ x
    by_test true e = (Decides-eqb y x).0 e
    by_test false e = absurd (let is : once x y ≡ 0 = ap (λ b. cond b 1 0) e in omega (arith, is, h))

once_most : (x y : ℕ) → once x y ≤ 1
once_most x y = by_test (y == x)
  where
    by_test : (t : Bool) → cond t 1 0 ≤ 1
    by_test true = omega arith
    by_test false = omega arith

-- the numbers from one on are those up to their end
pub from_within : (n m x : ℕ) → 1 ≤ times x (from_on n m) → (n ≤ x) × (x < n + m)
from_within n zero x h = absurd (omega (arith, h))
from_within n (suc m) x h = by_first (λ k. from_within (suc n) m x k) (once x n) refl
  where
    by_first : (1 ≤ times x (from_on (suc n) m) → (suc n ≤ x) × (x < suc n + m)) → (t : ℕ) → once x n ≡ t → (n ≤ x) × (x < n + suc m)
    by_first go zero e = let some : 1 ≤ times x (from_on (suc n) m) = omega (arith, h, e) in let later = go some in (let low = later.0 in omega (arith, low), let high = later.1 in omega (arith, high))
    by_first go (suc t) e = let one : 1 ≤ once x n = omega (arith, e) in let same = once_same x n one in (omega (arith, same), omega (arith, same))

-- and each of them stands there once
pub from_once : (n m x : ℕ) → times x (from_on n m) ≤ 1
from_once n zero x = omega arith
from_once n (suc m) x = by_rest (from_once (suc n) m x) (times x (from_on (suc n) m)) refl
  where
    by_first : times x (from_on (suc n) m) ≤ 1 → 1 ≤ times x (from_on (suc n) m) → (s : ℕ) → once x n ≡ s → once x n + times x (from_on (suc n) m) ≤ 1
    by_first most some zero f = omega (arith, most, f)
    by_first most some (suc s) f =
        absurd (let one : 1 ≤ once x n = omega (arith, f) in let same = once_same x n one in let later = (from_within (suc n) m x some).0 in omega (arith, same, later))

    by_rest : times x (from_on (suc n) m) ≤ 1 → (t : ℕ) → times x (from_on (suc n) m) ≡ t → once x n + times x (from_on (suc n) m) ≤ 1
    by_rest most zero e = let one = once_most x n in omega (arith, one, e)
    by_rest most (suc t) e = by_first most (omega (arith, e)) (once x n) refl
