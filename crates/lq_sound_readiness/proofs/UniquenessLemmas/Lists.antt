-- What holds of each element of a list, and of each number from one on.
use Rattle.std.specs.List.{AllByRecursion}
use Rattle.std.proofs.Common.{◌≡◌, ℕ, zero, suc, ◌+◌, ◌<◌, ◌≤◌, List, [], ◌∷◌, ◌++◌, subst, arith}
use Rattle.lq_text_walk.specs.Scoped.Numbers.{from_on}

module _ {A : Type 0} (P : A → Type 0) where
  pub all_both : (xs ys : List A) → AllByRecursion P xs → AllByRecursion P ys → AllByRecursion P (xs ++ ys)
  all_both [] ys h l = l
  all_both (x ∷ xs) ys h l = (h.0, all_both xs ys h.1 l)

  pub all_left : (xs ys : List A) → AllByRecursion P (xs ++ ys) → AllByRecursion P xs
  all_left [] ys h = tt
  all_left (x ∷ xs) ys h = (h.0, all_left xs ys h.1)

  pub all_right : (xs ys : List A) → AllByRecursion P (xs ++ ys) → AllByRecursion P ys
  all_right [] ys h = h
  all_right (x ∷ xs) ys h = all_right xs ys h.1

module _ (P : ℕ → Type 0) where
  pub from_on_all : (a m : ℕ) → ((k : ℕ) → a ≤ k → k < a + m → P k) → AllByRecursion P (from_on a m)
  from_on_all a zero h = tt
  from_on_all a (suc m) h =
      (h a (omega arith) (omega arith), from_on_all (suc a) m (λ k above below. h k (omega (arith, above)) (omega (arith, below))))

  pub from_on_at : (a m : ℕ) → AllByRecursion P (from_on a m) → (j : ℕ) → j < m → P (a + j)
  from_on_at a zero h j low = absurd (omega (arith, low))
  from_on_at a (suc m) h zero low = let same : a ≡ a + 0 = omega arith in subst P same h.0
  from_on_at a (suc m) h (suc j) low = let same : suc a + j ≡ a + suc j = omega arith in subst P same (from_on_at (suc a) m h.1 j (omega (arith, low)))
