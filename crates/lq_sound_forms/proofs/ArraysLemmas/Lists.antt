-- Elements of lists: behind others, set, and copies.
use Rattle.std.proofs.Common.{◌≡◌, ℕ, zero, suc, ◌<◌, List, [], ◌∷◌, ◌++◌, length, slice_get, slice_set, Some, ◌⊎◌, inl, inr, refl, ap, arith as numbers}
use Rattle.lq_meaning_steps.specs.Model.Core.{Value}
use Rattle.lq_meaning_steps.specs.Model.Operations.{copies}

module _ (X : Type 0) where
  pub get_first : (xs ys : List X) (i : ℕ) (x : X) → slice_get xs i ≡ Some x → slice_get (xs ++ ys) i ≡ Some x
  get_first [] ys i x h = absurd (cc)
  get_first (y ∷ xs) ys zero x h = h
  get_first (y ∷ xs) ys (suc i) x h = get_first xs ys i x h

  pub get_last : (xs : List X) (x : X) → slice_get (xs ++ x ∷ []) (length xs) ≡ Some x
  get_last [] x = refl
  get_last (y ∷ xs) x = get_last xs x

  -- an element of a list with one more is one of the list, or the one more at the list's length
  pub get_either : (xs : List X) (z : X) (i : ℕ) (x : X) → slice_get (xs ++ z ∷ []) i ≡ Some x → (slice_get xs i ≡ Some x) ⊎ ((i ≡ length xs) × (x ≡ z))
  get_either [] z zero x h = inr (refl, some_same z x h)
    where
      some_same : (a b : X) → Some a ≡ Some b → b ≡ a
      some_same a b e = cc
  get_either [] z (suc i) x h = absurd (cc)
  get_either (y ∷ xs) z zero x h = inl h
  get_either (y ∷ xs) z (suc i) x h =
      elim (get_either xs z i x h) [ inl e ↦ inl e | inr e ↦ inr (ap suc e.0, e.1) ]

  pub get_within : (xs : List X) (i : ℕ) → i < length xs → (x : X) × (slice_get xs i ≡ Some x)
  get_within [] i h = absurd (omega (numbers, h))
  get_within (y ∷ xs) zero h = (y, refl)
  get_within (y ∷ xs) (suc i) h = get_within xs i (omega (numbers, h))

  pub length_set : (xs : List X) (i : ℕ) (z : X) → length (slice_set xs i z) ≡ length xs
  length_set [] i z = refl
  length_set (y ∷ xs) zero z = refl
  length_set (y ∷ xs) (suc i) z = ap suc (length_set xs i z)

  -- an element of a list in which one is set is the one set, or one of the list
  pub get_set : (xs : List X) (i : ℕ) (z : X) (j : ℕ) (x : X) → slice_get (slice_set xs i z) j ≡ Some x → (slice_get xs j ≡ Some x) ⊎ ((j ≡ i) × (x ≡ z))
  get_set [] i z j x h = inl h
  get_set (y ∷ xs) zero z zero x h = inr (refl, some_same z x h)
    where
      some_same : (a b : X) → Some a ≡ Some b → b ≡ a
      some_same a b e = cc
  get_set (y ∷ xs) zero z (suc j) x h = inl h
  get_set (y ∷ xs) (suc i) z zero x h = inl h
  get_set (y ∷ xs) (suc i) z (suc j) x h = elim (get_set xs i z j x h) [ inl e ↦ inl e | inr e ↦ inr (ap suc e.0, e.1) ]

  -- and an element of the list has one in its place
  pub set_get : (xs : List X) (i : ℕ) (z : X) (j : ℕ) (x : X) → slice_get xs j ≡ Some x → (slice_get (slice_set xs i z) j ≡ Some x) ⊎ ((j ≡ i) × (slice_get (slice_set xs i z) j ≡ Some z))
  set_get [] i z j x h = inl h
  set_get (y ∷ xs) zero z zero x h = inr (refl, refl)
  set_get (y ∷ xs) zero z (suc j) x h = inl h
  set_get (y ∷ xs) (suc i) z zero x h = inl h
  set_get (y ∷ xs) (suc i) z (suc j) x h = elim (set_get xs i z j x h) [ inl e ↦ inl e | inr e ↦ inr (ap suc e.0, e.1) ]

  pub length_more : (xs : List X) (x : X) → length (xs ++ x ∷ []) ≡ suc (length xs)
  length_more [] x = refl
  length_more (y ∷ xs) x = ap suc (length_more xs x)

pub length_copies : (n : ℕ) (v : Value) → length (copies n v) ≡ n
length_copies zero v = refl
length_copies (suc n) v = ap suc (length_copies n v)

pub get_copies : (n : ℕ) (v : Value) (i : ℕ) (u : Value) → slice_get (copies n v) i ≡ Some u → u ≡ v
get_copies zero v i u h = absurd (cc)
get_copies (suc n) v zero u h = cc
get_copies (suc n) v (suc i) u h = get_copies n v i u h
