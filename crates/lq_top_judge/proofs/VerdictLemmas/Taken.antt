-- The front of a list, and one more.
use Rattle.std.specs.Prelude.{slice_get}
use Rattle.std.proofs.Common.{◌≡◌, ℕ, zero, suc, ◌+◌, List, [], ◌∷◌, ◌++◌, map, take, Some, None, sym, ap, ◌∙◌, arith}
use Rattle.std.proofs.lemmas.List.{map-append}

taken_next : {X : Type 0} (xs : List X) (i : ℕ) (x : X) → slice_get xs i ≡ Some x → take (i + 1) xs ≡ take i xs ++ x ∷ []
taken_next {X} xs i x is = let next : i + 1 ≡ suc i = omega arith in ap (λ (n : ℕ). take n xs) next ∙ from_here xs i is
  where
    from_here : (ys : List X) (i : ℕ) → slice_get ys i ≡ Some x → take (suc i) ys ≡ take i ys ++ x ∷ []
    from_here [] i is = absurd (let h : None ≡ Some x = is in cc)
    from_here (y ∷ ys) zero is = let same : y ≡ x = cc in ap (λ (z : X). z ∷ []) same
    from_here (y ∷ ys) (suc i) is = ap (λ (l : List X). y ∷ l) (from_here ys i is)

-- what is made of the front, with what is made of the next one behind it
pub made_next : {X Y : Type 0} (f : Y → X) (xs : List X) (ys : List Y) (i : ℕ) (y : Y) → slice_get xs i ≡ Some (f y) → map f ys ≡ take i xs
    → map f (ys ++ y ∷ []) ≡ take (i + 1) xs
made_next {X} f xs ys i y here before =
    map-append f ys (y ∷ []) ∙ ap (λ (l : List X). l ++ f y ∷ []) before ∙ sym (taken_next xs i (f y) here)
