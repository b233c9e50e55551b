-- The elements of a list one by one.
use Rattle.std.specs.Prelude.{slice_get}
use Rattle.std.proofs.Common.{◌≡◌, ℕ, zero, suc, ◌+◌, Some, None, List, [], ◌∷◌, ◌++◌, take, map, refl, ap, subst}
use Rattle.std.proofs.lemmas.List.{take_more}
use Rattle.std.proofs.lemmas.Option.{slice_get_within, get_or_from_slice_get}

pub one_more : {X : Type 0} (xs : List X) (i : ℕ) (x : X) → slice_get xs i ≡ Some x → take (i + 1) xs ≡ take i xs ++ x ∷ []
one_more xs i x e = subst (λ y. take (i + 1) xs ≡ take i xs ++ y ∷ []) (get_or_from_slice_get xs i x x e) (take_more xs i x (slice_get_within xs i x e))

pub past_all : {X : Type 0} (xs : List X) (i : ℕ) → slice_get xs i ≡ None → take i xs ≡ xs
past_all [] zero e = refl
past_all [] (suc i) e = refl
past_all (x ∷ xs) zero e = absurd cc
past_all (x ∷ xs) (suc i) e = ap (λ l. x ∷ l) (past_all xs i e)

pub map-one : {X Y : Type 0} (f : X → Y) (xs : List X) (x : X) → map f (xs ++ x ∷ []) ≡ map f xs ++ f x ∷ []
map-one f [] x = refl
map-one f (y ∷ xs) x = ap (λ l. f y ∷ l) (map-one f xs x)
