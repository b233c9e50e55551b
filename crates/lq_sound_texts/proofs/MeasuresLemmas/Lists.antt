-- Elements of lists, and the first thing of a name.
use Rattle.std.proofs.Common.{◌≡◌, inl, inr, ℕ, zero, suc, List, [], ◌∷◌, ◌++◌, map, length, Option, Some, None, slice_get, refl, sym, ap}
use Rattle.lq_sound_programs.specs.Safety.Scoped.{IsIn}

abbrev or_this : {X : Type 0} → X → Option X → X
or_this d None = d
or_this d (Some x) = x

pub same_some : {X : Type 0} (x y : X) → Some x ≡ Some y → x ≡ y
same_some x y e = ap (or_this x) e

-- an element of what is made of the elements of a list
pub got_map : {X Y : Type 0} (f : X → Y) (xs : List X) (i : ℕ) (y : Y) → slice_get (map f xs) i ≡ Some y → (x : X) × (slice_get xs i ≡ Some x) × (y ≡ f x)
got_map f [] i y e = absurd (let w = e in cc)
got_map f (x ∷ xs) zero y e = (x, refl, sym (same_some (f x) y e))
got_map f (x ∷ xs) (suc i) y e = got_map f xs i y e

-- an element of a first part
pub got_front : {X : Type 0} (xs ys : List X) (i : ℕ) (x : X) → slice_get xs i ≡ Some x → slice_get (xs ++ ys) i ≡ Some x
got_front [] ys i x e = absurd (let w = e in cc)
got_front (z ∷ xs) ys zero x e = e
got_front (z ∷ xs) ys (suc i) x e = got_front xs ys i x e

pub got_behind : {X : Type 0} (xs : List X) (y : X) (ys : List X) → slice_get (xs ++ y ∷ ys) (length xs) ≡ Some y
got_behind [] y ys = refl
got_behind (x ∷ xs) y ys = got_behind xs y ys

pub got_in : (xs : List ℕ) (i x : ℕ) → slice_get xs i ≡ Some x → IsIn xs x
got_in [] i x e = absurd (let w = e in cc)
got_in (y ∷ xs) zero x e = inl (same_some y x e)
got_in (y ∷ xs) (suc i) x e = inr (got_in xs i x e)
