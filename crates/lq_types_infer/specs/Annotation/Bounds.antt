-- The number past the last variable of a type.
use Rattle.std.specs.Prelude.{ℕ, suc, max, List, [], ◌∷◌}
use Rattle.lq_text_tree.specs.MlType as ml
use Rattle.lq_text_tree.specs.MlType.{MlType, MlTypes}

abbrev mutual
  pub bound_of : MlType → ℕ
  bound_of ml.int = 0
  bound_of ml.bool = 0
  bound_of ml.unit = 0
  bound_of (ml.var v) = suc v
  bound_of (ml.arrow a b) = max (bound_of a) (bound_of b)
  bound_of (ml.tuple ts) = bound_of_all ts
  bound_of (ml.array a) = bound_of a
  bound_of (ml.named d ts) = bound_of_all ts
  bound_of (ml.map_of a) = bound_of a

  pub bound_of_all : MlTypes → ℕ
  bound_of_all ml.no_types = 0
  bound_of_all (ml.more_types t ts) = max (bound_of t) (bound_of_all ts)

-- what a variable itself has, and nothing else
abbrev pub own_bound : MlType → ℕ
own_bound ml.int = 0
own_bound ml.bool = 0
own_bound ml.unit = 0
own_bound (ml.var v) = suc v
own_bound (ml.arrow a b) = 0
own_bound (ml.tuple ts) = 0
own_bound (ml.array a) = 0
own_bound (ml.named d ts) = 0
own_bound (ml.map_of a) = 0

abbrev pub largest : (ℕ → ℕ) → List ℕ → ℕ
largest f [] = 0
largest f (x ∷ xs) = max (f x) (largest f xs)
