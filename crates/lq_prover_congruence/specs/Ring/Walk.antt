-- What is left of a walk round a ring.
use Rattle.std.specs.Prelude.{◌≡◌, ℕ, zero, suc, ◌<◌, List, [], ◌∷◌, length, slice_index, eqb, cond, Option, Some, None}
use Rattle.lq_prover_congruence.specs.Ring.Ring.{Meets, times}

-- the indexes from one on until `first` comes next, at most so many
abbrev pub until : ℕ → List ℕ → ℕ → ℕ → List ℕ
until zero next first at = []
until (suc most) next first at =
    at ∷ cond (eqb (slice_index next at) first) [] (until most next first (slice_index next at))

abbrev pub left_of : List ℕ → ℕ → Option ℕ → List ℕ
left_of next first None = []
left_of next first (Some at) = until (length next) next first at

-- from here the walk meets these as well, and then stands at `first` for the first time
pub record IsLeft (next : List ℕ) (first : ℕ) (at : ℕ) (xs : List ℕ) : Type 0 where
  pub meets : Meets next at (at ∷ xs) first
  pub never : times first xs ≡ 0
  pub few : length xs < length next

abbrev pub IsWalk : List ℕ → ℕ → Option ℕ → Type 0
IsWalk next first None = Unit {0}
IsWalk next first (Some at) = (xs : List ℕ) × IsLeft next first at xs
