-- The most that the sizes of constants sum to where readings are taken.
use Rattle.std.specs.Prelude.{◌+◌, ℕ, List, [], ◌∷◌, max, unsigned_abs}
use Rattle.lq_logic_rows.specs.Row.{Row}
use Rattle.lq_logic_predicates.specs.Reading.{Reading, yes, no, row, flag_is, objects_are, all_of, any_of, Readings, none, more}

-- The most that the sizes of the literals sum to that are taken with a reading: each of all of some readings, and of any of some readings one.
abbrev mutual
  pub most : {L : Type 0} → (L → ℕ) → Reading L → ℕ
  most size yes = 0
  most size no = 0
  most size (row l) = size l
  most size (flag_is x sign) = 0
  most size (objects_are a b sign) = 0
  most size (all_of rs) = most_of_all size rs
  most size (any_of rs) = most_of_any size rs

  pub most_of_all : {L : Type 0} → (L → ℕ) → Readings L → ℕ
  most_of_all size none = 0
  most_of_all size (more r rs) = most size r + most_of_all size rs

  pub most_of_any : {L : Type 0} → (L → ℕ) → Readings L → ℕ
  most_of_any size none = 0
  most_of_any size (more r rs) = max (most size r) (most_of_any size rs)

-- the size of a row's constant
abbrev pub row_size : Row → ℕ
row_size r = unsigned_abs r.constant

-- of each of some lists of readings one
abbrev pub most_of_each : List (Readings Row) → ℕ
most_of_each [] = 0
most_of_each (rs ∷ rss) = most_of_any row_size rs + most_of_each rss
