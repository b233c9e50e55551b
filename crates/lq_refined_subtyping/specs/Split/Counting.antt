-- How many implications a type makes where it stands on the right of a subtyping, and where it stands on the left.
use Rattle.std.specs.Prelude.{ℕ, suc, ◌+◌, cond, [], ◌∷◌}
use Rattle.lq_refined_types.specs.Parts.Part.{Parts, is_truth}
use Rattle.lq_refined_types.specs.Types.Refined.{Matrix, Refined, int_with, bool_with, unit_type, function, tuple_of, array_with, data_with, map_with, type_variable, Refineds, none, more}

-- the parts that aren't written `true`
abbrev pub asked : Parts → ℕ
asked [] = 0
asked (q ∷ qs) = cond (is_truth q) (asked qs) (suc (asked qs))

abbrev pub cells_asked : Matrix → ℕ
cells_asked [] = 0
cells_asked (e ∷ m) = asked e.parts + cells_asked m

abbrev mutual
  pub on_right : Refined → ℕ
  on_right (int_with p) = asked p
  on_right (bool_with p) = asked p
  on_right unit_type = 0
  on_right (function x a b) = on_left a + on_right b
  on_right (tuple_of ts) = all_on_right ts
  on_right (array_with e p) = asked p + (on_right e + on_left e)
  on_right (data_with d ts m p) = asked p + (all_on_right ts + cells_asked m)
  on_right (map_with e p) = asked p + on_right e
  on_right (type_variable i) = 0

  pub on_left : Refined → ℕ
  on_left (int_with p) = 0
  on_left (bool_with p) = 0
  on_left unit_type = 0
  on_left (function x a b) = on_right a + on_left b
  on_left (tuple_of ts) = all_on_left ts
  on_left (array_with e p) = on_left e + on_right e
  on_left (data_with d ts m p) = all_on_left ts
  on_left (map_with e p) = on_left e
  on_left (type_variable i) = 0

  pub all_on_right : Refineds → ℕ
  all_on_right none = 0
  all_on_right (more t ts) = on_right t + all_on_right ts

  pub all_on_left : Refineds → ℕ
  all_on_left none = 0
  all_on_left (more t ts) = on_left t + all_on_left ts
