-- How large a refined type is.
use Rattle.std.specs.Prelude.{ℕ, suc, ◌+◌}
use Rattle.lq_refined_types.specs.Types.Refined.{Refined, int_with, bool_with, unit_type, function, tuple_of, array_with, data_with, map_with, type_variable, Refineds, none, more}

abbrev mutual
  pub size : Refined → ℕ
  size (int_with p) = 1
  size (bool_with p) = 1
  size unit_type = 1
  size (function x a b) = suc (size a + size b)
  size (tuple_of ts) = suc (row_size ts)
  size (array_with e p) = suc (size e)
  size (data_with d ts m p) = suc (row_size ts)
  size (map_with e p) = suc (size e)
  size (type_variable i) = 1

  pub row_size : Refineds → ℕ
  row_size none = 0
  row_size (more t ts) = suc (size t + row_size ts)
