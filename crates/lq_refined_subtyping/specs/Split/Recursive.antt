-- When a field without refinements is the datatype again.
use Rattle.std.specs.Prelude.{ℕ, suc, Bool, true, false, ◌&&◌, ◌==◌}
use Rattle.lq_refined_types.specs.Types.Refined.{Refined, int_with, bool_with, unit_type, function, tuple_of, array_with, data_with, map_with, type_variable, Refineds, none, more, count}

abbrev pub is_variable : ℕ → Refined → Bool
is_variable i (int_with p) = false
is_variable i (bool_with p) = false
is_variable i unit_type = false
is_variable i (function x a b) = false
is_variable i (tuple_of ts) = false
is_variable i (array_with e p) = false
is_variable i (data_with d ts m p) = false
is_variable i (map_with e p) = false
is_variable i (type_variable j) = i == j

-- the variables from this one on
abbrev pub are_variables : ℕ → Refineds → Bool
are_variables i none = true
are_variables i (more t ts) = is_variable i t && are_variables (suc i) ts

-- the datatype with so many parameters, which are the variables in their order
abbrev pub again : ℕ → ℕ → Refined → Bool
again d n (int_with p) = false
again d n (bool_with p) = false
again d n unit_type = false
again d n (function x a b) = false
again d n (tuple_of ts) = false
again d n (array_with e p) = false
again d n (data_with e ts m p) = d == e && (count ts == n && are_variables 0 ts)
again d n (map_with e p) = false
again d n (type_variable i) = false
