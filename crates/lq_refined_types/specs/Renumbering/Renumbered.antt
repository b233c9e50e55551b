-- Refined types whose unknowns have other numbers.
use Rattle.std.specs.Prelude.{ℕ, ◌+◌, [], ◌∷◌}
use Rattle.lq_refined_types.specs.Parts.Part.{Part, Parts, known, unknown}
use Rattle.lq_refined_types.specs.Types.Refined.{Cell, Matrix, Refined, int_with, bool_with, unit_type, function, tuple_of, array_with, data_with, map_with, type_variable, Refineds, none, more}

-- a part whose unknown has a number that is greater by n
abbrev pub part_renumbered : ℕ → Part → Part
part_renumbered n (known p) = known p
part_renumbered n (unknown u θ) = unknown (n + u) θ

abbrev pub parts_renumbered : ℕ → Parts → Parts
parts_renumbered n [] = []
parts_renumbered n (p ∷ ps) = part_renumbered n p ∷ parts_renumbered n ps

abbrev pub cell_renumbered : ℕ → Cell → Cell
cell_renumbered n c = record { constructor = c.constructor; field = c.field; parameter = c.parameter; parts = parts_renumbered n c.parts }

abbrev pub matrix_renumbered : ℕ → Matrix → Matrix
matrix_renumbered n [] = []
matrix_renumbered n (c ∷ cs) = cell_renumbered n c ∷ matrix_renumbered n cs

abbrev mutual
  pub renumbered : ℕ → Refined → Refined
  renumbered n (int_with p) = int_with (parts_renumbered n p)
  renumbered n (bool_with p) = bool_with (parts_renumbered n p)
  renumbered n unit_type = unit_type
  renumbered n (function x a b) = function x (renumbered n a) (renumbered n b)
  renumbered n (tuple_of ts) = tuple_of (all_renumbered n ts)
  renumbered n (array_with e p) = array_with (renumbered n e) (parts_renumbered n p)
  renumbered n (data_with d ts m p) = data_with d (all_renumbered n ts) (matrix_renumbered n m) (parts_renumbered n p)
  renumbered n (map_with e p) = map_with (renumbered n e) (parts_renumbered n p)
  renumbered n (type_variable i) = type_variable i

  pub all_renumbered : ℕ → Refineds → Refineds
  all_renumbered n none = none
  all_renumbered n (more t ts) = more (renumbered n t) (all_renumbered n ts)
