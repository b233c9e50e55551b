-- What is done to a refined type.
use Rattle.std.specs.Prelude.{ℕ, List, [], slice_get, Option, Some, None}
use Rattle.lq_refined_types.specs.Parts.Part.{Parts, Scopes, parts_by}
use Rattle.lq_refined_types.specs.Types.Operations.{type_by, types_by, twin, twins, instantiated, all_instantiated}
use Rattle.lq_refined_types.specs.Types.Refined.{Matrix, Refined, int_with, bool_with, unit_type, function, tuple_of, array_with, data_with, map_with, type_variable, Refineds}
use Rattle.lq_refined_types.specs.Renumbering.Renumbered.{renumbered, all_renumbered, parts_renumbered, matrix_renumbered}
use Rattle.lq_refined_substitution.specs.Substitution.Views.{subst_view}
use Rattle.lq_refined_subtyping.specs.declared.table.changes.Change.{Change}
use Rattle.lq_refined_subtyping.specs.declared.table.changes.Change.TheVariants.{Put, Twin, Twinned, Instantiated, Renumbered}
use Rattle.lq_refined_subtyping.specs.Table.Forms.{each}

abbrev pub changed : Scopes → List Refined → Change → Refined → Refined
changed scopes all (Put θ) t = type_by scopes (subst_view θ) t
changed scopes all Twin t = twin scopes t
changed scopes all (Twinned θ) t = type_by scopes (subst_view θ) (twin scopes t)
changed scopes all (Instantiated by) t = instantiated (each all by.items) t
changed scopes all (Renumbered n) t = renumbered n t

abbrev pub all_changed : Scopes → List Refined → Change → Refineds → Refineds
all_changed scopes all (Put θ) ts = types_by scopes (subst_view θ) ts
all_changed scopes all Twin ts = twins scopes ts
all_changed scopes all (Twinned θ) ts = types_by scopes (subst_view θ) (twins scopes ts)
all_changed scopes all (Instantiated by) ts = all_instantiated (each all by.items) ts
all_changed scopes all (Renumbered n) ts = all_renumbered n ts

-- to the parts at the top
abbrev pub parts_changed : Scopes → Change → Parts → Parts
parts_changed scopes (Put θ) p = parts_by scopes (subst_view θ) p
parts_changed scopes Twin p = p
parts_changed scopes (Twinned θ) p = parts_by scopes (subst_view θ) p
parts_changed scopes (Instantiated by) p = p
parts_changed scopes (Renumbered n) p = parts_renumbered n p

-- to the matrix of a datatype
abbrev pub matrix_changed : Change → Matrix → Matrix
matrix_changed (Put θ) m = m
matrix_changed Twin m = m
matrix_changed (Twinned θ) m = m
matrix_changed (Instantiated by) m = m
matrix_changed (Renumbered n) m = matrix_renumbered n m

abbrev pub change_rows : Change → List ℕ
change_rows (Put θ) = []
change_rows Twin = []
change_rows (Twinned θ) = []
change_rows (Instantiated by) = by.items
change_rows (Renumbered n) = []

-- the variable that a type is
abbrev pub variable_of : Refined → Option ℕ
variable_of (int_with p) = None
variable_of (bool_with p) = None
variable_of unit_type = None
variable_of (function x a b) = None
variable_of (tuple_of ts) = None
variable_of (array_with e p) = None
variable_of (data_with d ts m p) = None
variable_of (map_with e p) = None
variable_of (type_variable i) = Some i

abbrev pub number_in : List ℕ → Option ℕ → Option ℕ
number_in by None = None
number_in by (Some i) = slice_get by i

-- the number of the type that is put for a type that is a variable
abbrev pub replaced : Change → Refined → Option ℕ
replaced (Put θ) t = None
replaced Twin t = None
replaced (Twinned θ) t = None
replaced (Instantiated by) t = number_in by.items (variable_of t)
replaced (Renumbered n) t = None
