-- Matrices and arguments of datatypes over names, under an assignment of instances that speak of what their unknowns may speak of.
use Rattle.std.specs.Prelude.{◌≡◌, ℕ, suc, false, List, []}
use Rattle.lq_logic_predicates.specs.declared.symbol.Symbol.TheVariants.{Position}
use Rattle.lq_refined_types.specs.Types.Refined.{Matrix, Refined, int_with, bool_with, unit_type, function, tuple_of, array_with, data_with, map_with, type_variable, Refineds, top, type_at}
use Rattle.lq_refined_types.specs.Types.Unfolding.{cell}
use Rattle.lq_refined_templates.specs.Points.Point.{Point}
use Rattle.lq_refined_templates.specs.Points.Templates.{Datatypes, basis_of}
use Rattle.lq_refined_types.specs.Subtyping.Subtype.{fields_of}
use Rattle.lq_text_tree.specs.Types.{Signature}
use Rattle.lq_sound_values.specs.Inhabitants.Truth.{Scene}
use Rattle.lq_sound_values.specs.Inclusion.Symbols.{Symbols, Lacks}
use Rattle.lq_sound_forms.specs.Fields.Fields.{AreEntriesSorted}
use Rattle.lq_refined_templates.specs.Templates.Scopes.{Unknown}
use Rattle.lq_sound_scope.specs.Scopes.Over.{AreSorted, CellsOver, TypesOver, of_any_sort}

-- the entries of a matrix speak of v and of the fields of their constructor, at their sorts
abbrev pub MatricesAreSorted : Type 0
MatricesAreSorted =
    (unknowns : ℕ → Unknown) (S : Scene) → AreSorted unknowns S.assignment → (d : ℕ) (ts : Refineds) (m : Matrix)
    → CellsOver S.setting.constructors unknowns d ts m → (c : ℕ) → AreEntriesSorted S d ts m c (fields_of (S.setting.constructors c))

-- the tops of types over names that are no positions don't speak of fields
abbrev pub ArgumentsLackFields : Type 0
ArgumentsLackFields =
    (constructors : Signature) (unknowns : ℕ → Unknown) (S : Scene) → AreSorted unknowns S.assignment → (N : Symbols)
    → ((j : ℕ) → N (Position (suc j)) ≡ false) → (ts : Refineds) → TypesOver constructors unknowns (of_any_sort N) ts
    → (i j : ℕ) → Lacks S.assignment (Position (suc j)) (top (type_at ts i))

-- of a datatype an argument that is a type variable has no entry in the matrix
abbrev pub HasNoVariableEntries : Refined → Type 0
HasNoVariableEntries (data_with d ts m p) = (c j i a : ℕ) → type_at ts i ≡ type_variable a → cell m c j i ≡ []
HasNoVariableEntries (int_with p) = Unit {0}
HasNoVariableEntries (bool_with p) = Unit {0}
HasNoVariableEntries unit_type = Unit {0}
HasNoVariableEntries (function x a b) = Unit {0}
HasNoVariableEntries (tuple_of ts) = Unit {0}
HasNoVariableEntries (array_with e p) = Unit {0}
HasNoVariableEntries (map_with e p) = Unit {0}
HasNoVariableEntries (type_variable i) = Unit {0}

-- so it is of the templates of points
abbrev pub VariablesHaveNoEntries : Type 0
VariablesHaveNoEntries = (D : Datatypes) (ps : List Point) (p : ℕ) → HasNoVariableEntries ((basis_of D ps).template p)
