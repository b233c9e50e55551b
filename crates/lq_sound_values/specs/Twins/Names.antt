-- The names that functions in a type have for their arguments: that they and their twins are new, and what is put for a name beside them.
use Rattle.std.specs.Prelude.{◌≡◌, ◌⊎◌, ℕ, pos, false, Some, None}
use Rattle.lq_logic_predicates.specs.declared.symbol.Symbol.{Symbol}
use Rattle.lq_refined_types.specs.Parts.Assignment.{Assignment}
use Rattle.lq_refined_types.specs.Parts.Substitution.{Atom, of_sum, of_formula}
use Rattle.lq_refined_types.specs.Types.Operations.{symbol_of, twin_of}
use Rattle.lq_refined_types.specs.Types.Refined.{Refined, Refineds, int_with, bool_with, unit_type, function, tuple_of, array_with, data_with, map_with, type_variable, none, more, Kind, number, truth_value, object, other, kind}
use Rattle.lq_sound_values.specs.Inhabitants.Truth.{Givens, value_at, as_number, as_flag, as_object, Objects}
use Rattle.lq_sound_values.specs.Inclusion.Symbols.{Symbols, with_symbol, SumOn, FormulaOn, TypeOn}

abbrev pub AtomOn : Symbols → Atom → Type 0
AtomOn P (of_sum t) = SumOn P t
AtomOn P (of_formula p) = FormulaOn P p

abbrev pub IsNoVariable : Refined → Type 0
IsNoVariable (int_with p) = Unit {0}
IsNoVariable (bool_with p) = Unit {0}
IsNoVariable unit_type = Unit {0}
IsNoVariable (function x a b) = Unit {0}
IsNoVariable (tuple_of ts) = Unit {0}
IsNoVariable (array_with e p) = Unit {0}
IsNoVariable (data_with d ts m p) = Unit {0}
IsNoVariable (map_with e p) = Unit {0}
IsNoVariable (type_variable i) = ⊥

-- these, a name and its twin
abbrev pub with_twins : Symbols → ℕ → Symbols
with_twins P x = with_symbol (with_symbol P (symbol_of x)) (symbol_of (twin_of x))

-- Each such name and its twin are none of these symbols nor of those further out. The argument that it stands for is of no variable type, or
-- else the result doesn't speak of it.
abbrev mutual
  pub NamesApart : Assignment → Symbols → Refined → Type 0
  NamesApart A P (int_with p) = Unit {0}
  NamesApart A P (bool_with p) = Unit {0}
  NamesApart A P unit_type = Unit {0}
  NamesApart A P (function None a b) = NamesApart A P a × NamesApart A P b
  NamesApart A P (function (Some x) a b) =
      (P (symbol_of x) ≡ false) × (P (symbol_of (twin_of x)) ≡ false) × (IsNoVariable a ⊎ TypeOn A b P) × NamesApart A P a
      × NamesApart A (with_twins P x) b
  NamesApart A P (tuple_of ts) = AllNamesApart A P ts
  NamesApart A P (array_with e p) = NamesApart A P e
  NamesApart A P (data_with d ts m p) = AllNamesApart A P ts
  NamesApart A P (map_with e p) = Unit {0}
  NamesApart A P (type_variable i) = Unit {0}

  pub AllNamesApart : Assignment → Symbols → Refineds → Type 0
  AllNamesApart A P none = Unit {0}
  AllNamesApart A P (more t ts) = NamesApart A P t × AllNamesApart A P ts

-- the twin of each such name is none of these symbols
abbrev mutual
  pub TwinsOutside : Symbols → Refined → Type 0
  TwinsOutside P (int_with p) = Unit {0}
  TwinsOutside P (bool_with p) = Unit {0}
  TwinsOutside P unit_type = Unit {0}
  TwinsOutside P (function None a b) = TwinsOutside P a × TwinsOutside P b
  TwinsOutside P (function (Some x) a b) = (P (symbol_of (twin_of x)) ≡ false) × TwinsOutside P a × TwinsOutside P b
  TwinsOutside P (tuple_of ts) = AllTwinsOutside P ts
  TwinsOutside P (array_with e p) = TwinsOutside P e
  TwinsOutside P (data_with d ts m p) = AllTwinsOutside P ts
  TwinsOutside P (map_with e p) = Unit {0}
  TwinsOutside P (type_variable i) = Unit {0}

  pub AllTwinsOutside : Symbols → Refineds → Type 0
  AllTwinsOutside P none = Unit {0}
  AllTwinsOutside P (more t ts) = TwinsOutside P t × AllTwinsOutside P ts

-- a symbol has no value of another sort than the kind's
abbrev pub IsNeutralAt : Objects → Givens → Kind → Symbol → Type 0
IsNeutralAt O σ number x = as_flag (value_at σ x) ≡ false
IsNeutralAt O σ truth_value x = (as_number (value_at σ x) ≡ pos 0) × (as_object O (value_at σ x) ≡ 0)
IsNeutralAt O σ object x = as_flag (value_at σ x) ≡ false
IsNeutralAt O σ other x = as_flag (value_at σ x) ≡ false

-- each such name of an argument of no variable type has no value of another sort than the argument's, and each twin none
abbrev mutual
  pub IsNeutral : Objects → Givens → Refined → Type 0
  IsNeutral O σ (int_with p) = Unit {0}
  IsNeutral O σ (bool_with p) = Unit {0}
  IsNeutral O σ unit_type = Unit {0}
  IsNeutral O σ (function None a b) = IsNeutral O σ a × IsNeutral O σ b
  IsNeutral O σ (function (Some x) a b) =
      (IsNoVariable a → IsNeutralAt O σ (kind a) (symbol_of x)) × (value_at σ (symbol_of (twin_of x)) ≡ None) × IsNeutral O σ a
      × IsNeutral O σ b
  IsNeutral O σ (tuple_of ts) = AreNeutral O σ ts
  IsNeutral O σ (array_with e p) = IsNeutral O σ e
  IsNeutral O σ (data_with d ts m p) = AreNeutral O σ ts
  IsNeutral O σ (map_with e p) = Unit {0}
  IsNeutral O σ (type_variable i) = Unit {0}

  pub AreNeutral : Objects → Givens → Refineds → Type 0
  AreNeutral O σ none = Unit {0}
  AreNeutral O σ (more t ts) = IsNeutral O σ t × AreNeutral O σ ts
