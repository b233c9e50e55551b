-- Which type variables a type has, which names its functions have for their arguments, and over which symbols a list of types is.
use Rattle.std.specs.Prelude.{◌≡◌, ℕ, ◌<◌, false, Some, None}
use Rattle.lq_refined_types.specs.Parts.Assignment.{Assignment}
use Rattle.lq_refined_types.specs.Types.Operations.{symbol_of}
use Rattle.lq_refined_types.specs.Types.Refined.{Refined, Refineds, int_with, bool_with, unit_type, function, tuple_of, array_with, data_with, map_with, type_variable, none, more}
use Rattle.lq_sound_values.specs.Inclusion.Symbols.{Symbols, TypeOn}

-- no type variable stands in the type
abbrev mutual
  pub HasNoVariables : Refined → Type 0
  HasNoVariables (int_with p) = Unit {0}
  HasNoVariables (bool_with p) = Unit {0}
  HasNoVariables unit_type = Unit {0}
  HasNoVariables (function x a b) = HasNoVariables a × HasNoVariables b
  HasNoVariables (tuple_of ts) = HaveNoVariables ts
  HasNoVariables (array_with e p) = HasNoVariables e
  HasNoVariables (data_with d ts m p) = HaveNoVariables ts
  HasNoVariables (map_with e p) = HasNoVariables e
  HasNoVariables (type_variable i) = ⊥

  pub HaveNoVariables : Refineds → Type 0
  HaveNoVariables none = Unit {0}
  HaveNoVariables (more t ts) = HasNoVariables t × HaveNoVariables ts

-- each type variable in the type is one of the first n
abbrev mutual
  pub HasVariablesBelow : ℕ → Refined → Type 0
  HasVariablesBelow n (int_with p) = Unit {0}
  HasVariablesBelow n (bool_with p) = Unit {0}
  HasVariablesBelow n unit_type = Unit {0}
  HasVariablesBelow n (function x a b) = HasVariablesBelow n a × HasVariablesBelow n b
  HasVariablesBelow n (tuple_of ts) = HaveVariablesBelow n ts
  HasVariablesBelow n (array_with e p) = HasVariablesBelow n e
  HasVariablesBelow n (data_with d ts m p) = HaveVariablesBelow n ts
  HasVariablesBelow n (map_with e p) = HasVariablesBelow n e
  HasVariablesBelow n (type_variable i) = i < n

  pub HaveVariablesBelow : ℕ → Refineds → Type 0
  HaveVariablesBelow n none = Unit {0}
  HaveVariablesBelow n (more t ts) = HasVariablesBelow n t × HaveVariablesBelow n ts

-- no function in the type names its argument by one of these; no value is a map yet
abbrev mutual
  pub NamesOutside : Symbols → Refined → Type 0
  NamesOutside P (int_with p) = Unit {0}
  NamesOutside P (bool_with p) = Unit {0}
  NamesOutside P unit_type = Unit {0}
  NamesOutside P (function None a b) = NamesOutside P a × NamesOutside P b
  NamesOutside P (function (Some x) a b) = (P (symbol_of x) ≡ false) × NamesOutside P a × NamesOutside P b
  NamesOutside P (tuple_of ts) = AllNamesOutside P ts
  NamesOutside P (array_with e p) = NamesOutside P e
  NamesOutside P (data_with d ts m p) = AllNamesOutside P ts
  NamesOutside P (map_with e p) = Unit {0}
  NamesOutside P (type_variable i) = Unit {0}

  pub AllNamesOutside : Symbols → Refineds → Type 0
  AllNamesOutside P none = Unit {0}
  AllNamesOutside P (more t ts) = NamesOutside P t × AllNamesOutside P ts

-- each type of the list is over these symbols
abbrev pub AllTypesOn : Assignment → Refineds → Symbols → Type 0
AllTypesOn A none P = Unit {0}
AllTypesOn A (more t ts) P = TypeOn A t P × AllTypesOn A ts P
