-- Types whose parts inside are over names in scope, and when their subtypings are apart.
use Rattle.std.specs.Prelude.{◌≡◌, ◌⊎◌, ℕ, suc, false, Some, None}
use Rattle.lq_logic_predicates.specs.declared.symbol.Symbol.TheVariants.{Position}
use Rattle.lq_refined_types.specs.Types.Context.{Context}
use Rattle.lq_refined_types.specs.Types.Operations.{symbol_of}
use Rattle.lq_refined_types.specs.Types.Refined.{Refined, Refineds, int_with, bool_with, unit_type, function, tuple_of, array_with, data_with, map_with, type_variable, none, more}
use Rattle.lq_refined_types.specs.Subtyping.Subtype.{IsSubtype}
use Rattle.lq_sound_values.specs.Inhabitants.Truth.{Scene}
use Rattle.lq_sound_values.specs.Inclusion.Apart.{Apart, CellsOn}
use Rattle.lq_sound_values.specs.Inclusion.Laws.{IsScene}
use Rattle.lq_sound_values.specs.Inclusion.Symbols.{Symbols, with_symbol}
use Rattle.lq_sound_values.specs.Runs.Closed.{names_in, IsTypeOver, IsClosed}

-- no component or field is among these symbols
abbrev pub HasNoPositions : Symbols → Type 0
HasNoPositions P = (k : ℕ) → P (Position k) ≡ false

-- Each type inside speaks of these symbols and, in a result, of the name of the argument, which is none of them; v has the sort of its kind.
-- The tops of components speak of earlier components too, and entries of matrices of v and of fields, which are none of these symbols.
abbrev mutual
  pub IsInScope : Scene → Symbols → Refined → Type 0
  IsInScope S P (int_with p) = Unit {0}
  IsInScope S P (bool_with p) = Unit {0}
  IsInScope S P unit_type = Unit {0}
  IsInScope S P (function None a b) = IsTypeOver S P a × IsInScope S P a × IsTypeOver S P b × IsInScope S P b
  IsInScope S P (function (Some x) a b) =
      (P (symbol_of x) ≡ false) × IsTypeOver S P a × IsInScope S P a × IsTypeOver S (with_symbol P (symbol_of x)) b
      × IsInScope S (with_symbol P (symbol_of x)) b
  IsInScope S P (tuple_of ts) = HasNoPositions P × ComponentsInScope S P P 0 ts
  IsInScope S P (array_with e p) = IsTypeOver S P e × IsInScope S P e
  IsInScope S P (data_with d ts m p) = HasNoPositions P × ArgumentsInScope S P ts × CellsOn S m
  IsInScope S P (map_with e p) = Unit {0}
  IsInScope S P (type_variable i) = Unit {0}

  -- the components behind the first k: the second symbols are the first with these
  pub ComponentsInScope : Scene → Symbols → Symbols → ℕ → Refineds → Type 0
  ComponentsInScope S P Q k none = Unit {0}
  ComponentsInScope S P Q k (more t ts) =
      IsTypeOver S Q t × IsInScope S P t × ComponentsInScope S P (with_symbol Q (Position (suc k))) (suc k) ts

  pub ArgumentsInScope : Scene → Symbols → Refineds → Type 0
  ArgumentsInScope S P none = Unit {0}
  ArgumentsInScope S P (more t ts) = IsTypeOver S P t × IsInScope S P t × ArgumentsInScope S P ts

-- no function in the type names its argument
abbrev mutual
  pub HasNoNames : Refined → Type 0
  HasNoNames (int_with p) = Unit {0}
  HasNoNames (bool_with p) = Unit {0}
  HasNoNames unit_type = Unit {0}
  HasNoNames (function None a b) = HasNoNames a × HasNoNames b
  HasNoNames (function (Some x) a b) = ⊥
  HasNoNames (tuple_of ts) = HaveNoNames ts
  HasNoNames (array_with e p) = HasNoNames e
  HasNoNames (data_with d ts m p) = HaveNoNames ts
  HasNoNames (map_with e p) = Unit {0}
  HasNoNames (type_variable i) = Unit {0}

  pub HaveNoNames : Refineds → Type 0
  HaveNoNames none = Unit {0}
  HaveNoNames (more t ts) = HasNoNames t × HaveNoNames ts

-- In a closed environment each subtyping of two types in scope, one of which has no names of arguments, is apart.
abbrev pub SubtypesAreApart : Type 0
SubtypesAreApart =
    (S : Scene) → IsScene S → (Γ : Context) (l r : Refined) → IsClosed S Γ → IsTypeOver S (names_in Γ) l → IsInScope S (names_in Γ) l
    → IsTypeOver S (names_in Γ) r → IsInScope S (names_in Γ) r → HasNoNames l ⊎ HasNoNames r
    → (d : IsSubtype S.setting S.assignment Γ l r) → Apart S d
