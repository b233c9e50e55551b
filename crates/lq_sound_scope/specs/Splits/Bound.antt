-- Environments over names, and implications that speak of names which their environments bind, and of v.
use Rattle.std.specs.Prelude.{◌≡◌, ◌⊎◌, ℕ, Bool, true, false, ◌||◌, [], ◌∷◌, Some, None, All}
use Rattle.lq_refined_types.specs.Parts.Part.{Part, Parts}
use Rattle.lq_logic_predicates.specs.Sum.{same_symbol}
use Rattle.lq_logic_predicates.specs.declared.symbol.Symbol.{Symbol}
use Rattle.lq_logic_predicates.specs.declared.symbol.Symbol.TheVariants.{Value, Bound, Position}
use Rattle.lq_refined_types.specs.Types.Context.{Context, name, guard}
use Rattle.lq_refined_types.specs.Types.Operations.{symbol_of}
use Rattle.lq_refined_types.specs.Types.Refined.{Kind, Refined, Refineds, int_with, bool_with, unit_type, function, tuple_of, array_with, data_with, map_with, type_variable, none, more, erased}
use Rattle.lq_sound_values.specs.Runs.Closed.{names_in}
use Rattle.lq_refined_types.specs.Subtyping.Implication.{Origin, Implication}
use Rattle.lq_refined_types.specs.Subtyping.Splitting.{split}
use Rattle.lq_refined_types.specs.Subtyping.Subtype.{Setting, facts, with_guards}
use Rattle.lq_refined_templates.specs.Templates.Scopes.{Unknown, symbols_in}
use Rattle.lq_sound_values.specs.Inclusion.Symbols.{Symbols}
use Rattle.lq_sound_scope.specs.Scopes.Over.{InsideOver, IsWithin, Names, PartOver, PartsOver, TopOver, TypeOver, of_any_sort, with_sort}

-- the names of an environment, of whatever sort
abbrev pub names_of : Context → Names
names_of Γ = of_any_sort (names_in Γ)

-- and v at the sort of a kind
abbrev pub names_and_value : Context → Kind → Names
names_and_value Γ k = with_sort (names_of Γ) k Value

-- no function in the type names its argument, nor in the elements of a map
abbrev mutual
  pub HasNoBinders : Refined → Type 0
  HasNoBinders (int_with p) = Unit {0}
  HasNoBinders (bool_with p) = Unit {0}
  HasNoBinders unit_type = Unit {0}
  HasNoBinders (function None a b) = HasNoBinders a × HasNoBinders b
  HasNoBinders (function (Some x) a b) = ⊥
  HasNoBinders (tuple_of ts) = HaveNoBinders ts
  HasNoBinders (array_with e p) = HasNoBinders e
  HasNoBinders (data_with d ts m p) = HaveNoBinders ts
  HasNoBinders (map_with e p) = HasNoBinders e
  HasNoBinders (type_variable i) = Unit {0}

  pub HaveNoBinders : Refineds → Type 0
  HaveNoBinders none = Unit {0}
  HaveNoBinders (more t ts) = HasNoBinders t × HaveNoBinders ts

-- the names that functions in the type give to their arguments
abbrev mutual
  pub arguments_in : Refined → Symbols
  arguments_in (int_with p) y = false
  arguments_in (bool_with p) y = false
  arguments_in unit_type y = false
  arguments_in (function None a b) y = arguments_in a y || arguments_in b y
  arguments_in (function (Some x) a b) y = same_symbol (symbol_of x) y || (arguments_in a y || arguments_in b y)
  arguments_in (tuple_of ts) y = all_arguments_in ts y
  arguments_in (array_with e p) y = arguments_in e y
  arguments_in (data_with d ts m p) y = all_arguments_in ts y
  arguments_in (map_with e p) y = arguments_in e y
  arguments_in (type_variable i) y = false

  pub all_arguments_in : Refineds → Symbols
  all_arguments_in none y = false
  all_arguments_in (more t ts) y = arguments_in t y || all_arguments_in ts y

-- these and `#0`, `#1`, .., for a map's key, components and fields
abbrev pub is_position : Symbol → Bool
is_position Value = false
is_position (Bound x) = false
is_position (Position i) = true

abbrev pub with_positions : Symbols → Symbols
with_positions N y = N y || is_position y

-- the names that a subtyping may bind as it goes inside two types
abbrev pub names_between : Refined → Refined → Symbols
names_between l r = with_positions (λ y. arguments_in l y || arguments_in r y)

-- an environment with more entries: guards, and names of these
pub data Extends (X : Symbols) (Γ : Context) : Context → Type 0 where
  nothing_more : Extends X Γ Γ
  one_name : {Δ : Context} {x : Symbol} {t : Refined} → X x ≡ true → Extends X Γ Δ → Extends X Γ (name x t ∷ Δ)
  one_guard : {Δ : Context} {p : Part} → Extends X Γ Δ → Extends X Γ (guard p ∷ Δ)

module _ (P : Setting) (unknowns : ℕ → Unknown) where
  -- The top of each type of an environment, and each guard, speaks of the names before it, and what is inside the types of the names that are given.
  abbrev pub EntriesOver : Names → Context → Type 0
  EntriesOver N [] = Unit {0}
  EntriesOver N (name x t ∷ Γ) = InsideOver P.constructors unknowns N t × TopOver unknowns (names_of Γ) t × EntriesOver N Γ
  EntriesOver N (guard p ∷ Γ) = PartOver unknowns (names_of Γ) p × EntriesOver N Γ

  -- that of a constructor's field may speak of the fields behind it, so of all names
  abbrev pub IsEnvironment : Context → Type 0
  IsEnvironment Γ = EntriesOver (names_of Γ) Γ

  -- Its hypotheses are those of an environment, and it speaks of names that this binds, and of v at one sort.
  pub record IsBoundIn (Γ : Context) (k : Kind) (i : Implication) : Type 0 where
    pub are : i.hypotheses ≡ facts P Γ
    pub hypotheses : PartsOver unknowns (names_and_value Γ k) i.hypotheses
    pub left : PartsOver unknowns (names_and_value Γ k) i.left
    pub goal : PartOver unknowns (names_and_value Γ k) i.goal

  -- It is so in an environment with more entries, for names of these.
  abbrev pub IsBoundFrom : Symbols → Context → Implication → Type 0
  IsBoundFrom X Γ i = (Δ : Context) × ((k : Kind) × Extends X Γ Δ × IsBoundIn Δ k i)

  -- an implication of the subtyping of two types in an environment
  abbrev pub IsBound : Context → Refined → Refined → Implication → Type 0
  IsBound Γ l r i = IsBoundFrom (names_between l r) Γ i

-- In an environment over its names each implication of a subtyping is bound, where both types are over these names, have one simple type, and in
-- one of them no function names its argument. The scopes are those of the unknowns.
abbrev pub SplitsAreBound : Type 0
SplitsAreBound =
    (P : Setting) (unknowns : ℕ → Unknown) → ((u : ℕ) → P.scopes u ≡ symbols_in (unknowns u).0) → (o : Origin) (Γ : Context) (l r : Refined)
    → IsEnvironment P unknowns Γ → TypeOver P.constructors unknowns (names_of Γ) l → TypeOver P.constructors unknowns (names_of Γ) r
    → erased l ≡ erased r → HasNoBinders l ⊎ HasNoBinders r → All (IsBound P unknowns Γ l r) (split P o Γ l r)

-- The hypotheses of an environment over its names, with guards that speak of more names, speak of these.
abbrev pub HypothesesAreOver : Type 0
HypothesesAreOver =
    (P : Setting) (unknowns : ℕ → Unknown) → ((u : ℕ) → P.scopes u ≡ symbols_in (unknowns u).0) → (N : Symbols) (Γ : Context) (qs : Parts)
    → IsWithin (names_in Γ) N → IsEnvironment P unknowns Γ → PartsOver unknowns (of_any_sort N) qs
    → PartsOver unknowns (of_any_sort N) (facts P (with_guards qs Γ))
