-- Of which symbols parts and types speak, and at which sort, whatever is assigned to their unknowns.
use Rattle.std.specs.Prelude.{◌≡◌, ℕ, zero, suc, true, false, List, [], ◌∷◌, Option, Some, None}
use Rattle.lq_logic_predicates.specs.declared.symbol.Symbol.{Symbol}
use Rattle.lq_logic_predicates.specs.declared.symbol.Symbol.TheVariants.{Value, Position}
use Rattle.lq_refined_instances.specs.Scopes.{Scope}
use Rattle.lq_text_qualifiers.specs.Faults.Shapes.{Shape, int, bool, array, data_of}
use Rattle.lq_text_qualifiers.specs.Faults.Shapes as shape
use Rattle.lq_refined_types.specs.Parts.Assignment.{Assignment}
use Rattle.lq_refined_types.specs.Parts.Part.{Part, known, unknown, Parts}
use Rattle.lq_refined_types.specs.Parts.Substitution.{Subst, sum_at, flag_at}
use Rattle.lq_refined_types.specs.Types.Operations.{symbol_of}
use Rattle.lq_refined_types.specs.Types.Refined.{Cell, Matrix, Refined, int_with, bool_with, unit_type, function, tuple_of, array_with, data_with, map_with, type_variable, Refineds, none, more, Kind, number, truth_value, object, other, kind, top, type_at, all_erased}
use Rattle.lq_sound_values.specs.Inclusion.Symbols.{Symbols, with_symbol, SumOn}
use Rattle.lq_sound_values.specs.Runs.Closed.{SortedOn, EachSorted}
use Rattle.lq_refined_types.specs.Subtyping.Subtype.{fields_of}
use Rattle.lq_refined_templates.specs.Templates.Cells.{field_scope}
use Rattle.lq_refined_templates.specs.Templates.Scopes.{Unknown}
use Rattle.lq_text_tree.specs.Types.{Signature}

-- ---- symbols by their sorts

-- those that may be terms, and those that may be flags
pub record Names : Type 0 where
  pub terms : Symbols
  pub flags : Symbols

-- names of whatever sort
abbrev pub of_any_sort : Symbols → Names
of_any_sort N = record { terms = N; flags = N }

abbrev pub nothing : Names
nothing = of_any_sort (λ y. false)

-- each symbol of the first set is of the second
abbrev pub IsWithin : Symbols → Symbols → Type 0
IsWithin N M = (x : Symbol) → N x ≡ true → M x ≡ true

pub record AreWithin (N M : Names) : Type 0 where
  pub terms : IsWithin N.terms M.terms
  pub flags : IsWithin N.flags M.flags

-- one more, at the sort of its kind; no part speaks of one of another kind
abbrev pub with_sort : Names → Kind → Symbol → Names
with_sort N number x = record { terms = with_symbol N.terms x; flags = N.flags }
with_sort N truth_value x = record { terms = N.terms; flags = with_symbol N.flags x }
with_sort N object x = record { terms = with_symbol N.terms x; flags = N.flags }
with_sort N other x = N

-- with a function's name of its argument, where it has one
abbrev pub with_argument : Names → Option ℕ → Kind → Names
with_argument N None k = N
with_argument N (Some x) k = with_sort N k (symbol_of x)

-- ---- unknowns

abbrev pub kind_of : Shape → Kind
kind_of int = number
kind_of bool = truth_value
kind_of array = object
kind_of (data_of d) = object
kind_of shape.other = other

-- what stands for a symbol of a shape is of these names; predicates speak of none of another shape
abbrev pub SymbolOver : Names → Subst → Shape → Symbol → Type 0
SymbolOver N θ int x = SumOn N.terms (sum_at θ x)
SymbolOver N θ bool x = SortedOn N.terms N.flags (flag_at θ x)
SymbolOver N θ array x = SumOn N.terms (sum_at θ x)
SymbolOver N θ (data_of d) x = SumOn N.terms (sum_at θ x)
SymbolOver N θ shape.other x = Unit {0}

abbrev pub ScopeOver : Names → Subst → Scope → Type 0
ScopeOver N θ [] = Unit {0}
ScopeOver N θ (e ∷ Γ) = SymbolOver N θ e.1 e.0 × ScopeOver N θ Γ

-- the symbols of a scope, and with them v, at their sorts
abbrev pub scope_names : Scope → Names
scope_names [] = nothing
scope_names (e ∷ Γ) = with_sort (scope_names Γ) (kind_of e.1) e.0

abbrev pub unknown_names : Unknown → Names
unknown_names u = with_sort (scope_names u.0) (kind_of u.1) Value

-- an unknown by its number; past the last one there is nothing of which it may speak
abbrev pub unknown_in : List Unknown → ℕ → Unknown
unknown_in [] u = ([], shape.other)
unknown_in (x ∷ us) zero = x
unknown_in (x ∷ us) (suc u) = unknown_in us u

-- the instances of each unknown speak of the names of its scope and of v, at their sorts
abbrev pub AreSorted : (ℕ → Unknown) → Assignment → Type 0
AreSorted unknowns A = (u : ℕ) → let N = unknown_names (unknowns u) in EachSorted N.terms N.flags (A u)

-- ---- parts and types

module _ (unknowns : ℕ → Unknown) where
  -- The part speaks of these names alone: a predicate, and what stands in an unknown for v and for the symbols of its scope.
  abbrev pub PartOver : Names → Part → Type 0
  PartOver N (known p) = SortedOn N.terms N.flags p
  PartOver N (unknown u θ) = SymbolOver N θ (unknowns u).1 Value × ScopeOver N θ (unknowns u).0

  abbrev pub PartsOver : Names → Parts → Type 0
  PartsOver N [] = Unit {0}
  PartsOver N (q ∷ qs) = PartOver N q × PartsOver N qs

  -- the parts of the top speak of these and of v, at the sort of the type's kind
  abbrev pub TopOver : Names → Refined → Type 0
  TopOver N t = PartsOver (with_sort N (kind t) Value) (top t)

-- over what constructors stand for
module _ (constructors : Signature) (unknowns : ℕ → Unknown) where
  -- An entry of a matrix speaks of v, at the sort of the argument's kind, and of the fields of its constructor that aren't the datatype again.
  abbrev pub cell_names : ℕ → Refineds → Cell → Names
  cell_names d ts e =
      with_sort (scope_names (field_scope d (all_erased ts) 0 (fields_of (constructors e.constructor)) [])) (kind (type_at ts e.parameter)) Value

  abbrev pub CellsOver : ℕ → Refineds → Matrix → Type 0
  CellsOver d ts [] = Unit {0}
  CellsOver d ts (e ∷ m) = PartsOver unknowns (cell_names d ts e) e.parts × CellsOver d ts m

  -- What is inside the type speaks of these, of its functions' names of their arguments and of v, and the tops of components of the earlier
  -- `#1`, `#2`, .., those of a map's elements of its key `#0`.
  abbrev mutual
    pub InsideOver : Names → Refined → Type 0
    InsideOver N (int_with p) = Unit {0}
    InsideOver N (bool_with p) = Unit {0}
    InsideOver N unit_type = Unit {0}
    InsideOver N (function x a b) =
        InsideOver N a × TopOver unknowns N a × InsideOver (with_argument N x (kind a)) b × TopOver unknowns (with_argument N x (kind a)) b
    InsideOver N (tuple_of ts) = ComponentsOver N N 0 ts
    InsideOver N (array_with e p) = InsideOver N e × TopOver unknowns N e
    InsideOver N (data_with d ts m p) = TypesOver N ts × CellsOver d ts m
    InsideOver N (map_with e p) = InsideOver N e × TopOver unknowns (with_sort N number (Position 0)) e
    InsideOver N (type_variable i) = Unit {0}

    pub TypesOver : Names → Refineds → Type 0
    TypesOver N none = Unit {0}
    TypesOver N (more t ts) = InsideOver N t × TopOver unknowns N t × TypesOver N ts

    -- the components behind the first k: their tops speak of the second names
    pub ComponentsOver : Names → Names → ℕ → Refineds → Type 0
    ComponentsOver N M k none = Unit {0}
    ComponentsOver N M k (more t ts) =
        InsideOver N t × TopOver unknowns M t × ComponentsOver N (with_sort M (kind t) (Position (suc k))) (suc k) ts

  -- the type speaks of these names, of v, and of what it binds itself
  abbrev pub TypeOver : Names → Refined → Type 0
  TypeOver N t = InsideOver N t × TopOver unknowns N t
