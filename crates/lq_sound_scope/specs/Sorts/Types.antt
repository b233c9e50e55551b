-- Parts and types that are well sorted, whatever well sorted instances are assigned to their unknowns.
use Rattle.std.specs.Prelude.{ℕ, suc, [], ◌∷◌, Some, None}
use Rattle.lq_sound_scope.specs.Scopes.Over.{kind_of}
use Rattle.lq_refined_types.specs.Parts.Part.{Part, known, unknown, Parts}
use Rattle.lq_logic_predicates.specs.declared.symbol.Symbol.TheVariants.{Value, Position}
use Rattle.lq_refined_types.specs.Types.Refined.{Matrix, Refined, int_with, bool_with, unit_type, function, tuple_of, array_with, data_with, map_with, type_variable, Refineds, none, more, number, kind, top, all_erased}
use Rattle.lq_text_qualifiers.specs.Faults.Shapes.{shape_of}
use Rattle.lq_refined_types.specs.Subtyping.Subtype.{fields_of}
use Rattle.lq_refined_templates.specs.Templates.Cells.{field_scope}
use Rattle.lq_refined_templates.specs.Templates.Scopes.{Unknown}
use Rattle.lq_text_tree.specs.MlType.{MlTypes}
use Rattle.lq_text_tree.specs.Types.{Signature, type_at}
use Rattle.lq_sound_scope.specs.Sorts.Sorts.{HasName, IsWellSorted, ScopeStands, Sorts, StandsAt, scope_sorts, with_kind}

module _ (unknowns : ℕ → Unknown) where
  -- a predicate, or what stands in an unknown for v and for the symbols of its scope
  abbrev pub PartSorted : Sorts → Part → Type 0
  PartSorted N (known p) = IsWellSorted N p
  PartSorted N (unknown u θ) = StandsAt N θ (kind_of (unknowns u).1) Value × ScopeStands N θ (unknowns u).0

  abbrev pub PartsSorted : Sorts → Parts → Type 0
  PartsSorted N [] = Unit {0}
  PartsSorted N (q ∷ qs) = PartSorted N q × PartsSorted N qs

  -- the parts of the top, with v at the type's kind
  abbrev pub TopSorted : Sorts → Refined → Type 0
  TopSorted N t = PartsSorted (with_kind N (kind t) Value) (top t)

-- over what constructors stand for
module _ (constructors : Signature) (unknowns : ℕ → Unknown) where
  -- An entry of a matrix speaks of v, at the kind of its argument, and of the fields of its constructor that aren't the datatype again.
  abbrev pub cell_sorts : ℕ → MlTypes → ℕ → ℕ → Sorts
  cell_sorts d us c i = with_kind (scope_sorts (field_scope d us 0 (fields_of (constructors c)) [])) (kind_of (shape_of (type_at us i))) Value

  abbrev pub CellsSorted : ℕ → MlTypes → Matrix → Type 0
  CellsSorted d us [] = Unit {0}
  CellsSorted d us (e ∷ m) = PartsSorted unknowns (cell_sorts d us e.constructor e.parameter) e.parts × CellsSorted d us m

  -- What is inside the type, where a function's name of its argument has its sort there, the tops of components have the earlier ones as
  -- `#1`, `#2`, .., and those of a map's elements its key as `#0`.
  abbrev mutual
    pub InsideSorted : Sorts → Refined → Type 0
    InsideSorted N (int_with p) = Unit {0}
    InsideSorted N (bool_with p) = Unit {0}
    InsideSorted N unit_type = Unit {0}
    InsideSorted N (function None a b) = InsideSorted N a × TopSorted unknowns N a × InsideSorted N b × TopSorted unknowns N b
    InsideSorted N (function (Some x) a b) =
        HasName N (kind a) x × InsideSorted N a × TopSorted unknowns N a × InsideSorted N b × TopSorted unknowns N b
    InsideSorted N (tuple_of ts) = ComponentsSorted N N 0 ts
    InsideSorted N (array_with e p) = InsideSorted N e × TopSorted unknowns N e
    InsideSorted N (data_with d ts m p) = TypesSorted N ts × CellsSorted d (all_erased ts) m
    InsideSorted N (map_with e p) = InsideSorted N e × TopSorted unknowns (with_kind N number (Position 0)) e
    InsideSorted N (type_variable i) = Unit {0}

    pub TypesSorted : Sorts → Refineds → Type 0
    TypesSorted N none = Unit {0}
    TypesSorted N (more t ts) = InsideSorted N t × TopSorted unknowns N t × TypesSorted N ts

    -- the components behind the first k: their tops over the second sorts
    pub ComponentsSorted : Sorts → Sorts → ℕ → Refineds → Type 0
    ComponentsSorted N M k none = Unit {0}
    ComponentsSorted N M k (more t ts) =
        InsideSorted N t × TopSorted unknowns M t × ComponentsSorted N (with_kind M (kind t) (Position (suc k))) (suc k) ts

  abbrev pub TypeSorted : Sorts → Refined → Type 0
  TypeSorted N t = InsideSorted N t × TopSorted unknowns N t
