-- What programs are asked for, well sorted by the kinds of their names.
use Rattle.std.specs.Prelude.{◌≡◌, ◌⊎◌, ℕ, Bool, true, false, ◌||◌, ◌&&◌, [], ◌∷◌}
use Rattle.lq_refined_rules.specs.Checks.Basis.{Basis}
use Rattle.lq_refined_rules.specs.Obligations.Obligation.{Asked, holds, fits, Obligation}
use Rattle.lq_refined_types.specs.Parts.Part.{Parts}
use Rattle.lq_logic_predicates.specs.Formula.{falsity}
use Rattle.lq_logic_predicates.specs.declared.symbol.Symbol.TheVariants.{Value, Bound, Position}
use Rattle.lq_refined_types.specs.Types.Context.{Context, name, guard}
use Rattle.lq_refined_types.specs.Types.Operations.{twin_of}
use Rattle.lq_refined_types.specs.Types.Refined.{Kind, number, truth_value, object, other, kind}
use Rattle.lq_refined_types.specs.Subtyping.Implication.{of_case}
use Rattle.lq_refined_types.specs.Subtyping.Subtype.{fields_of, with_guards}
use Rattle.lq_refined_templates.specs.Templates.Scopes.{Unknown}
use Rattle.lq_sound_scope.specs.Sorts.Equations.{with_fields}
use Rattle.lq_sound_scope.specs.Sorts.Sorts.{IsWellSorted, Sorts, is_one}
use Rattle.lq_sound_scope.specs.Sorts.Types.{PartSorted, PartsSorted, TypeSorted}
use Rattle.lq_sound_adequacy.specs.Obligations.Kinds.{NameKind}

-- ---- names by their kinds

abbrev pub is_other : Kind → Bool
is_other number = false
is_other truth_value = false
is_other object = false
is_other other = true

abbrev pub is_kind : Kind → Kind → Bool
is_kind k j = is_one k j || (is_other k && is_other j)

-- each name stands for values of its kind; v and positions stand for none
abbrev pub sorts_by : (ℕ → NameKind) → Sorts
sorts_by K k Value = false
sorts_by K k (Bound x) = is_kind (K x.0).0 k
sorts_by K k (Position i) = false

-- a twin is of the kind of its name
abbrev pub TwinsAlike : (ℕ → NameKind) → Type 0
TwinsAlike K = (x : ℕ) → K (twin_of x) ≡ K x

-- ---- obligations

module _ (P : Basis) (unknowns : ℕ → Unknown) (N : Sorts) where
  -- each name has the sort of its type, and the types and the guards are well sorted
  abbrev pub ContextSorted : Context → Type 0
  ContextSorted [] = Unit {0}
  ContextSorted (name x t ∷ Γ) = (N (kind t) x ≡ true) × TypeSorted P.setting.constructors unknowns N t × ContextSorted Γ
  ContextSorted (guard p ∷ Γ) = PartSorted unknowns N p × ContextSorted Γ

  abbrev pub AskedSorted : Asked → Type 0
  AskedSorted (holds p) = IsWellSorted N p
  AskedSorted (fits l r) = TypeSorted P.setting.constructors unknowns N l × TypeSorted P.setting.constructors unknowns N r

  pub record IsPlainlySorted (o : Obligation) : Type 0 where
    pub environment : ContextSorted o.context
    pub asked : AskedSorted o.asked

  -- That there is no value of a constructor: its equations, the last guards of the environment, speak of its fields by `#1`, `#2`, .. too.
  pub record IsSortedCase (o : Obligation) : Type 0 where
    pub reason : o.origin.reason ≡ of_case
    pub asked : o.asked ≡ holds falsity
    pub before : Context
    pub equations : Parts
    pub are : o.context ≡ with_guards equations before
    pub environment : ContextSorted before
    pub constructor : ℕ
    pub sorted : PartsSorted unknowns (with_fields N 0 (fields_of (P.setting.constructors constructor))) equations

  abbrev pub IsSortedObligation : Obligation → Type 0
  IsSortedObligation o = IsPlainlySorted o ⊎ IsSortedCase o
