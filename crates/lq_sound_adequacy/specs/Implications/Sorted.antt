-- Implications whose predicates are well sorted in their environments.
use Rattle.std.specs.Prelude.{◌≡◌, ◌⊎◌, ℕ, [], ◌∷◌, All}
use Rattle.lq_sound_scope.specs.Splits.Bound.{Extends, names_between}
use Rattle.lq_refined_rules.specs.Checks.Basis.{Basis}
use Rattle.lq_sound_values.specs.Inclusion.Symbols.{Symbols}
use Rattle.lq_refined_rules.specs.Obligations.Obligation.{Asked, holds, fits, Obligation, implications_in}
use Rattle.lq_refined_types.specs.Parts.Assignment.{Assignment, goal_under, parts_under}
use Rattle.lq_refined_types.specs.Parts.Part.{Parts, known}
use Rattle.lq_logic_predicates.specs.Formula.{falsity}
use Rattle.lq_logic_predicates.specs.declared.symbol.Symbol.TheVariants.{Value}
use Rattle.lq_refined_types.specs.Types.Context.{Context, name, guard}
use Rattle.lq_refined_types.specs.Types.Refined.{Kind, other, kind}
use Rattle.lq_refined_types.specs.Subtyping.Implication.{of_case, Implication}
use Rattle.lq_refined_types.specs.Subtyping.Subtype.{Setting, facts, fields_of, with_guards}
use Rattle.lq_refined_templates.specs.Templates.Scopes.{Unknown}
use Rattle.lq_sound_scope.specs.Sorts.Equations.{with_fields}
use Rattle.lq_sound_scope.specs.Sorts.Sorts.{AreWellSorted, IsWellSorted, Sorts, no_sorts, with_kind}
use Rattle.lq_sound_scope.specs.Sorts.Types.{PartSorted, PartsSorted}

-- the names of an environment, each at the kind of its type
abbrev pub sorts_of : Context → Sorts
sorts_of [] = no_sorts
sorts_of (name x t ∷ Γ) = with_kind (sorts_of Γ) (kind t) x
sorts_of (guard p ∷ Γ) = sorts_of Γ

-- and v at a kind
abbrev pub sorts_and_value : Context → Kind → Sorts
sorts_and_value Γ k = with_kind (sorts_of Γ) k Value

module _ (P : Setting) (unknowns : ℕ → Unknown) where
  -- Its hypotheses are those of an environment, and it is well sorted over the names that this binds, each at the kind of its type, and v at one kind.
  pub record IsSortedIn (Γ : Context) (k : Kind) (i : Implication) : Type 0 where
    pub are : i.hypotheses ≡ facts P Γ
    pub hypotheses : PartsSorted unknowns (sorts_and_value Γ k) i.hypotheses
    pub left : PartsSorted unknowns (sorts_and_value Γ k) i.left
    pub goal : PartSorted unknowns (sorts_and_value Γ k) i.goal

  -- It is so in an environment with more entries, for names of these.
  abbrev pub IsSortedFrom : Symbols → Context → Implication → Type 0
  IsSortedFrom X Γ i = (Δ : Context) × ((k : Kind) × Extends X Γ Δ × IsSortedIn Δ k i)

  -- That there is no value of a constructor: the hypotheses speak of its fields too, as `#1`, `#2`, ..
  pub record IsSortedCaseIn (Γ : Context) (i : Implication) : Type 0 where
    pub reason : i.origin.reason ≡ of_case
    pub are : i.hypotheses ≡ facts P Γ
    pub before : Context
    pub equations : Parts
    pub is : Γ ≡ with_guards equations before
    pub constructor : ℕ
    pub hypotheses : PartsSorted unknowns (with_fields (sorts_of before) 0 (fields_of (P.constructors constructor))) i.hypotheses
    pub left : i.left ≡ []
    pub goal : i.goal ≡ known falsity

  -- An implication of what is asked for: that of a demand is in its environment, and one of a subtyping in that with more entries.
  abbrev pub IsSortedOf : Context → Asked → Implication → Type 0
  IsSortedOf Γ (holds p) i = IsSortedIn Γ other i ⊎ IsSortedCaseIn Γ i
  IsSortedOf Γ (fits l r) i = IsSortedFrom (names_between l r) Γ i

-- all implications of an obligation
abbrev pub AreImplicationsSorted : Basis → (ℕ → Unknown) → Obligation → Type 0
AreImplicationsSorted P unknowns o = All (IsSortedOf P.setting unknowns o.context o.asked) (implications_in P o)

-- the predicates of an implication under an assignment
pub record ArePredicatesSorted (A : Assignment) (N : Sorts) (i : Implication) : Type 0 where
  pub hypotheses : AreWellSorted N (parts_under A i.hypotheses)
  pub left : AreWellSorted N (parts_under A i.left)
  pub goal : IsWellSorted N (goal_under A i.goal)
