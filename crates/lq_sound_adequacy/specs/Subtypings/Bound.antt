-- Obligations and implications that speak of names which their environments bind.
use Rattle.std.specs.Prelude.{◌≡◌, ◌⊎◌, ℕ, ◌<◌, ◌^◌, [], ◌∷◌, All}
use Rattle.lq_refined_types.specs.Parts.Part.{Parts, known}
use Rattle.lq_logic_predicates.specs.Formula.{falsity}
use Rattle.lq_logic_predicates.specs.declared.symbol.Symbol.{Symbol}
use Rattle.lq_logic_predicates.specs.declared.symbol.Symbol.TheVariants.{Value, Bound, Position}
use Rattle.lq_refined_types.specs.Types.Context.{Context, IsNew, guard, name}
use Rattle.lq_refined_types.specs.Types.Refined.{other}
use Rattle.lq_sound_values.specs.Runs.Closed.{names_in, SortedOn}
use Rattle.lq_refined_types.specs.Subtyping.Implication.{of_case, Implication}
use Rattle.lq_refined_types.specs.Subtyping.Subtype.{facts, with_guards}
use Rattle.lq_refined_templates.specs.Templates.Scopes.{Unknown}
use Rattle.lq_refined_rules.specs.Checks.Basis.{Basis}
use Rattle.lq_refined_rules.specs.Obligations.Obligation.{Asked, holds, fits, Obligation, implications_in}
use Rattle.lq_sound_scope.specs.Scopes.Over.{Names, PartsOver, TypeOver, of_any_sort}
use Rattle.lq_sound_scope.specs.Splits.Bound as splits
use Rattle.lq_sound_scope.specs.Splits.Bound.{HasNoBinders, IsBoundIn, IsEnvironment, names_of, with_positions}

-- a name of the program that has a twin, and so is none
abbrev pub HasTwin : Symbol → Type 0
HasTwin Value = ⊥
HasTwin (Bound x) = x.0 < 2 ^ 31
HasTwin (Position i) = ⊥

-- no two names of an environment are one, and none is a twin
abbrev pub NamesDiffer : Context → Type 0
NamesDiffer [] = Unit {0}
NamesDiffer (name x t ∷ Γ) = HasTwin x × IsNew x Γ × NamesDiffer Γ
NamesDiffer (guard p ∷ Γ) = NamesDiffer Γ

module _ (P : Basis) (unknowns : ℕ → Unknown) where
  -- A demand speaks of these names. Both types of a subtyping are over them, and in the right one no function names its argument.
  abbrev pub IsAskedOver : Names → Asked → Type 0
  IsAskedOver N (holds p) = SortedOn N.terms N.flags p
  IsAskedOver N (fits l r) = TypeOver P.setting.constructors unknowns N l × TypeOver P.setting.constructors unknowns N r × HasNoBinders r

  -- its environment is over its own names, and so is what is asked in it
  pub record IsOver (o : Obligation) : Type 0 where
    pub environment : IsEnvironment P.setting unknowns o.context
    pub asked : IsAskedOver (names_of o.context) o.asked

  -- That there is no value of a constructor: its equations are the last guards of the environment, and speak of its fields by `#1`, `#2`, .. too.
  pub record IsCase (o : Obligation) : Type 0 where
    pub reason : o.origin.reason ≡ of_case
    pub asked : o.asked ≡ holds falsity
    pub before : Context
    pub equations : Parts
    pub are : o.context ≡ with_guards equations before
    pub environment : IsEnvironment P.setting unknowns before
    pub over : PartsOver unknowns (of_any_sort (with_positions (names_in before))) equations

  abbrev pub IsBoundObligation : Obligation → Type 0
  IsBoundObligation o = IsOver o ⊎ IsCase o

  -- so of an implication
  pub record IsCaseIn (Γ : Context) (i : Implication) : Type 0 where
    pub reason : i.origin.reason ≡ of_case
    pub are : i.hypotheses ≡ facts P.setting Γ
    pub before : Context
    pub equations : Parts
    pub is : Γ ≡ with_guards equations before
    pub hypotheses : PartsOver unknowns (of_any_sort (with_positions (names_in before))) i.hypotheses
    pub left : i.left ≡ []
    pub goal : i.goal ≡ known falsity

  -- An implication of what is asked for: that of a demand is in its environment, and one of a subtyping in that with more entries.
  abbrev pub IsBoundBy : Context → Asked → Implication → Type 0
  IsBoundBy Γ (holds p) i = IsBoundIn P.setting unknowns Γ other i ⊎ IsCaseIn Γ i
  IsBoundBy Γ (fits l r) i = splits.IsBound P.setting unknowns Γ l r i

  -- all implications of an obligation
  abbrev pub AreBound : Obligation → Type 0
  AreBound o = All (IsBoundBy o.context o.asked) (implications_in P o)
