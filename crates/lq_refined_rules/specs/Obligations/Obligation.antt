-- What a program is asked for in an environment, before subtypings are split into implications.
use Rattle.std.specs.Prelude.{◌≡◌, List, [], ◌∷◌, ◌++◌}
use Rattle.lq_refined_types.specs.Parts.Part.{known}
use Rattle.lq_logic_predicates.specs.Formula.{Formula}
use Rattle.lq_refined_types.specs.Types.Context.{Context}
use Rattle.lq_refined_types.specs.Types.Refined.{Refined, erased}
use Rattle.lq_refined_types.specs.Subtyping.Implication.{Origin, Implication}
use Rattle.lq_refined_types.specs.Subtyping.Splitting.{split}
use Rattle.lq_refined_types.specs.Subtyping.Subtype.{facts}
use Rattle.lq_refined_rules.specs.Checks.Basis.{Basis}

pub data Asked : Type 0 where
  -- a demand
  holds : Formula → Asked
  -- the left type is a subtype of the right one
  fits : Refined → Refined → Asked

pub record Obligation : Type 0 where
  pub context : Context
  pub asked : Asked
  pub origin : Origin

-- both types of a subtyping have one simple type
abbrev pub IsShapedAsked : Asked → Type 0
IsShapedAsked (holds p) = Unit {0}
IsShapedAsked (fits l r) = erased l ≡ erased r

abbrev pub IsShaped : Obligation → Type 0
IsShaped o = IsShapedAsked o.asked

module _ (P : Basis) where
  -- the implications of what is asked for, in an environment, at a place and for a reason
  abbrev pub implications_by : Context → Origin → Asked → List Implication
  implications_by Γ o (holds p) = record { hypotheses = facts P.setting Γ; left = []; goal = known p; origin = o } ∷ []
  implications_by Γ o (fits l r) = split P.setting o Γ l r

  abbrev pub implications_in : Obligation → List Implication
  implications_in o = implications_by o.context o.origin o.asked

  abbrev pub all_implications : List Obligation → List Implication
  all_implications [] = []
  all_implications (o ∷ os) = implications_in o ++ all_implications os
