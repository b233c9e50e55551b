-- The implications of a program: each with its place and its reason.
use Rattle.std.specs.Prelude.{cond, List, [], ◌∷◌, ◌++◌, map}
use Rattle.lq_base_names.specs.declared.place.Place.{Place}
use Rattle.lq_refined_types.specs.Parts.Assignment.{Assignment, Implied}
use Rattle.lq_refined_types.specs.Parts.Constraint.{Constraint, AllMet}
use Rattle.lq_refined_types.specs.Parts.Part.{Part, Parts, is_truth}

-- what an implication comes of
pub data Reason : Type 0 where
  of_assertion : Reason
  of_index : Reason
  of_divisor : Reason
  of_length : Reason
  of_case : Reason
  of_argument : Reason
  of_flow : Reason

pub record Origin : Type 0 where
  pub place : Place
  pub reason : Reason

-- the hypotheses of an environment and those of a left type, a goal, and what it comes of
pub record Implication : Type 0 where
  pub hypotheses : Parts
  pub left : Parts
  pub goal : Part
  pub origin : Origin

abbrev pub constraint_of : Implication → Constraint
constraint_of i = record { hypotheses = i.hypotheses ++ i.left; goal = i.goal }

-- the assignment makes all of the list valid
abbrev pub AllHold : Assignment → List Implication → Type 0
AllHold A is = AllMet A (map constraint_of is)

-- each part follows from the hypotheses
abbrev pub EachImplied : Assignment → Parts → Parts → Type 0
EachImplied A hs [] = Unit {0}
EachImplied A hs (q ∷ qs) = Implied A hs q × EachImplied A hs qs

-- one implication for each part on the right; a part `true` gives none
abbrev pub goals : Parts → Parts → Parts → Origin → List Implication
goals hs ls [] o = []
goals hs ls (q ∷ qs) o =
    cond (is_truth q) (goals hs ls qs o) (record { hypotheses = hs; left = ls; goal = q; origin = o } ∷ goals hs ls qs o)
