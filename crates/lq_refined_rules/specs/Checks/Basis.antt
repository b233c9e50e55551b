-- What a program is checked over: what constructors stand for, the equations of measures, and templates.
use Rattle.std.specs.Prelude.{ℕ, List}
use Rattle.lq_logic_predicates.specs.Formula.{Formula}
use Rattle.lq_refined_types.specs.Types.Refined.{Refined, Refineds}
use Rattle.lq_refined_types.specs.Subtyping.Subtype.{Setting}

-- Of a datatype its constructors are in the order of their definition. Of a constructor there is an equation for each measure of its
-- datatype, of `v` for its value and of `#1`, `#2`, .. for its fields. A point has a template, and the use of a generalised name has types
-- for its type variables.
pub record Basis : Type 0 where
  pub setting : Setting
  pub constructors_of : ℕ → List ℕ
  pub equations : ℕ → List Formula
  pub template : ℕ → Refined
  pub type_arguments : ℕ → Refineds
