-- Predicates of which it can be asked at a point whether their negated readings are met.
use Rattle.std.specs.Prelude.{◌≡◌, ℕ, Bool, true, false, List, Some, slice_get}
use Rattle.lq_refined_types.specs.Parts.Substitution.{Subst, formula_by}
use Rattle.lq_logic_points.specs.Evaluation.{Evaluates}
use Rattle.lq_logic_points.specs.Values.{numbers_of, table_of, values_of}
use Rattle.lq_logic_points.specs.declared.point.Point.{Point}
use Rattle.lq_logic_predicates.specs.Formula.{Formula}
use Rattle.lq_logic_predicates.specs.Reading.{AllFitIn, formula_numbered, reading_of}

-- the point has a number for each of its terms, and each row of its negated reading can be gathered and evaluated there
pub record IsAskable (p : Point) (q : Formula) : Type 0 where
  pub numbered : formula_numbered (table_of (values_of p)) q ≡ table_of (values_of p)
  pub fits : AllFitIn (reading_of false q)
  pub evaluates : Evaluates (table_of (values_of p)) (numbers_of (values_of p)) (reading_of false q)

-- each chosen one of these instances, with this put for its names
abbrev pub AreAskable : Point → (ℕ → Bool) → Subst → List Formula → Type 0
AreAskable p chosen σ instances = (k : ℕ) (q : Formula) → chosen k ≡ true → slice_get instances k ≡ Some q → IsAskable p (formula_by σ q)
