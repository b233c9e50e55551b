-- A reading of a predicate of an implication can be evaluated at a point of it.
use Rattle.std.proofs.Common.{◌≡◌, ◌∙◌, Bool, List, IsTrue, subst}
use Rattle.lq_logic_rows.specs.Row.{Row}
use Rattle.lq_base_numbers.specs.declared.fractions.frac.Frac.{Frac}
use Rattle.lq_logic_points.specs.Evaluation.{CanEvaluate, Evaluates}
use Rattle.lq_logic_predicates.specs.Comparison.{Comparison}
use Rattle.lq_logic_predicates.specs.Formula.{Formula}
use Rattle.lq_logic_predicates.specs.Reading.{Reading, reading_of, formula_numbered, Gathers}
use Rattle.lq_logic_predicates.specs.Sum.{Sum}
use Rattle.lq_logic_predicates.specs.Table.{all_differ}

abbrev pub Law : Type 0
Law = (terms : List Sum) (values : List Frac) (reading : Reading Comparison) (rows : Reading Row) → IsTrue (all_differ terms)
    → Gathers terms reading rows → Evaluates terms values reading → CanEvaluate values rows

-- by a table that has the predicate's terms, whose terms are those by which the readings can be evaluated
pub can_evaluate : (law : Law) (sign : Bool) (p : Formula) (given old new : List Sum) (numbers : List Frac) (rows : Reading Row)
    → given ≡ old → new ≡ formula_numbered old p → formula_numbered old p ≡ old → IsTrue (all_differ old)
    → Gathers new (reading_of sign p) rows → Evaluates given numbers (reading_of sign p) → CanEvaluate numbers rows
can_evaluate law sign p given old new numbers rows g n again differ gathers evaluates =
    law old numbers (reading_of sign p) rows differ (subst (λ l. Gathers l (reading_of sign p) rows) (n ∙ again) gathers)
    (subst (λ l. Evaluates l numbers (reading_of sign p)) g evaluates)
