use Rattle.std.proofs.Common.{◌≡◌, ◌∙◌, List, [], IsTrue, false, sym, ap, subst}
use Rattle.lq_logic_rows.specs.Row.{Row}
use Rattle.lq_base_numbers.specs.declared.fractions.frac.Frac.{Frac}
use Rattle.lq_logic_predicates.specs.Again.{formula_again}
use Rattle.lq_logic_predicates.specs.Comparison.{Comparison}
use Rattle.lq_logic_predicates.specs.Growing.{Extends-refl}
use Rattle.lq_logic_predicates.specs.ClosedImplication.{ClosedImplication, terms_in, each_numbered}
use Rattle.lq_logic_predicates.specs.NnfView.{nnf_view}
use Rattle.lq_logic_predicates.specs.PredView.{implication_of}
use Rattle.lq_logic_predicates.specs.Reading.{Reading, reading_of, formula_numbered, Gathers}
use Rattle.lq_logic_predicates.specs.Sum.{Sum}
use Rattle.lq_logic_predicates.specs.Table.{all_differ}
use Rattle.lq_logic_predicates.specs.TableView.{terms_of}
use Rattle.lq_logic_points.specs.Evaluation.{CanEvaluate, Evaluates}
use Rattle.lq_logic_points.specs.Values.{numbers_of, table_of, values_of}
use Rattle.lq_cases_engines.proofs.engines.points.negated_goal_holds.Goals as goal

abbrev Law : Type 0
Law = (terms : List Sum) (values : List Frac) (reading : Reading Comparison) (rows : Reading Row) → IsTrue (all_differ terms)
    → Gathers terms reading rows → Evaluates terms values reading → CanEvaluate values rows

can_evaluate : (law : Law) (i : ClosedImplication) (given old new : List Sum) (numbers : List Frac) (rows : Reading Row)
    → given ≡ terms_in i → old ≡ terms_in i → new ≡ formula_numbered old i.goal → IsTrue (all_differ old)
    → Gathers new (reading_of false i.goal) rows → Evaluates given numbers (reading_of false i.goal) → CanEvaluate numbers rows
can_evaluate law i given old new numbers rows g o n differ gathers evaluates =
    let same : new ≡ old = n ∙ ap (λ l. formula_numbered l i.goal) o ∙ formula_again (each_numbered [] i.hypotheses) (terms_in i) i.goal (Extends-refl (terms_in i)) ∙ sym o in
    law old numbers (reading_of false i.goal) rows differ (subst (λ l. Gathers l (reading_of false i.goal) rows) same gathers)
    (subst (λ l. Evaluates l numbers (reading_of false i.goal)) (g ∙ sym o) evaluates)

pub holds-requires : goal.holds-requires
holds-requires c =
    can_evaluate c.gathered_readings_can_be_evaluated.ensures (implication_of c.args.implication.now) (table_of (values_of c.args.point.now))
    (terms_of c.in_ok-table.table) (terms_of c.tighten.new.table) (numbers_of (values_of c.args.point.now)) (nnf_view c.in-Ok.nnf)
    c.requires.table c.in_ok-table.ensures c.in-Ok.ensures.numbered c.len-terms.ensures.distinct c.in-Ok.ensures.reading c.requires.evaluates.goal
