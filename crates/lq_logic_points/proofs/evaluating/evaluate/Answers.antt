use Rattle.std.proofs.Common.{◌≡◌, ◌∙◌, sym, subst, Err, IfErr, rules}
use Rattle.lq_base_numbers.specs.declared.fractions.past.NumberPast.{NumberPast}
use Rattle.lq_logic_predicates.specs.Literals.{comparisons_of}
use Rattle.lq_logic_predicates.specs.NnfView.{nnf_view}
use Rattle.lq_logic_predicates.specs.PredView.{formula_of}
use Rattle.lq_logic_predicates.specs.Reading.{reading_of, Gathers}
use Rattle.lq_logic_predicates.specs.TableView.{terms_of}
use Rattle.lq_logic_points.specs.declared.error.PointError.{PointError}
use Rattle.lq_logic_points.specs.declared.error.PointError.TheVariants.{Past}
use Rattle.lq_logic_points.specs.Evaluation.{IsStepOf}
use Rattle.lq_logic_points.proofs.Reading.{has_values, evaluated, step_of}
use Rattle.lq_logic_points.proofs.evaluating.evaluate.Goals as goal

pub evaluate_rows-requires : goal.evaluate_rows-requires
evaluate_rows-requires c =
    let reading = reading_of c.args.positive (formula_of c.args.pred.now) in
    let gathers : Gathers (terms_of c.args.table.now) reading (nnf_view c.in-Ok.nnf) =
    subst (λ l. Gathers l reading (nnf_view c.in-Ok.nnf)) (c.in-Ok.ensures.numbered ∙ c.requires.has) c.in-Ok.ensures.reading in
    has_values (terms_of c.args.table.now) c.args.numbers.now c.requires.one_each (c.rows_say_what_comparisons_say.ensures.within (terms_of c.args.table.now)) reading (nnf_view c.in-Ok.nnf) gathers

pub returns-in_err-evaluate_rows-in-Ok-clause-step : goal.returns-in_err-evaluate_rows-in-Ok-clause-step
returns-in_err-evaluate_rows-in-Ok-clause-step c =
    let reading = reading_of c.args.positive (formula_of c.args.pred.now) in let terms = terms_of c.args.table.now in
    let gathers : Gathers terms reading (nnf_view c.in-Ok.nnf) =
    subst (λ l. Gathers l reading (nnf_view c.in-Ok.nnf)) (c.in-Ok.ensures.numbered ∙ c.requires.has) c.in-Ok.ensures.reading in
    let e = c.in_err-evaluate_rows-in-Ok.field-0.0 in
    let step : IsStepOf (comparisons_of reading) terms c.args.numbers.now e =
    step_of terms c.args.numbers.now e reading (nnf_view c.in-Ok.nnf) gathers c.in_err-evaluate_rows-in-Ok.ensures.step in
    let was : c.from_residual.result ≡ Err (Past e) = search rules in
    let P = λ (x : PointError). (n : NumberPast) → x ≡ Past n → IsStepOf (comparisons_of reading) terms c.args.numbers.now n in
    let here : P (Past e) = λ n h. let same : e ≡ n = cc in subst (IsStepOf (comparisons_of reading) terms c.args.numbers.now) same step in
    subst (λ r. IfErr r P) (sym was) here

pub returns-in_ok-evaluate_rows-in-Ok-clause-ok : goal.returns-in_ok-evaluate_rows-in-Ok-clause-ok
returns-in_ok-evaluate_rows-in-Ok-clause-ok c =
    let reading = reading_of c.args.positive (formula_of c.args.pred.now) in
    let gathers : Gathers (terms_of c.args.table.now) reading (nnf_view c.in-Ok.nnf) =
    subst (λ l. Gathers l reading (nnf_view c.in-Ok.nnf)) (c.in-Ok.ensures.numbered ∙ c.requires.has) c.in-Ok.ensures.reading in
    evaluated (terms_of c.args.table.now) c.args.numbers.now reading (nnf_view c.in-Ok.nnf) gathers c.in_ok-evaluate_rows-in-Ok.ensures.ok
