use Rattle.std.proofs.Common.{◌∙◌, All, inr, ap, sym, subst}
use Rattle.lq_prover_decide.specs.CaseView.{case_of}
use Rattle.lq_prover_case.specs.State.PathState.{facts_in}
use Rattle.lq_prover_case.specs.Equations.Naming.{name_in, objects_of}
use Rattle.lq_prover_decide.proofs.Origin.{origin_of}
use Rattle.lq_prover_decide.proofs.Points.{all_terms, are_point, given, holds_case, past_at_point}
use Rattle.lq_logic_points.specs.Evaluation.{IsStepOf}
use Rattle.lq_logic_points.specs.Values.{as_point, numbers_of, point_of_values, table_of}
use Rattle.lq_logic_predicates.specs.ClosedImplication.{IsPoint, terms_in}
use Rattle.lq_logic_predicates.specs.Comparison.{CanGather}
use Rattle.lq_logic_predicates.specs.Literals.{implication_literals}
use Rattle.lq_logic_predicates.specs.Table.{all_differ, has_term}
use Rattle.lq_prover_decide.proofs.deciding.case_point.Goals as goal

pub new-requires-clause-gathers : goal.new-requires-clause-gathers
new-requires-clause-gathers c = subst (λ i. All CanGather (implication_literals i)) (sym c.implication.ensures) c.requires.gathers

pub new-requires-clause-terms : goal.new-requires-clause-terms
new-requires-clause-terms c = λ t h.
    all_terms c.args.literals.now c.in-Ok.values c.in-Ok.ensures.table c.requires.fits t (ap (λ i. has_term (terms_in i) t) (sym c.implication.ensures) ∙ h)

pub unreachable-requires : goal.unreachable-requires
unreachable-requires c =
    let objects = objects_of c.args.objects.now in
    let values = c.in-Ok.values in
    let distinct = ap all_differ (sym c.table.ensures) ∙ c.len-terms.ensures.distinct in
    let g = given objects c.args.literals.now c.args.state.now values c.requires.settled c.in-Ok.ensures c.requires.arguments c.requires.fits c.requires.pairs distinct
    c.rows_say_what_comparisons_say.ensures.point c.rows_say_what_comparisons_say.ensures.row in
    (rw c.in-Ok-None.field-0-is at c.in-Ok-None.ensures.none) (subst (λ i. IsPoint i (point_of_values values)) (sym c.implication.ensures) (are_point objects (case_of c.args.literals.now) c.args.state.now values g))

pub returns-in-Ok-Some-clause-point : goal.returns-in-Ok-Some-clause-point
returns-in-Ok-Some-clause-point c = subst (λ i. IsPoint i (as_point c.in-Ok-Some.point)) c.implication.ensures (rw c.in-Ok-Some.field-0-is at c.in-Ok-Some.ensures.some)

pub returns-in-Ok-Some-clause-case : goal.returns-in-Ok-Some-clause-case
returns-in-Ok-Some-clause-case c =
    let objects = objects_of c.args.objects.now in
    let values = c.in-Ok.values in
    let distinct = ap all_differ (sym c.table.ensures) ∙ c.len-terms.ensures.distinct in
    let g = given objects c.args.literals.now c.args.state.now values c.requires.settled c.in-Ok.ensures c.requires.arguments c.requires.fits c.requires.pairs distinct
    c.rows_say_what_comparisons_say.ensures.point c.rows_say_what_comparisons_say.ensures.row in
    holds_case (case_of c.args.literals.now) c.in-Ok-Some.point values (rw c.in-Ok-Some.field-0-is at c.in-Ok-Some.ensures.values) c.in-Ok.ensures.table g.hold

pub returns-in-Err-Past-clause-stop : goal.returns-in-Err-Past-clause-stop
returns-in-Err-Past-clause-stop c =
    let objects = objects_of c.args.objects.now in
    let values = c.in-Ok.values in
    let case = case_of c.args.literals.now in
    let distinct = ap all_differ (sym c.table.ensures) ∙ c.len-terms.ensures.distinct in
    let g = given objects c.args.literals.now c.args.state.now values c.requires.settled c.in-Ok.ensures c.requires.arguments c.requires.fits c.requires.pairs distinct
    c.rows_say_what_comparisons_say.ensures.point c.rows_say_what_comparisons_say.ensures.row in
    let name = name_in objects in
    let handed = c.requires.handed in
    let origin = origin_of case objects c.args.state.now (facts_in name c.args.state.now) values c.requires.terms c.in-Ok.ensures c.requires.settled.adds (c.facts_are_few.ensures name) handed
    (c.values_are_placed.ensures name handed.ever handed.handed) in
    inr (past_at_point objects case c.args.state.now values c.in-Err-Past.past g (c.in-Err-Past.ensures.past c.in-Err-Past.past c.in-Err-Past.field-0-is) origin
    (subst (λ i. IsStepOf (implication_literals i) (table_of values) (numbers_of values) c.in-Err-Past.past) c.implication.ensures (c.in-Err-Past.ensures.step c.in-Err-Past.past c.in-Err-Past.field-0-is)))
