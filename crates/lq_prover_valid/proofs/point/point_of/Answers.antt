use Rattle.std.proofs.Common.{◌≡◌, ◌∙◌, subst}
use Rattle.lq_prover_case.specs.Equations.Naming.{name_in}
use Rattle.lq_logic_points.specs.Evaluation.{IsStepOf}
use Rattle.lq_logic_points.specs.Values.{numbers_of, table_of}
use Rattle.lq_logic_predicates.specs.ClosedImplication.{terms_in}
use Rattle.lq_logic_predicates.specs.Literals.{implication_literals}
use Rattle.lq_logic_predicates.specs.NnfView.{nnf_view}
use Rattle.lq_logic_predicates.specs.PredView.{implication_of}
use Rattle.lq_prover_search.specs.Search.SearchPath.{facts_of, scope_of}
use Rattle.lq_prover_valid.proofs.Near.{past_is_large}
use Rattle.lq_prover_valid.proofs.Origin.{origin_of}
use Rattle.lq_prover_valid.proofs.Points.{all_terms, are_point, counterexample, is_at, known, meets_opening, point_at}
use Rattle.lq_prover_valid.proofs.point.point_of.Goals as goal

pub values_of-requires-clause-solved : goal.values_of-requires-clause-solved
values_of-requires-clause-solved c = c.requires.met.settled.solved

pub values_of-requires-clause-count : goal.values_of-requires-clause-count
values_of-requires-clause-count c = c.requires.met.settled.ready.count

pub new-requires-clause-terms : goal.new-requires-clause-terms
new-requires-clause-terms c = λ t h.
    all_terms (scope_of c.args.givens.now) (implication_of c.args.implication.now) c.in-Ok.values c.in-Ok.ensures.table c.requires.terms t h

pub unreachable-requires : goal.unreachable-requires
unreachable-requires c =
    let s = scope_of c.args.givens.now in
    let i = implication_of c.args.implication.now in
    let pairs = c.args.givens.now.pairs.now in
    let path = c.args.path.now in
    let values = c.in-Ok.values in
    let g = known s i pairs path values c.len-terms.ensures.distinct c.requires.terms c.requires.given c.requires.all c.requires.met.settled c.in-Ok.ensures
    c.rows_say_what_comparisons_say.ensures.point c.rows_say_what_comparisons_say.ensures.row in
    let met = c.settled_paths_are_met.ensures s pairs _ path (point_at path.state values) c.requires.met (is_at s path.state values c.in-Ok.ensures) in
    (rw c.in-Ok-None.field-0-is at c.in-Ok-None.ensures.none) (are_point s i pairs path values g met.1)

pub returns-in-Ok-Some-clause-point : goal.returns-in-Ok-Some-clause-point
returns-in-Ok-Some-clause-point c =
    let s = scope_of c.args.givens.now in
    let i = implication_of c.args.implication.now in
    let pairs = c.args.givens.now.pairs.now in
    let path = c.args.path.now in
    let values = c.in-Ok.values in
    let g = known s i pairs path values c.len-terms.ensures.distinct c.requires.terms c.requires.given c.requires.all c.requires.met.settled c.in-Ok.ensures
    c.rows_say_what_comparisons_say.ensures.point c.rows_say_what_comparisons_say.ensures.row in
    let met = c.settled_paths_are_met.ensures s pairs _ path (point_at path.state values) c.requires.met (is_at s path.state values c.in-Ok.ensures) in
    counterexample i c.in-Ok-Some.point values (rw c.in-Ok-Some.field-0-is at c.in-Ok-Some.ensures.values) (rw c.in-Ok-Some.field-0-is at c.in-Ok-Some.ensures.some)
    (meets_opening c.proved_implications_are_valid.ensures.met s i pairs path values (nnf_view c.args.reading.now) g c.requires.within c.requires.opening met.0)

pub returns-in-Ok-Some-clause-readable : goal.returns-in-Ok-Some-clause-readable
returns-in-Ok-Some-clause-readable c =
    let same = rw c.in-Ok-Some.field-0-is at c.in-Ok-Some.ensures.values in
    record { table = same.table ∙ c.in-Ok.ensures.table ∙ c.requires.terms; evaluates = rw c.in-Ok-Some.field-0-is at c.in-Ok-Some.ensures.evaluates }

pub returns-in-Err-Past-clause-stop : goal.returns-in-Err-Past-clause-stop
returns-in-Err-Past-clause-stop c =
    let s = scope_of c.args.givens.now in
    let i = implication_of c.args.implication.now in
    let pairs = c.args.givens.now.pairs.now in
    let path = c.args.path.now in
    let values = c.in-Ok.values in
    let e = c.in-Err-Past.past in
    let g = known s i pairs path values c.len-terms.ensures.distinct c.requires.terms c.requires.given c.requires.all c.requires.met.settled c.in-Ok.ensures
    c.rows_say_what_comparisons_say.ensures.point c.rows_say_what_comparisons_say.ensures.row in
    let met = c.settled_paths_are_met.ensures s pairs _ path (point_at path.state values) c.requires.met (is_at s path.state values c.in-Ok.ensures) in
    let readings = meets_opening c.proved_implications_are_valid.ensures.met s i pairs path values (nnf_view c.args.reading.now) g c.requires.within c.requires.opening met.0 in
    let table : table_of values ≡ terms_in i = c.in-Ok.ensures.table ∙ c.requires.terms in
    let past = c.in-Err-Past.ensures.past e c.in-Err-Past.field-0-is in
    let step : IsStepOf (implication_literals i) (terms_in i) (numbers_of values) e =
    subst (λ ts. IsStepOf (implication_literals i) ts (numbers_of values) e) table (c.in-Err-Past.ensures.step e c.in-Err-Past.field-0-is) in
    record {
      past = past;
      values = values;
      origin = origin_of s i path.state (facts_of s path) values c.requires.terms c.requires.met.settled.ready.terms_are c.in-Ok.ensures c.requires.facts
          (c.facts_are_few.ensures (name_in s.objects)) c.requires.handed (c.values_are_placed.ensures (name_in s.objects) c.requires.handed.ever c.requires.handed.handed);
      counterexample = record { is_point = are_point s i pairs path values g met.1; hypotheses = readings.0; goal = readings.1 };
      step = step;
      large = past_is_large c.rows_say_what_comparisons_say.ensures.within s i path.state (facts_of s path) values e c.requires.terms c.requires.met.settled.ready.terms_are c.in-Ok.ensures
          c.requires.facts (c.values_are_near.ensures (name_in s.objects)) past step;
    }
