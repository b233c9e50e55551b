use Rattle.std.proofs.Common.{List, subst}
use Rattle.lq_logic_predicates.specs.PredView.{implication_of}
use Rattle.lq_logic_text.specs.Views.{calling_view}
use Rattle.lq_logic_points.specs.Values.{as_point, point_of_values}
use Rattle.lq_logic_points.specs.declared.values.PointValues.{PointValues}
use Rattle.lq_top_answers.specs.Failure.Adding.{AddsLines}
use Rattle.lq_top_answers.specs.Failure.Collected.{valued_views}
use Rattle.lq_top_answers.specs.Failure.Occurrences.{Valued}
use Rattle.lq_top_answers.proofs.FailureLemmas.Lines.{all_shown}
use Rattle.lq_top_answers.proofs.failure.point_lines.push_point.Goals as goal

pub returns : goal.returns
returns c =
    let calling = calling_view c.args.calling.now in
    let i = implication_of c.args.closed.now in
    let p = as_point c.args.point.now in
    let old = c.args.line.now.items in
    let new = c.push_lines.new.line.items in
    let added : AddsLines calling p (valued_views c.in_ok-seen.seen.keys) old new =
    subst (λ (v : PointValues). AddsLines calling (point_of_values v) (valued_views c.in_ok-seen.seen.keys) old new) c.values-values.ensures c.in_ok-push_lines.ensures in
    all_shown calling i p old new (subst (λ (xs : List Valued). AddsLines calling p xs old new) c.in_ok-seen.ensures added)
