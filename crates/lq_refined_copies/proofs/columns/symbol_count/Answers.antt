use Rattle.std.proofs.Common.{◌≡◌, vec_len, length, subst, arith}
use Rattle.std.specs.Prelude.{IfSome, Option}
use Rattle.lq_refined_instances.specs.Views.{scopes_view}
use Rattle.lq_refined_instances.specs.declared.scopes.Addition.{Addition}
use Rattle.lq_text_qualifiers.specs.Sorting.Views.{shape_view}
use Rattle.lq_refined_copies.specs.Counting.{IsStep}
use Rattle.lq_refined_copies.proofs.Counted.{step_counts}
use Rattle.lq_refined_copies.proofs.columns.symbol_count.Goals as goal

pub returns-in-Some : goal.returns-in-Some
returns-in-Some c =
    let t = c.args.table.now in
    let a = c.in-Some.addition in
    let step : IsStep (scopes_view t) c.args.at a = subst (λ (o : Option Addition). IfSome o (IsStep (scopes_view t) c.args.at)) c.in-Some.is c.requires.step in
    let v : vec_len t.additions ≡ length t.additions.items = t.additions.ok.0 in
    step_counts t c.args.at c.number_at-before.result c.count_after.result a (shape_view c.args.shape) c.args.counts.now step c.requires.counts c.requires.all
    (omega arith) c.number_at-before.ensures c.count_after.ensures
