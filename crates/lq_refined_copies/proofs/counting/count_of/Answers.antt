use Rattle.std.proofs.Common.{◌∙◌, List, get_or, take, sym, ap}
use Rattle.lq_refined_instances.specs.Counting.{count_of}
use Rattle.lq_refined_instances.specs.Instances.{told}
use Rattle.lq_refined_instances.specs.Scopes.{Scope}
use Rattle.lq_text_qualifiers.specs.Sorting.Views.{qualifier_view}
use Rattle.lq_text_qualifiers.specs.declared.sorting.shape.Shape.TheVariants.{Int}
use Rattle.lq_text_qualifiers.specs.Faults.Shapes.{Shape}
use Rattle.lq_refined_copies.specs.Runs.{run_view, runs_view}
use Rattle.lq_refined_copies.specs.Views.{patterns_of, table_of}
use Rattle.lq_refined_copies.specs.declared.unknowns.Run.{Run}
use Rattle.lq_refined_copies.specs.declared.unknowns.Run.TheVariants.{One}
use Rattle.lq_refined_copies.proofs.Longer.{runs_more}
use Rattle.lq_refined_copies.proofs.Summed.{count_step}
use Rattle.lq_refined_copies.proofs.counting.count_of.Goals as goal

pub loop-run-preserved : goal.loop-run-preserved
loop-run-preserved c =
    let none : Run = One (record { scope = 0; shape = Int }) in
    let q = qualifier_view c.args.qualifier.now in
    let Γs = table_of c.args.shared.now in
    let ps = patterns_of c.args.shared.now in
    let rs = c.deref-run-items.result.now in
    let i = c.loop-run.run-index in
    let r : Run = get_or rs i none in
    count_step q (runs_view Γs ps (take i rs)) (run_view Γs ps r) c.loop-run.total c.run_count.result c.saturating_add-total.result
    c.loop-run.invariant c.run_count.ensures c.saturating_add-total.ensures
    ∙ ap (λ (l : List (Scope × Shape)). told (count_of q l)) (sym (runs_more Γs ps rs i none c.loop-run-test.true))
