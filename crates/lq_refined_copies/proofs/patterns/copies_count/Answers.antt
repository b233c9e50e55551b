use Rattle.std.proofs.Common.{◌∙◌, List, get_or, take, sym, ap}
use Rattle.lq_refined_instances.specs.Counting.{count_of}
use Rattle.lq_refined_instances.specs.Instances.{told}
use Rattle.lq_refined_instances.specs.Scopes.{scope_in, Scope}
use Rattle.lq_refined_instances.specs.Views.{unknown_view}
use Rattle.lq_text_qualifiers.specs.Sorting.Views.{qualifier_view}
use Rattle.lq_text_qualifiers.specs.declared.sorting.shape.Shape.TheVariants.{Int}
use Rattle.lq_text_qualifiers.specs.Faults.Shapes.{Shape}
use Rattle.lq_refined_copies.specs.Completed.{all_completed}
use Rattle.lq_refined_copies.specs.Groups.{group_view, groups_view}
use Rattle.lq_refined_copies.specs.declared.groups.Group.{Group}
use Rattle.lq_refined_copies.proofs.Summed.{count_step, group_told, groups_more}
use Rattle.lq_refined_copies.proofs.patterns.copies_count.Goals as goal

pub loop-group-preserved : goal.loop-group-preserved
loop-group-preserved c = λ all table out in' marks small.
    let none : Group = record { unknown = record { scope = 0; shape = Int }; times = 0 } in
    let q = qualifier_view c.args.qualifier.now in
    let gs = c.deref-group-items.result.now in
    let i = c.loop-group.group-index in
    let g : Group = get_or gs i none in
    let Γ = scope_in all c.args.scope in
    let one = c.copy_count-count.ensures all table out in' marks (small g.unknown.scope) in
    count_step q (all_completed Γ (groups_view table (take i gs))) (all_completed Γ (group_view table g)) c.loop-group.total c.saturating_mul.result c.saturating_add-total.result
    (c.loop-group.invariant all table out in' marks small)
    (group_told q Γ (unknown_view table g.unknown) g.times c.copy_count-count.result c.saturating_mul.result one c.saturating_mul.ensures) c.saturating_add-total.ensures
    ∙ ap (λ (l : List (Scope × Shape)). told (count_of q l)) (sym (groups_more Γ table gs i none c.loop-group-test.true))
