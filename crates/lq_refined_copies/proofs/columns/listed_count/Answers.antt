use Rattle.std.proofs.Common.{◌∙◌, ℕ, ◌+◌, ◌-◌, ◌^◌, min, get_or, map, take, if◌then◌else◌, sym, ap}
use Rattle.std.proofs.lemmas.List.{map_more}
use Rattle.lq_refined_instances.specs.Counting.{symbol_count}
use Rattle.lq_refined_instances.specs.Scopes.{Scope}
use Rattle.lq_refined_instances.specs.Seen.{visible_view}
use Rattle.lq_refined_instances.specs.declared.scope.Visible.{Visible}
use Rattle.lq_refined_instances.proofs.Counts.{symbol_count-more}
use Rattle.lq_logic_predicates.specs.declared.symbol.Symbol.TheVariants.{Value}
use Rattle.lq_text_qualifiers.specs.Sorting.Views.{shape_view}
use Rattle.lq_text_qualifiers.specs.declared.sorting.shape.Shape.TheVariants.{Int}
use Rattle.lq_text_qualifiers.specs.Faults.Shapes.{is_same}
use Rattle.lq_refined_copies.proofs.columns.listed_count.Goals as goal

pub loop-visible-preserved : goal.loop-visible-preserved
loop-visible-preserved c =
    let none : Visible = record { symbol = Value; shape = Int } in
    let s = shape_view c.args.shape in
    let items = c.deref-visible-items.result.now in
    let i = c.loop-visible.visible-index in
    let v : Visible = get_or items i none in
    let Δ : Scope = map visible_view (take i items) in
    c.saturating_add-count.ensures
    ∙ ap (λ (n : ℕ). min (c.loop-visible.count + n) (2 ^ 64 - 1)) c.one_if_same.ensures
    ∙ ap (λ (n : ℕ). min (n + (if is_same s (shape_view v.shape) then 1 else 0)) (2 ^ 64 - 1)) c.loop-visible.invariant
    ∙ symbol_count-more Δ (visible_view v) s
    ∙ sym (ap (symbol_count s) (map_more visible_view items i none c.loop-visible-test.true))
