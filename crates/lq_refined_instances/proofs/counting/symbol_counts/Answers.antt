use Rattle.std.proofs.Common.{◌≡◌, ℕ, List, vec_len, length, slice_get, get_or, None, ap, ◌∙◌, arith}
use Rattle.lq_text_qualifiers.specs.Sorting.Views.{shape_view}
use Rattle.lq_logic_predicates.specs.declared.symbol.Symbol.TheVariants.{Value}
use Rattle.lq_text_qualifiers.specs.declared.sorting.shape.Shape.TheVariants.{Int}
use Rattle.lq_refined_instances.specs.declared.scopes.Addition.{Addition}
use Rattle.lq_refined_instances.specs.Counting.{count_after, or_first}
use Rattle.lq_refined_instances.specs.Seen.{hidden_view, visible_view}
use Rattle.lq_refined_instances.proofs.CountSteps.{symbols-step}
use Rattle.lq_refined_instances.proofs.counting.symbol_counts.Goals as goal

pub loop-addition-preserved : goal.loop-addition-preserved
loop-addition-preserved c =
    let none : Addition = record { parent = 0; visible = record { symbol = Value; shape = Int }; hidden = None } in
    let A = c.deref-addition-items.result.now in
    let B = c.args.scopes.now.additions.items in
    let i = c.loop-addition.addition-index in
    let x : Addition = get_or A i none in
    let s = shape_view c.args.shape in
    let counts = c.loop-addition.counts.items in
    let before : c.count_at-before.result ≡ or_first (slice_get counts x.parent) counts =
    c.count_at-before.ensures ∙ ap (λ (l : List ℕ). or_first (slice_get l x.parent) l) c.deref.ensures.value
    in
    let is : c.count_after.result ≡ count_after s (or_first (slice_get counts x.parent) counts) (hidden_view x.hidden) (visible_view x.visible) =
    c.count_after.ensures ∙ ap (λ (n : ℕ). count_after s n (hidden_view x.hidden) (visible_view x.visible)) before
    in
    let v : vec_len c.args.scopes.now.additions ≡ length B = c.args.scopes.now.additions.ok.0 in
    symbols-step B A i none s counts c.push-in-loop-addition.new.self.items c.count_after.result c.deref-addition-items.ensures.value
    c.loop-addition-test.true (omega arith) c.args.scopes.now.parents c.args.scopes.now.counted c.loop-addition.invariant is c.in_ok-push-2.ensures.items
