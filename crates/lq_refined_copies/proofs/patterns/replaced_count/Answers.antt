use Rattle.std.proofs.Common.{◌≡◌, ◌∙◌, ℕ, ◌<◌, ◌≤◌, List, length, map, slice_index_or, sym, ap, subst, arith}
use Rattle.std.proofs.lemmas.List.{get_or-map, length-map, take_all}
use Rattle.std.specs.declared.alloc.Global.{Global}
use Rattle.std.specs.declared.vec.Vec.{Vec}
use Rattle.std.specs.Prelude.{get_or}
use Rattle.lq_refined_instances.specs.Counting.{replaced_count, symbol_count}
use Rattle.lq_refined_instances.specs.Scopes.{scope_in}
use Rattle.lq_text_qualifiers.specs.Sorting.Views.{asked_view, shape_view}
use Rattle.lq_text_qualifiers.specs.declared.sorting.shape.Shape.TheVariants.{Int}
use Rattle.lq_text_qualifiers.specs.Faults.Shapes.{int, Shape}
use Rattle.lq_refined_copies.specs.Completed.{completed}
use Rattle.lq_refined_copies.specs.Counting.{mark_of, AreColumns, AreMarks, IsColumn}
use Rattle.lq_refined_copies.proofs.Summed.{completed_value, product_step}
use Rattle.lq_refined_copies.proofs.patterns.replaced_count.Goals as goal

pub loop-index-preserved : goal.loop-index-preserved
loop-index-preserved c = λ all table out in' marks small.
    let P = c.args.shapes.now in
    let ss : List Shape = map shape_view P in
    let i = c.loop-index.index in
    let Γ = scope_in all c.args.scope in
    let Δ = scope_in table c.args.at in
    let less = c.loop-index-test.true in
    let l = length-map P shape_view in
    let long : i < length ss = omega (arith, less, l) in
    let s = shape_view (get_or P i Int) in
    let same : slice_index_or ss i int ≡ s = get_or-map shape_view P i Int int less in
    let v = c.index-outer-index.result in
    let w = c.index-columns-index.result in
    let inner : AreColumns ss table c.as_slice-columns.result.now = subst (AreColumns ss table) (sym c.as_slice-columns.ensures.value) in' in
    let n = out.count in
    let m = inner.count in
    let outer-column : IsColumn s all v.items =
    subst (λ (t : Shape). IsColumn t all v.items) same
    (subst (λ (x : Vec ℕ Global). IsColumn (slice_index_or ss i int) all x.items) (sym c.index-outer-index.is) (out.each i v (omega (arith, long, n))))
    in
    let inner-column : IsColumn s table w.items =
    subst (λ (t : Shape). IsColumn t table w.items) same
    (subst (λ (x : Vec ℕ Global). IsColumn (slice_index_or ss i int) table x.items) (sym c.index-columns-index.is) (inner.each i w (omega (arith, long, m))))
    in
    let outside : c.number_at-outside.result ≡ symbol_count s Γ =
    c.number_at-outside.ensures ∙ ap (λ (l : List ℕ). slice_index_or l c.args.scope 0) c.deref-in-loop-index.ensures.value ∙ outer-column c.args.scope
    in
    let inside : c.number_at-inside.result ≡ symbol_count s Δ =
    c.number_at-inside.ensures ∙ ap (λ (l : List ℕ). slice_index_or l c.args.at 0) c.deref-in-loop-index-2.ensures.value ∙ inner-column c.args.at
    in
    let mark : asked_view c.mark_of-mark.result ≡ mark_of Δ = c.mark_of-mark.ensures table (subst (AreMarks table) (sym c.deref.ensures.value) marks) in
    let value : c.completed_count.result ≡ symbol_count s (completed Γ Δ) =
    completed_value s Γ Δ c.number_at-outside.result c.number_at-inside.result c.completed_count.result (asked_view c.mark_of-mark.result) outside inside mark small c.completed_count.ensures
    in
    product_step ss i (completed Γ Δ) c.loop-index.count c.completed_count.result c.saturating_mul-count.result long
    (c.loop-index.invariant all table out in' marks small) (value ∙ ap (λ (t : Shape). symbol_count t (completed Γ Δ)) (sym same)) c.saturating_mul-count.ensures

pub returns : goal.returns
returns c = λ all table out in' marks small.
    let ss : List Shape = map shape_view c.args.shapes.now in
    let end = c.loop-index-test.false in
    let l = length-map c.args.shapes.now shape_view in
    let last : length ss ≤ c.loop-index.index = omega (arith, end, l) in
    c.loop-index.invariant all table out in' marks small
    ∙ ap (λ (l : List Shape). replaced_count l (completed (scope_in all c.args.scope) (scope_in table c.args.at))) (take_all c.loop-index.index ss last)
