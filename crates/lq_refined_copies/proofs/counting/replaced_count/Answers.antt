use Rattle.std.proofs.Common.{◌≡◌, ◌∙◌, ℕ, ◌<◌, ◌≤◌, List, length, slice_index_or, sym, ap, subst, arith}
use Rattle.std.proofs.lemmas.List.{take_all}
use Rattle.std.specs.declared.alloc.Global.{Global}
use Rattle.std.specs.declared.vec.Vec.{Vec}
use Rattle.lq_refined_instances.specs.Counting.{replaced_count, symbol_count}
use Rattle.lq_refined_instances.specs.Scopes.{scope_in}
use Rattle.lq_text_qualifiers.specs.Faults.Shapes.{int, Shape}
use Rattle.lq_refined_copies.specs.Counting.{IsColumn}
use Rattle.lq_refined_copies.proofs.Summed.{product_step}
use Rattle.lq_refined_copies.proofs.counting.replaced_count.Goals as goal

pub loop-index-preserved : goal.loop-index-preserved
loop-index-preserved c = λ ss all h.
    let i = c.loop-index.index in
    let v = c.index-columns-index.result in
    let s = slice_index_or ss i int in
    let Θ = scope_in all c.args.scope in
    let low = c.loop-index-test.true in
    let n = h.count in
    let column : IsColumn s all v.items = subst (λ (w : Vec ℕ Global). IsColumn s all w.items) (sym c.index-columns-index.is) (h.each i v low) in
    let value : c.number_at.result ≡ symbol_count s Θ = c.number_at.ensures ∙ ap (λ (l : List ℕ). slice_index_or l c.args.scope 0) c.deref.ensures.value ∙ column c.args.scope in
    let less : i < length ss = omega (arith, low, n) in
    product_step ss i Θ c.loop-index.count c.number_at.result c.saturating_mul-count.result less (c.loop-index.invariant ss all h) value c.saturating_mul-count.ensures

pub returns : goal.returns
returns c = λ ss all h.
    let end = c.loop-index-test.false in
    let n = h.count in
    let last : length ss ≤ c.loop-index.index = omega (arith, end, n) in
    c.loop-index.invariant ss all h ∙ ap (λ (l : List Shape). replaced_count l (scope_in all c.args.scope)) (take_all c.loop-index.index ss last)
