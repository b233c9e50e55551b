use Rattle.std.proofs.Common.{◌≡◌, ◌∙◌, sym, ap, length}
use Rattle.std.specs.Vec.{with_items}
use Rattle.std.proofs.lemmas.List.{with_items_is}
use Rattle.lq_prover_differences.proofs.Graphing.{pushed_graph, rests_again}
use Rattle.lq_prover_differences.proofs.graph.Graph.admit.Goals as goal

pub extend-requires-clause-graph : goal.extend-requires-clause-graph
extend-requires-clause-graph c =
    let g = c.args.self.now in
    rw c.push_reserved.ensures.items
    (pushed_graph g.arcs.items g.links.items g.vertices.items g.order.items g.fallen.items g.trail.items g.starts.items _ c.requires.graph (c.len.ensures ∙ g.arcs.ok.0) (c.len-2.ensures ∙ g.trail.ok.0))

pub back_to-requires-clause-rest : goal.back_to-requires-clause-rest
back_to-requires-clause-rest c =
    let g = c.extend.new.self in
    let nl : length c.rest.new.vertices ≡ length c.deref_mut.result.now = c.rest.auto.vertices in
    let ol : length c.rest.new.order ≡ length c.deref_mut-in-Ok-Some.result.now = c.rest.auto.order in
    let wv : (with_items g.vertices c.rest.new.vertices).items ≡ c.rest.new.vertices = with_items_is g.vertices c.rest.new.vertices (nl ∙ ap length c.deref_mut.ensures.value ∙ sym g.vertices.ok.0) in
    let wo : (with_items g.order c.rest.new.order).items ≡ c.rest.new.order = with_items_is g.order c.rest.new.order (ol ∙ ap length c.deref_mut-in-Ok-Some.ensures.value ∙ sym g.order.ok.0) in
    rw (wv, wo)
    (rests_again g.arcs.items g.links.items g.vertices.items c.deref_mut.result.now c.rest.new.vertices g.order.items c.deref_mut-in-Ok-Some.result.now c.rest.new.order c.clear.new.self.items g.trail.items
    g.starts.items c.extend.ensures.trail c.deref_mut.ensures.value c.deref_mut-in-Ok-Some.ensures.value c.rest.ensures.kept c.rest.ensures.rest nl ol c.clear.ensures.items)

pub back_to-requires-in-Err-clause-rest : goal.back_to-requires-in-Err-clause-rest
back_to-requires-in-Err-clause-rest c =
    let g = c.extend.new.self in
    let nl : length c.rest_all.new.vertices ≡ length c.deref_mut-in-Err.result.now = c.rest_all.auto.vertices in
    let ol : length c.rest_all.new.order ≡ length c.deref_mut-in-Err-2.result.now = c.rest_all.auto.order in
    let wv : (with_items g.vertices c.rest_all.new.vertices).items ≡ c.rest_all.new.vertices =
    with_items_is g.vertices c.rest_all.new.vertices (nl ∙ ap length c.deref_mut-in-Err.ensures.value ∙ sym g.vertices.ok.0) in
    let wo : (with_items g.order c.rest_all.new.order).items ≡ c.rest_all.new.order = with_items_is g.order c.rest_all.new.order (ol ∙ ap length c.deref_mut-in-Err-2.ensures.value ∙ sym g.order.ok.0) in
    rw (wv, wo)
    (rests_again g.arcs.items g.links.items g.vertices.items c.deref_mut-in-Err.result.now c.rest_all.new.vertices g.order.items c.deref_mut-in-Err-2.result.now c.rest_all.new.order
    c.clear-in-Err.new.self.items g.trail.items g.starts.items c.extend.ensures.trail c.deref_mut-in-Err.ensures.value c.deref_mut-in-Err-2.ensures.value c.rest_all.ensures.kept c.rest_all.ensures.rest nl ol
    c.clear-in-Err.ensures.items)
