use Rattle.std.proofs.Common.{◌≡◌, ◌∙◌, arith, refl, sym, ap, subst, length}
use Rattle.std.specs.Vec.{with_items}
use Rattle.std.proofs.lemmas.List.{with_items_is}
use Rattle.lq_prover_differences.specs.Passes.{vertex_at}
use Rattle.lq_prover_differences.specs.Links.{kept}
use Rattle.lq_prover_differences.specs.Graphs.{LeadsBack}
use Rattle.lq_prover_differences.specs.Trail.{IsReached}
use Rattle.lq_prover_differences.proofs.Trails.{trailed_same, front_length, none_of, some_of}
use Rattle.lq_prover_differences.proofs.Graphing.{leads_on, leads_then, reached_on}
use Rattle.lq_prover_differences.proofs.graph.Graph.extend.Goals as goal

pub returns-in_err-add_arcs-clause-trail : goal.returns-in_err-add_arcs-clause-trail
returns-in_err-add_arcs-clause-trail c =
    let g = c.args.self.now in
    leads_on g.arcs.items c.add_arcs.new.arcs.items g.links.items g.links.items g.vertices.items g.vertices.items g.order.items g.order.items g.fallen.items g.trail.items g.trail.items g.starts.items
    c.requires.graph c.add_arcs.ensures.front (λ j l. refl) (let s = c.requires.graph.same in omega arith) c.requires.graph.rests.back.ordered refl
    (trailed_same (length g.vertices.items) g.trail.items (kept (vertex_at g.vertices.items)) (kept (vertex_at g.vertices.items)) (λ v. refl))

pub solve-requires-clause-reached : goal.solve-requires-clause-reached
solve-requires-clause-reached c =
    let g = c.args.self.now in
    reached_on g.arcs.items c.add_arcs.new.arcs.items c.deref.result.now g.links.items c.add_links.new.links.items c.deref_mut.result.now g.vertices.items c.deref_mut-2.result.now c.len-from.result
    c.requires.graph.reached c.requires.graph.same c.add_arcs.ensures.front c.deref.ensures.value c.add_links.ensures.front c.deref_mut.ensures.value c.deref_mut-2.ensures.value
    (c.len-from.ensures ∙ g.arcs.ok.0)

pub returns-clause-trail : goal.returns-clause-trail
returns-clause-trail c =
    let g = c.args.self.now in
    let la : c.len-from.result ≡ length g.arcs.items = c.len-from.ensures ∙ g.arcs.ok.0 in
    let ml : length c.solve.new.links ≡ length c.deref_mut.result.now = c.solve.auto.links in
    let nl : length c.solve.new.vertices ≡ length c.deref_mut-2.result.now = c.solve.auto.vertices in
    let ol : length c.solve.new.order ≡ length c.deref_mut-3.result.now = c.solve.auto.order in
    let wl : (with_items c.add_links.new.links c.solve.new.links).items ≡ c.solve.new.links =
    with_items_is c.add_links.new.links c.solve.new.links (ml ∙ ap length c.deref_mut.ensures.value ∙ sym c.add_links.new.links.ok.0) in
    let wv : (with_items g.vertices c.solve.new.vertices).items ≡ c.solve.new.vertices =
    with_items_is g.vertices c.solve.new.vertices (nl ∙ ap length c.deref_mut-2.ensures.value ∙ sym g.vertices.ok.0) in
    let wo : (with_items g.order c.solve.new.order).items ≡ c.solve.new.order =
    with_items_is g.order c.solve.new.order (ol ∙ ap length c.deref_mut-3.ensures.value ∙ sym g.order.ok.0) in
    let leads : LeadsBack c.add_arcs.new.arcs.items c.solve.new.links c.solve.new.vertices c.solve.new.order c.solve.new.trail.items g.starts.items =
    leads_then g.arcs.items c.add_arcs.new.arcs.items g.links.items c.add_links.new.links.items c.deref_mut.result.now c.solve.new.links g.vertices.items c.deref_mut-2.result.now c.solve.new.vertices
    g.order.items c.deref_mut-3.result.now c.solve.new.order g.fallen.items g.trail.items c.solve.new.trail.items g.starts.items c.len-from.result
    c.requires.graph c.add_arcs.ensures.front c.add_links.ensures.front (front_length g.links.items c.add_links.new.links.items c.add_links.ensures.front)
    c.deref_mut.ensures.value c.deref_mut-2.ensures.value c.deref_mut-3.ensures.value la c.solve.ensures.before ml nl ol c.solve.ensures.trailed in
    rw (wl, wv, wo) leads

pub returns-clause-graph : goal.returns-clause-graph
returns-clause-graph c =
    let g = c.args.self.now in
    let la : c.len-from.result ≡ length g.arcs.items = c.len-from.ensures ∙ g.arcs.ok.0 in
    let ml : length c.solve.new.links ≡ length c.deref_mut.result.now = c.solve.auto.links in
    let nl : length c.solve.new.vertices ≡ length c.deref_mut-2.result.now = c.solve.auto.vertices in
    let ol : length c.solve.new.order ≡ length c.deref_mut-3.result.now = c.solve.auto.order in
    let wl : (with_items c.add_links.new.links c.solve.new.links).items ≡ c.solve.new.links =
    with_items_is c.add_links.new.links c.solve.new.links (ml ∙ ap length c.deref_mut.ensures.value ∙ sym c.add_links.new.links.ok.0) in
    let wv : (with_items g.vertices c.solve.new.vertices).items ≡ c.solve.new.vertices =
    with_items_is g.vertices c.solve.new.vertices (nl ∙ ap length c.deref_mut-2.ensures.value ∙ sym g.vertices.ok.0) in
    let wo : (with_items g.order c.solve.new.order).items ≡ c.solve.new.order =
    with_items_is g.order c.solve.new.order (ol ∙ ap length c.deref_mut-3.ensures.value ∙ sym g.order.ok.0) in
    let leads : LeadsBack c.add_arcs.new.arcs.items c.solve.new.links c.solve.new.vertices c.solve.new.order c.solve.new.trail.items g.starts.items =
    leads_then g.arcs.items c.add_arcs.new.arcs.items g.links.items c.add_links.new.links.items c.deref_mut.result.now c.solve.new.links g.vertices.items c.deref_mut-2.result.now c.solve.new.vertices
    g.order.items c.deref_mut-3.result.now c.solve.new.order g.fallen.items g.trail.items c.solve.new.trail.items g.starts.items c.len-from.result
    c.requires.graph c.add_arcs.ensures.front c.add_links.ensures.front (front_length g.links.items c.add_links.new.links.items c.add_links.ensures.front)
    c.deref_mut.ensures.value c.deref_mut-2.ensures.value c.deref_mut-3.ensures.value la c.solve.ensures.before ml nl ol c.solve.ensures.trailed in
    none_of c.solve.result _ _ _ _ c.solve.ensures.reached c.solve.ensures.rest c.solve.ensures.empty (λ reached rest empty.
    let r = subst (λ l. IsReached l c.solve.new.links (length l) (kept (vertex_at c.solve.new.vertices))) c.deref.ensures.value reached in
    let same : length c.solve.new.links ≡ length c.add_arcs.new.arcs.items = ml ∙ ap length c.deref_mut.ensures.value ∙ c.add_links.ensures.same ∙ c.len.ensures ∙ c.add_arcs.new.arcs.ok.0 in
    rw (wl, wv, wo) (record { rests = record { back = leads; rest = rest; empty = empty }; same = same; reached = r }))

pub returns-clause-listed : goal.returns-clause-listed
returns-clause-listed c =
    let g = c.args.self.now in
    let la : c.len-from.result ≡ length g.arcs.items = c.len-from.ensures ∙ g.arcs.ok.0 in
    let ml : length c.solve.new.links ≡ length c.deref_mut.result.now = c.solve.auto.links in
    let nl : length c.solve.new.vertices ≡ length c.deref_mut-2.result.now = c.solve.auto.vertices in
    let ol : length c.solve.new.order ≡ length c.deref_mut-3.result.now = c.solve.auto.order in
    let wl : (with_items c.add_links.new.links c.solve.new.links).items ≡ c.solve.new.links =
    with_items_is c.add_links.new.links c.solve.new.links (ml ∙ ap length c.deref_mut.ensures.value ∙ sym c.add_links.new.links.ok.0) in
    let wv : (with_items g.vertices c.solve.new.vertices).items ≡ c.solve.new.vertices =
    with_items_is g.vertices c.solve.new.vertices (nl ∙ ap length c.deref_mut-2.ensures.value ∙ sym g.vertices.ok.0) in
    let wo : (with_items g.order c.solve.new.order).items ≡ c.solve.new.order =
    with_items_is g.order c.solve.new.order (ol ∙ ap length c.deref_mut-3.ensures.value ∙ sym g.order.ok.0) in
    let leads : LeadsBack c.add_arcs.new.arcs.items c.solve.new.links c.solve.new.vertices c.solve.new.order c.solve.new.trail.items g.starts.items =
    leads_then g.arcs.items c.add_arcs.new.arcs.items g.links.items c.add_links.new.links.items c.deref_mut.result.now c.solve.new.links g.vertices.items c.deref_mut-2.result.now c.solve.new.vertices
    g.order.items c.deref_mut-3.result.now c.solve.new.order g.fallen.items g.trail.items c.solve.new.trail.items g.starts.items c.len-from.result
    c.requires.graph c.add_arcs.ensures.front c.add_links.ensures.front (front_length g.links.items c.add_links.new.links.items c.add_links.ensures.front)
    c.deref_mut.ensures.value c.deref_mut-2.ensures.value c.deref_mut-3.ensures.value la c.solve.ensures.before ml nl ol c.solve.ensures.trailed in
    some_of c.solve.result _ _ (λ k h. rw (wv, wo) h) c.solve.ensures.listed
