use Rattle.std.proofs.Common.{◌≡◌, ◌∙◌, sym, ap, length}
use Rattle.std.specs.Vec.{with_items}
use Rattle.std.proofs.lemmas.List.{with_items_is}
use Rattle.lq_prover_differences.specs.Trail.{start_at}
use Rattle.lq_prover_differences.proofs.Graphing.{back_graph_by, default_same}
use Rattle.lq_prover_differences.proofs.graph.Graph.back_to.Goals as goal

pub returns-clause-graph : goal.returns-clause-graph
returns-clause-graph c =
    let g = c.args.self.now in
    let n : length c.undo.new.vertices ≡ length g.vertices.items = c.undo.auto.vertices ∙ ap length c.deref_mut.ensures.value in
    let w : (with_items g.vertices c.undo.new.vertices).items ≡ c.undo.new.vertices = with_items_is g.vertices c.undo.new.vertices (n ∙ sym g.vertices.ok.0) in
    let e : start_at g.starts.items c.args.rows ≡ c.index-start.result.now = default_same g.starts.items c.args.rows (record { arcs = 0; trail = 0 }) c.index-start.result.now c.requires.before ∙ sym c.index-start.ensures in
    rw (w, c.undo.ensures.trail, c.truncate.ensures.items, c.truncate-2.ensures.items, c.truncate-3.ensures.items)
    (back_graph_by g.arcs.items g.links.items g.vertices.items c.deref_mut.result.now c.undo.new.vertices g.order.items g.fallen.items g.trail.items g.starts.items c.args.rows c.index-start.result.now
    c.requires.rest c.requires.before e c.deref_mut.ensures.value c.undo.ensures.back c.undo.ensures.rest n)
