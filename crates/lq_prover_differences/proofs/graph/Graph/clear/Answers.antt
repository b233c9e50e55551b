use Rattle.std.proofs.Common.{◌≡◌, ◌∙◌, length, replicate, ap, ap₂}
use Rattle.lq_prover_differences.specs.Passes.{blank}
use Rattle.lq_prover_differences.proofs.Graphing.{new_graph}
use Rattle.lq_prover_differences.proofs.graph.Graph.clear.Goals as goal

pub returns-clause-graph : goal.returns-clause-graph
returns-clause-graph c =
    let g = c.args.self.now in
    let v : c.fill.new.self.items ≡ replicate (length g.vertices.items) blank = c.fill.ensures.items (λ y e. e) ∙ ap₂ replicate g.vertices.ok.0 c.untouched.ensures in
    let o : c.fill-2.new.self.items ≡ replicate (length g.vertices.items) 0 = c.fill-2.ensures.items (λ y e. e) ∙ ap (λ n. replicate n 0) (g.order.ok.0 ∙ c.requires.rest.back.ordered) in
    rw (c.clear.ensures.items, c.clear-2.ensures.items, v, o, c.clear-3.ensures.items, c.clear-4.ensures.items, c.clear-5.ensures.items) (new_graph (length g.vertices.items))
