use Rattle.std.proofs.Common.{◌∙◌, ap, replicate}
use Rattle.lq_prover_differences.proofs.Graphing.{new_graph}
use Rattle.lq_prover_differences.proofs.graph.Graph.new.Goals as goal

pub returns-clause-graph : goal.returns-clause-graph
returns-clause-graph c =
    let v = c.in_ok-vec.ensures.items_if_clones_equal (λ y e. e) ∙ ap (replicate c.args.count) c.untouched-vertex.ensures in
    let o = c.in_ok-vec-2.ensures.items_if_clones_equal (λ y e. e) in
    rw (c.new.ensures.items, c.new-2.ensures.items, c.new-3.ensures.items, c.in_ok-fallen.ensures.items, c.in_ok-with_capacity.ensures.items, v, o) (new_graph c.args.count)
