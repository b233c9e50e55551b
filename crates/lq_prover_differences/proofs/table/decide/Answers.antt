use Rattle.std.proofs.Common.{sym, subst, List}
use Rattle.lq_prover_differences.specs.declared.vertex.Vertex.{Vertex}
use Rattle.lq_prover_differences.specs.Edges.{sizes}
use Rattle.lq_prover_differences.specs.Passes.{vertex_at, values}
use Rattle.lq_prover_differences.specs.Range.{InRange}
use Rattle.lq_prover_differences.proofs.Rows.{solved_all, near_sizes}
use Rattle.lq_prover_differences.proofs.Trails.{err_of}
use Rattle.lq_prover_differences.proofs.table.decide.Goals as goal

pub returns-clause-stop : goal.returns-clause-stop
returns-clause-stop c =
    let edges = c.args.edges.now in
    let g = c.catch_up.new.graph in
    let near : InRange (values (vertex_at c.deref.result.now)) (sizes edges) = subst (λ (l : List Vertex). InRange (values (vertex_at l)) (sizes edges)) (sym c.deref.ensures.value)
    (near_sizes edges (values (vertex_at g.vertices.items)) (solved_all edges g c.catch_up.new.conflict c.catch_up.new.found.items c.catch_up.ensures.standing (c.in_ok-catch_up.ensures.all c.if-conflict-2.false))) in
    err_of c.measure.result _ _ (λ stop h. h (sizes edges) near) c.measure.ensures.stop
