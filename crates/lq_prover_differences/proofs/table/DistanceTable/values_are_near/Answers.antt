use Rattle.std.proofs.Common.{◌≡◌, subst, sym, arith}
use Rattle.lq_logic_rows.specs.Answers.{Held}
use Rattle.lq_prover_differences.specs.Edges.{arcs_of}
use Rattle.lq_prover_differences.specs.Passes.{vertex_at, values}
use Rattle.lq_prover_differences.specs.Solving.{IsSolved}
use Rattle.lq_prover_differences.specs.Table.{Table, table_last}
use Rattle.lq_prover_differences.proofs.Rows.{held, value_near, difference_near}
use Rattle.lq_prover_differences.proofs.table.DistanceTable.values_are_near.Goals as goal

pub returns-clause-value : goal.returns-clause-value
returns-clause-value c =
    let t : Table = record { edges = c.self.inside.edges.items; vertices = c.self.inside.graph.vertices.items; conflict = c.self.inside.conflict; found = c.self.inside.found.items; answer = c.self.inside.answer; terms = c.self.inside.terms; rows = c.self.inside.rows } in
    let last : table_last t ≡ Held = subst (λ (u : Table). table_last u ≡ Held) (sym c.self.view_is) c.requires in
    let solved : IsSolved (arcs_of t.edges) (values (vertex_at t.vertices)) = held t c.self.inside.graph _ _ c.self.invariant last in
    rw (← c.self.view_is) (λ term l. value_near t term (let s = c.self.invariant.sized in omega arith) solved)

pub returns-clause-difference : goal.returns-clause-difference
returns-clause-difference c =
    let t : Table = record { edges = c.self.inside.edges.items; vertices = c.self.inside.graph.vertices.items; conflict = c.self.inside.conflict; found = c.self.inside.found.items; answer = c.self.inside.answer; terms = c.self.inside.terms; rows = c.self.inside.rows } in
    let last : table_last t ≡ Held = subst (λ (u : Table). table_last u ≡ Held) (sym c.self.view_is) c.requires in
    let solved : IsSolved (arcs_of t.edges) (values (vertex_at t.vertices)) = held t c.self.inside.graph _ _ c.self.invariant last in
    rw (← c.self.view_is) (λ j k l m. difference_near t j k (let s = c.self.invariant.sized in omega arith) (let s = c.self.invariant.sized in omega arith) solved)
