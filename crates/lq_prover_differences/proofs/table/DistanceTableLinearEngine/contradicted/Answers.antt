use Rattle.std.proofs.Common.{◌<◌, subst}
use Rattle.lq_logic_rows.specs.declared.limits.TheConstants.{SUM_LIMIT}
use Rattle.lq_prover_differences.specs.Table.{Table, table_multipliers}
use Rattle.lq_prover_differences.proofs.Rows.{answer_solves, solved_all, known_contradicts, sizes_are}
use Rattle.lq_prover_differences.proofs.table.DistanceTableLinearEngine.contradicted.Goals as goal

pub returns-clause-contradicts : goal.returns-clause-contradicts
returns-clause-contradicts c = λ h.
    let t : Table = record { edges = c.self.inside.edges.items; vertices = c.self.inside.graph.vertices.items; conflict = c.self.inside.conflict; found = c.self.inside.found.items; answer = c.self.inside.answer; terms = c.self.inside.terms; rows = c.self.inside.rows } in
    rw (← c.self.view_is) (table_multipliers t, known_contradicts t.edges c.self.inside.graph t.conflict t.found c.self.invariant.standing h)

pub returns-clause-decided : goal.returns-clause-decided
returns-clause-decided c = λ h small.
    let t : Table = record { edges = c.self.inside.edges.items; vertices = c.self.inside.graph.vertices.items; conflict = c.self.inside.conflict; found = c.self.inside.found.items; answer = c.self.inside.answer; terms = c.self.inside.terms; rows = c.self.inside.rows } in
    rw (← c.self.view_is) (answer_solves t c.self.invariant.standing.in_range (solved_all t.edges c.self.inside.graph t.conflict t.found c.self.invariant.standing
    (c.self.invariant.decided h (subst (λ n. n < SUM_LIMIT) (sizes_are t.edges) (rw (← c.self.view_is) at small)))))
