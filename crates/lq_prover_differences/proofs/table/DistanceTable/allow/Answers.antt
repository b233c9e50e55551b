use Rattle.std.proofs.Common.{vec_capacity}
use Rattle.lq_prover_differences.specs.Table.{Table}
use Rattle.lq_prover_differences.proofs.Rows.{still_table}
use Rattle.lq_prover_differences.proofs.table.DistanceTable.allow.Goals as goal

pub invariant_of-self-in_err-reserve-2 : goal.invariant_of-self-in_err-reserve-2
invariant_of-self-in_err-reserve-2 c =
    let t : Table = record { edges = c.self.inside.edges.items; vertices = c.self.inside.graph.vertices.items; conflict = c.self.inside.conflict; found = c.self.inside.found.items; answer = c.self.inside.answer; terms = c.self.inside.terms; rows = c.self.inside.rows } in
    still_table t c.reserve.new.self.items c.self.inside.graph c.reserve-2.new.self (vec_capacity c.self.inside.edges) (vec_capacity c.reserve.new.self) (vec_capacity c.self.inside.found) c.self.invariant
    c.reserve.ensures.items c.reserve-2.ensures.same c.reserve-2.ensures.kept c.reserve.ensures.capacity
