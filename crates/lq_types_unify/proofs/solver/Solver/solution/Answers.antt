use Rattle.std.proofs.Common.{ℕ, ◌+◌, length}
use Rattle.lq_types_unify.specs.Nodes.{form_at}
use Rattle.lq_types_unify.proofs.Principal.{principal}
use Rattle.lq_types_unify.proofs.solver.Solver.solution.Goals as goal

pub returns-in-Some-clause-principal : goal.returns-in-Some-clause-principal
returns-in-Some-clause-principal c = λ equations k.
    let s = rw c.in-Some.is at c.in_ok-order.ensures.some in
    let t = c.in_ok-order.ensures.knows equations k in
    let bound : ℕ = length c.in-Some.order.items + 1 in
    principal (form_at c.args.arena.now) (length c.args.arena.now.nodes.items) c.order.new.self.parents.items c.order.new.self.shapes.items c.order.new.self.found.items equations bound t.known s.ranked
