use Rattle.std.proofs.Common.{◌≡◌, length, rules}
use Rattle.lq_types_unify.proofs.Knowing.{grown}
use Rattle.lq_types_unify.proofs.Standing.{widened_keeps}
use Rattle.lq_types_unify.proofs.solver.Solver.grow.Goals as goal

pub returns-clause-knows : goal.returns-clause-knows
returns-clause-knows c = λ old equations l k.
    let e : c.len.result ≡ length c.args.arena.now.nodes.items = search rules in
    grown old c.args.arena.now equations c.args.self.now c.stretch.new.self c.len.result e l c.in_ok-stretch.ensures.stretched k

pub returns-in_err-stretch-clause-stands : goal.returns-in_err-stretch-clause-stands
returns-in_err-stretch-clause-stands c = λ old equations k. widened_keeps _ _ k.known.state.down c.stretch.ensures.widened

pub returns-clause-stands : goal.returns-clause-stands
returns-clause-stands c = λ old equations k. widened_keeps _ _ k.known.state.down c.stretch.ensures.widened
