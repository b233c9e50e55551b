use Rattle.lq_prover_simplex.specs.Bounds.{unlimited}
use Rattle.lq_prover_simplex.proofs.Values.{element}
use Rattle.lq_prover_simplex.proofs.Histories.{history_changes, history_stays}
use Rattle.lq_prover_simplex.proofs.limits.Limits.tighten.Goals as goal

pub returns-in-Some-clause-history : goal.returns-in-Some-clause-history
returns-in-Some-clause-history c = λ rows s e q b h.
    let intervals = c.args.self.now.intervals.items in
    rw c.push_reserved.ensures.items
    (history_changes rows s c.args.bound.now intervals c.args.self.now.changes.items c.args.row c.args.equal c.index.result.now c.in-Some.interval h e q b c.requires.inside
    (element intervals c.args.bound.now.variable c.index.result.now unlimited c.requires.inside c.index.ensures) c.in-Some.ensures.some)

pub returns-in_default-clause-history : goal.returns-in_default-clause-history
returns-in_default-clause-history c = λ rows s e q b h.
    let intervals = c.args.self.now.intervals.items in
    history_stays rows s c.args.bound.now intervals c.args.self.now.changes.items c.args.row c.args.equal c.index.result.now h e q b
    (element intervals c.args.bound.now.variable c.index.result.now unlimited c.requires.inside c.index.ensures) c.in_default.ensures.none
