use Rattle.lq_prover_simplex.proofs.Histories.{history_place}
use Rattle.lq_prover_simplex.proofs.limits.Limits.reach.Goals as goal

pub returns-then-len-variables-clause-history : goal.returns-then-len-variables-clause-history
returns-then-len-variables-clause-history c = λ rows h.
    rw c.push_reserved.ensures.items (history_place rows c.args.self.now.intervals.items c.args.self.now.changes.items h)
