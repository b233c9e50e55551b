use Rattle.std.proofs.Common.{refl, sym}
use Rattle.lq_prover_simplex.proofs.Histories.{history_skip}
use Rattle.lq_prover_simplex.proofs.limits.Limits.admit.Goals as goal

pub returns-in-Some-clause-history : goal.returns-in-Some-clause-history
returns-in-Some-clause-history c =
    c.tighten.ensures.history c.args.rows.now c.args.standing.now refl (sym c.equal.ensures) c.in-Some.is (c.reach.ensures.history c.args.rows.now c.requires.history)

pub returns-in_default-clause-history : goal.returns-in_default-clause-history
returns-in_default-clause-history c =
    history_skip c.args.rows.now c.args.standing.now c.reach.new.self.intervals.items c.reach.new.self.changes.items (c.reach.ensures.history c.args.rows.now c.requires.history) c.in_default.is
