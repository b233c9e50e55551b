-- One edge turned round.
use Rattle.std.proofs.Common.{suc, refl, sym, ◌∙◌}
use Rattle.lq_prover_congruence.proofs.ClassesLemmas.Logs.{follows-on, follows-writes, log-stays, log-writes}
use Rattle.lq_prover_congruence.proofs.ClassesLemmas.Turning.{turning-first, turning-on, turning-done}
use Rattle.lq_prover_congruence.proofs.classes.forest.Forest.turn.Goals as goal

pub loop-was-init : goal.loop-was-init
loop-was-init c = turning-first c.args.self.now c.args.step c.args.from c.args.to c.args.reason _ refl refl c.requires.log c.requires.rooted c.requires.apart

pub returns-in_err-was-clause-log : goal.returns-in_err-was-clause-log
returns-in_err-was-clause-log c = log-stays (suc c.args.step) c.loop-was.self c.write.new.self c.in_err-was.ensures.err c.loop-was.invariant.log

pub loop-was-smaller : goal.loop-was-smaller
loop-was-smaller c =
    (turning-on c.args.self.now c.loop-was.self c.write.new.self c.args.step c.args.from c.args.to c.args.reason c.loop-was.at c.loop-was.edge c.in-Some.was (record { to = c.loop-was.at; reason = c.in-Some.was.reason }) c.loop-was.invariant c.in_ok-was.ensures.ok (sym c.in_ok-was.ensures.was ∙ c.in-Some.is) refl refl).smaller

pub loop-was-preserved : goal.loop-was-preserved
loop-was-preserved c =
    (turning-on c.args.self.now c.loop-was.self c.write.new.self c.args.step c.args.from c.args.to c.args.reason c.loop-was.at c.loop-was.edge c.in-Some.was (record { to = c.loop-was.at; reason = c.in-Some.was.reason }) c.loop-was.invariant c.in_ok-was.ensures.ok (sym c.in_ok-was.ensures.was ∙ c.in-Some.is) refl refl).turning

pub returns-clause-past : goal.returns-clause-past
returns-clause-past c =
    follows-on c.args.step c.args.self.now c.loop-was.self c.write.new.self c.loop-was.invariant.past (follows-writes c.args.step c.loop-was.self c.write.new.self c.loop-was.at c.loop-was.edge c.in_ok-was.ensures.ok)

pub returns-clause-log : goal.returns-clause-log
returns-clause-log c = log-writes c.args.step c.loop-was.self c.write.new.self c.loop-was.at c.loop-was.edge c.in_ok-was.ensures.ok c.loop-was.invariant.log

pub returns-clause-ok : goal.returns-clause-ok
returns-clause-ok c =
    turning-done c.args.self.now c.loop-was.self c.write.new.self c.args.step c.args.from c.args.to c.args.reason c.loop-was.at c.loop-was.edge c.loop-was.invariant c.in_ok-was.ensures.ok (sym c.in_ok-was.ensures.was ∙ c.in_default.is)
