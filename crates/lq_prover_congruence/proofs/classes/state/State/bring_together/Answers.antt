-- Two labels joined, and what follows.
use Rattle.std.proofs.Common.{length, arith, ap}
use Rattle.lq_prover_congruence.proofs.ClassesLemmas.Moving.{goes-on}
use Rattle.lq_prover_congruence.proofs.ClassesLemmas.Following.{brought}
use Rattle.lq_prover_congruence.proofs.classes.state.State.bring_together.Goals as goal

pub close-requires : goal.close-requires
close-requires c =
    (brought c.args.self.now c.join.new.self c.args.a c.args.b c.index.result.now c.index-2.result.now c.new-queue.result.items c.join.new.queue.items c.requires.working c.requires.a_in c.requires.b_in c.requires.same c.index.ensures c.index-2.ensures c.if-left-right.false c.in_ok-join.ensures.ok).working

pub returns-clause-goes : goal.returns-clause-goes
returns-clause-goes c =
    goes-on c.args.self.now c.join.new.self c.close.new.self
    (brought c.args.self.now c.join.new.self c.args.a c.args.b c.index.result.now c.index-2.result.now c.new-queue.result.items c.join.new.queue.items c.requires.working c.requires.a_in c.requires.b_in c.requires.same c.index.ensures c.index-2.ensures c.if-left-right.false c.in_ok-join.ensures.ok).goes
    c.close.ensures.goes

pub returns-clause-met : goal.returns-clause-met
returns-clause-met c =
    let b = brought c.args.self.now c.join.new.self c.args.a c.args.b c.index.result.now c.index-2.result.now c.new-queue.result.items c.join.new.queue.items c.requires.working c.requires.a_in c.requires.b_in c.requires.same c.index.ensures c.index-2.ensures c.if-left-right.false c.in_ok-join.ensures.ok in
    let n = ap length b.goes.beside.known in
    c.close.ensures.goes.coarser c.args.a c.args.b (omega (arith, c.requires.a_in)) (omega (arith, c.requires.b_in)) b.met

pub returns-in_err-close-clause-goes : goal.returns-in_err-close-clause-goes
returns-in_err-close-clause-goes c =
    goes-on c.args.self.now c.join.new.self c.close.new.self
    (brought c.args.self.now c.join.new.self c.args.a c.args.b c.index.result.now c.index-2.result.now c.new-queue.result.items c.join.new.queue.items c.requires.working c.requires.a_in c.requires.b_in c.requires.same c.index.ensures c.index-2.ensures c.if-left-right.false c.in_ok-join.ensures.ok).goes
    c.close.ensures.goes
