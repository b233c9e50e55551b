-- One term after another is filed, found or passed over.
use Rattle.std.proofs.Common.{ℕ, ◌<◌, length, Option, IfNone, ◌∙◌, subst, arith}
use Rattle.lq_prover_congruence.specs.Classes.Moves.{Files}
use Rattle.lq_prover_congruence.proofs.ClassesLemmas.Moving.{goes-on, working-skip, files-goes, working-filed, seen}
use Rattle.lq_prover_congruence.proofs.classes.state.State.next_clash.Goals as goal

pub loop-term-preserved-then-term-len : goal.loop-term-preserved-then-term-len
loop-term-preserved-then-term-len c =
    record {
      goes = c.loop-term.invariant.goes;
      labels = c.loop-term.invariant.labels;
      working = working-skip c.loop-term.self c.loop-term.queue.items c.pop.new.self.items c.in-Some.term c.in-Some.ensures.items (omega (arith, c.if-term-len.true, c.len.ensures)) c.loop-term.invariant.working;
    }

pub index-requires-in-Some-2 : goal.index-requires-in-Some-2
index-requires-in-Some-2 c =
    let z = seen c.loop-term.self c.file.new.self c.loop-term.queue.items c.pop.new.self.items c.in-Some.term c.in-Some-2.by c.in_ok-by.field-0 c.in-Some.ensures.items c.loop-term.invariant.working (omega (arith, c.if-term-len.false, c.len.ensures)) c.in_ok-by.ensures.found c.in-Some-2.is in
    omega (arith, z.within, c.file.new.self.labels.ok)

pub returns-then-left-right-clause-some : goal.returns-then-left-right-clause-some
returns-then-left-right-clause-some c =
    let z = seen c.loop-term.self c.file.new.self c.loop-term.queue.items c.pop.new.self.items c.in-Some.term c.in-Some-2.by c.in_ok-by.field-0 c.in-Some.ensures.items c.loop-term.invariant.working (omega (arith, c.if-term-len.false, c.len.ensures)) c.in_ok-by.ensures.found c.in-Some-2.is in
    z.differ c.index.result.now c.index-in-Some-2.result.now c.index.ensures c.index-in-Some-2.ensures c.if-left-right.true

pub returns-then-left-right-clause-goes : goal.returns-then-left-right-clause-goes
returns-then-left-right-clause-goes c =
    let z = seen c.loop-term.self c.file.new.self c.loop-term.queue.items c.pop.new.self.items c.in-Some.term c.in-Some-2.by c.in_ok-by.field-0 c.in-Some.ensures.items c.loop-term.invariant.working (omega (arith, c.if-term-len.false, c.len.ensures)) c.in_ok-by.ensures.found c.in-Some-2.is in
    goes-on c.args.self.now c.loop-term.self c.file.new.self c.loop-term.invariant.goes z.goes

pub loop-term-preserved-else-left-right : goal.loop-term-preserved-else-left-right
loop-term-preserved-else-left-right c =
    let z = seen c.loop-term.self c.file.new.self c.loop-term.queue.items c.pop.new.self.items c.in-Some.term c.in-Some-2.by c.in_ok-by.field-0 c.in-Some.ensures.items c.loop-term.invariant.working (omega (arith, c.if-term-len.false, c.len.ensures)) c.in_ok-by.ensures.found c.in-Some-2.is in
    record {
      goes = goes-on c.args.self.now c.loop-term.self c.file.new.self c.loop-term.invariant.goes z.goes;
      labels = z.labels ∙ c.loop-term.invariant.labels;
      working = z.equal c.index.result.now c.index-in-Some-2.result.now c.index.ensures c.index-in-Some-2.ensures c.if-left-right.false;
    }

pub loop-term-preserved : goal.loop-term-preserved
loop-term-preserved c =
    let P : Option ℕ → Type 0 = λ o. IfNone o (Files c.loop-term.self c.file.new.self c.in-Some.term) in
    let f = subst P c.in_default-2.is c.in_ok-by.ensures.filed in
    let in_range = (let z : c.in-Some.term < length c.loop-term.self.known = omega (arith, c.if-term-len.false, c.len.ensures) in z) in
    record {
      goes = goes-on c.args.self.now c.loop-term.self c.file.new.self c.loop-term.invariant.goes (files-goes c.loop-term.self c.file.new.self c.in-Some.term c.loop-term.invariant.working.sound.shaped in_range f);
      labels = f.now.labels ∙ c.loop-term.invariant.labels;
      working = working-filed c.loop-term.self c.file.new.self c.loop-term.queue.items c.pop.new.self.items c.in-Some.term c.in-Some.ensures.items c.loop-term.invariant.working in_range f;
    }
