-- Entry after entry is taken back.
use Rattle.std.proofs.Common.{[], ◌∷◌, length, ap, arith, length-append}
use Rattle.lq_prover_congruence.proofs.ClassesLemmas.Following.{left-none, last-led, led-left, left-less, left-all}
use Rattle.lq_prover_congruence.proofs.classes.state.State.undo_to.Goals as goal

pub loop-self-init : goal.loop-self-init
loop-self-init c = record { order = c.requires.order; left = left-none c.args.self.now c.args.kept }

pub undo-requires : goal.undo-requires
undo-requires c =
    let t = c.loop-self.self in
    let led = last-led t c.args.kept (led-left c.args.self.now t c.args.kept c.requires.led c.loop-self.invariant.left) (omega (arith, c.loop-self-test.true, c.len.ensures, t.trail.ok)) in
    record { order = c.loop-self.invariant.order; led = led }

pub loop-self-preserved : goal.loop-self-preserved
loop-self-preserved c =
    let t = c.loop-self.self in
    record {
      order = c.undo.ensures.order;
      left = left-less c.args.self.now t c.undo.new.self c.args.kept c.loop-self.invariant.left (omega (arith, c.loop-self-test.true, c.len.ensures, t.trail.ok)) (record { trail = c.undo.ensures.trail; core = c.undo.ensures.core });
    }

pub loop-self-smaller : goal.loop-self-smaller
loop-self-smaller c =
    let t = c.loop-self.self in
    let led = last-led t c.args.kept (led-left c.args.self.now t c.args.kept c.requires.led c.loop-self.invariant.left) (omega (arith, c.loop-self-test.true, c.len.ensures, t.trail.ok)) in
    omega (arith, ap length (c.undo.ensures.trail led.before led.entry led.trail), ap length led.trail, length-append led.before (led.entry ∷ []))

pub returns-clause-back : goal.returns-clause-back
returns-clause-back c = left-all c.args.self.now c.loop-self.self c.args.kept c.loop-self.invariant.left (omega (arith, c.loop-self-test.false, c.len.ensures, c.loop-self.self.trail.ok))
