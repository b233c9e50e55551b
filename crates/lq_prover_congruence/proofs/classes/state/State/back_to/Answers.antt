-- Entry after entry is taken back.
use Rattle.std.proofs.Common.{[], ◌∷◌, length, ap, arith, length-append}
use Rattle.lq_prover_congruence.proofs.ClassesLemmas.Following.{going-first, going-led, going-on, gone-back}
use Rattle.lq_prover_congruence.proofs.classes.state.State.back_to.Goals as goal

pub loop-self-init : goal.loop-self-init
loop-self-init c = going-first c.args.self.now c.args.steps c.requires.standing c.requires.enough

pub undo-requires : goal.undo-requires
undo-requires c = record { order = c.loop-self.invariant.order; led = going-led c.args.self.now c.loop-self.self c.args.steps c.loop-self.invariant (omega (arith, c.loop-self-test.true)) }

pub loop-self-preserved : goal.loop-self-preserved
loop-self-preserved c =
    going-on c.args.self.now c.loop-self.self c.undo.new.self c.args.steps c.loop-self.invariant (omega (arith, c.loop-self-test.true)) (record { trail = c.undo.ensures.trail; core = c.undo.ensures.core }) c.undo.ensures.order

pub loop-self-smaller : goal.loop-self-smaller
loop-self-smaller c =
    let led = going-led c.args.self.now c.loop-self.self c.args.steps c.loop-self.invariant (omega (arith, c.loop-self-test.true)) in
    omega (arith, ap length (c.undo.ensures.trail led.before led.entry led.trail), ap length led.trail, length-append led.before (led.entry ∷ []))

pub returns : goal.returns
returns c =
    let r = gone-back c.args.self.now c.loop-self.self c.args.steps c.loop-self.invariant (omega (arith, c.loop-self-test.false)) in
    record { standing = r.0; first = r.1 }
