-- A merge with what follows, or taken back.
use Rattle.std.proofs.Common.{List, refl, sym, ◌∙◌, subst, arith}
use Rattle.lq_prover_congruence.specs.Classes.Steps.{IsSame, merged}
use Rattle.lq_prover_congruence.specs.Classes.Standing.{steps_of}
use Rattle.lq_prover_congruence.specs.declared.classes.steps.Step.{Step}
use Rattle.lq_prover_congruence.specs.declared.classes.steps.Step.TheVariants.{Merged}
use Rattle.lq_prover_congruence.proofs.ClassesLemmas.Longer.{merge-here}
use Rattle.lq_prover_congruence.proofs.ClassesLemmas.Moving.{steps-stay}
use Rattle.lq_prover_congruence.proofs.ClassesLemmas.Following.{steps-now, order-goes, working-noted, merge-standing, led-at, step-undone}
use Rattle.lq_prover_congruence.proofs.classes.state.State.merge.Goals as goal

pub bring_together-requires-clause-working : goal.bring_together-requires-clause-working
bring_together-requires-clause-working c =
    let n = c.in_ok-note.ensures.ok in
    working-noted c.args.self.now c.note.new.self (Merged c.args.a c.args.b c.args.reason) c.requires.standing n (sym n.did) refl

pub bring_together-requires-clause-same : goal.bring_together-requires-clause-same
bring_together-requires-clause-same c =
    let step = Merged c.args.a c.args.b c.args.reason in
    let P : List Step → Type 0 = λ ss. IsSame ss c.args.a c.args.b in
    subst P (sym (steps-now c.args.self.now c.note.new.self step c.in_ok-note.ensures.ok))
    (merged c.args.a c.args.b c.args.reason (merge-here (steps_of c.args.self.now.trail.items) step c.args.a c.args.b c.args.reason refl))

pub undo_to-requires-clause-order : goal.undo_to-requires-clause-order
undo_to-requires-clause-order c = order-goes c.note.new.self c.bring_together.new.self c.in_ok-note.ensures.ok.order c.bring_together.ensures.goes

pub undo_to-requires-clause-led : goal.undo_to-requires-clause-led
undo_to-requires-clause-led c =
    let s = c.args.self.now in
    led-at s c.note.new.self c.bring_together.new.self (Merged c.args.a c.args.b c.args.reason) c.len-kept.result c.requires.standing c.in_ok-note.ensures.ok c.bring_together.ensures.goes (omega (arith, c.len-kept.ensures, s.trail.ok))

pub returns-in-Err-clause-standing : goal.returns-in-Err-clause-standing
returns-in-Err-clause-standing c =
    let s = c.args.self.now in
    (step-undone s c.note.new.self c.bring_together.new.self c.undo_to.new.self (Merged c.args.a c.args.b c.args.reason) c.len-kept.result c.requires.standing c.in_ok-note.ensures.ok c.bring_together.ensures.goes (omega (arith, c.len-kept.ensures, s.trail.ok)) c.undo_to.ensures.back c.undo_to.ensures.order).0

pub returns-in-Err-clause-err : goal.returns-in-Err-clause-err
returns-in-Err-clause-err c =
    let s = c.args.self.now in
    (step-undone s c.note.new.self c.bring_together.new.self c.undo_to.new.self (Merged c.args.a c.args.b c.args.reason) c.len-kept.result c.requires.standing c.in_ok-note.ensures.ok c.bring_together.ensures.goes (omega (arith, c.len-kept.ensures, s.trail.ok)) c.undo_to.ensures.back c.undo_to.ensures.order).1

pub returns-clause-standing : goal.returns-clause-standing
returns-clause-standing c =
    merge-standing c.args.self.now c.note.new.self c.bring_together.new.self c.args.a c.args.b c.args.reason c.requires.standing c.in_ok-note.ensures.ok c.bring_together.ensures.goes c.in_default.ensures.working c.in_default.ensures.met c.requires.a_in c.requires.b_in

pub returns-clause-ok : goal.returns-clause-ok
returns-clause-ok c =
    steps-stay c.note.new.self c.bring_together.new.self c.bring_together.ensures.goes ∙ steps-now c.args.self.now c.note.new.self (Merged c.args.a c.args.b c.args.reason) c.in_ok-note.ensures.ok
