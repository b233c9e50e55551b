-- A term with what follows, or taken back.
use Rattle.std.proofs.Common.{◌≡◌, ℕ, List, [], ◌∷◌, ◌++◌, length, sym, ap₂, ◌∙◌, subst, arith}
use Rattle.lq_prover_congruence.specs.Classes.Moves.{IsWorking}
use Rattle.lq_prover_congruence.specs.declared.classes.steps.Step.TheVariants.{Added}
use Rattle.lq_prover_congruence.proofs.ClassesLemmas.Moving.{steps-stay}
use Rattle.lq_prover_congruence.proofs.ClassesLemmas.Following.{steps-now, order-goes, working-added, add-standing, led-at, step-undone}
use Rattle.lq_prover_congruence.proofs.classes.state.State.add_new.Goals as goal

pub close-requires : goal.close-requires
close-requires c =
    let s = c.args.self.now in
    let queue : c.push.new.self.items ≡ length s.known ∷ [] = c.in_ok-push.ensures.items ∙ ap₂ (λ q x. q ++ x ∷ []) c.new-queue.ensures.items c.len.ensures in
    let P : List ℕ → Type 0 = λ q. IsWorking c.add.new.self q 0 0 in
    subst P (sym queue) (working-added s c.add.new.self c.args.key.head c.args.args c.requires.standing c.in_ok-add.ensures.ok)

pub undo_to-requires-clause-order : goal.undo_to-requires-clause-order
undo_to-requires-clause-order c = order-goes c.add.new.self c.close.new.self c.in_ok-add.ensures.ok.order c.close.ensures.goes

pub undo_to-requires-clause-led : goal.undo_to-requires-clause-led
undo_to-requires-clause-led c =
    let s = c.args.self.now in
    led-at s c.add.new.self c.close.new.self (Added c.args.key.head c.args.args) c.len-kept.result c.requires.standing c.in_ok-add.ensures.ok c.close.ensures.goes (omega (arith, c.len-kept.ensures, s.trail.ok))

pub returns-in-Err-clause-standing : goal.returns-in-Err-clause-standing
returns-in-Err-clause-standing c =
    let s = c.args.self.now in
    (step-undone s c.add.new.self c.close.new.self c.undo_to.new.self (Added c.args.key.head c.args.args) c.len-kept.result c.requires.standing c.in_ok-add.ensures.ok c.close.ensures.goes (omega (arith, c.len-kept.ensures, s.trail.ok)) c.undo_to.ensures.back c.undo_to.ensures.order).0

pub returns-in-Err-clause-err : goal.returns-in-Err-clause-err
returns-in-Err-clause-err c =
    let s = c.args.self.now in
    (step-undone s c.add.new.self c.close.new.self c.undo_to.new.self (Added c.args.key.head c.args.args) c.len-kept.result c.requires.standing c.in_ok-add.ensures.ok c.close.ensures.goes (omega (arith, c.len-kept.ensures, s.trail.ok)) c.undo_to.ensures.back c.undo_to.ensures.order).1

pub returns-clause-standing : goal.returns-clause-standing
returns-clause-standing c = add-standing c.args.self.now c.add.new.self c.close.new.self c.args.key.head c.args.args c.requires.standing c.in_ok-add.ensures.ok c.close.ensures.goes c.in_default.ensures.done

pub returns-clause-ok : goal.returns-clause-ok
returns-clause-ok c =
    steps-stay c.add.new.self c.close.new.self c.close.ensures.goes ∙ steps-now c.args.self.now c.add.new.self (Added c.args.key.head c.args.args) c.in_ok-add.ensures.ok
