-- What the last entry did is undone.
use Rattle.std.proofs.Common.{◌≡◌, ℕ, List, length, sym, ap, ◌∙◌, subst, arith}
use Rattle.lq_prover_congruence.specs.Classes.Terms.{Term}
use Rattle.lq_prover_congruence.specs.Classes.Standing.{core_of, steps_of, HasUses}
use Rattle.lq_prover_congruence.specs.Classes.Standing.{Does}
use Rattle.lq_prover_congruence.specs.declared.classes.steps.Entry.{Entry}
use Rattle.lq_prover_congruence.specs.declared.classes.steps.Entry.TheVariants.{Done}
use Rattle.lq_prover_congruence.specs.declared.classes.steps.Step.TheVariants.{Added}
use Rattle.lq_prover_congruence.proofs.ClassesLemmas.Trail.{steps-last, order-after, popped-led, step-only}
use Rattle.lq_prover_congruence.proofs.ClassesLemmas.Undone.{snoc-front, snoc-last, same-core}
use Rattle.lq_prover_congruence.proofs.classes.state.State.undo.Goals as goal

pub overflow_sub-self : goal.overflow_sub-self
overflow_sub-self c =
    let s = c.args.self.now in
    let led = c.requires.led in
    let p = popped-led s led c.pop.new.self.items c.in-Some-Done.field-0 _ c.in-Some-Done.ensures.items c.in-Some-Done.field-0-is in
    omega (arith, c.requires.order.steps, ap (λ l. length (steps_of l)) led.trail, steps-last led.before led.entry, p.count)

pub returns-in-Some-Filed-clause-order : goal.returns-in-Some-Filed-clause-order
returns-in-Some-Filed-clause-order c =
    let s = c.args.self.now in
    let led = c.requires.led in
    let p = popped-led s led c.pop.new.self.items c.in-Some-Filed.field-0 _ c.in-Some-Filed.ensures.items c.in-Some-Filed.field-0-is in
    let f = p.did in
    let less = snoc-front c.pop-in-Some-Filed.new.self led.from.filed c.pop-in-Some-Filed.ensures.0 f.entry (sym c.pop-in-Some-Filed.ensures.1 ∙ f.filed) in
    order-after s _ led c.requires.order (same-core s.known led.from.known s.labels.items led.from.labels s.rings led.from.next c.pop-in-Some-Filed.new.self led.from.filed f.known f.labels f.next less) p.before c.requires.order.uses c.requires.order.sizes (omega (arith, p.count))

pub returns-in-Some-Joined-clause-order : goal.returns-in-Some-Joined-clause-order
returns-in-Some-Joined-clause-order c =
    let s = c.args.self.now in
    let led = c.requires.led in
    let p = popped-led s led c.pop.new.self.items c.in-Some-Joined.field-0 _ c.in-Some-Joined.ensures.items c.in-Some-Joined.field-0-is in
    let b = c.part.ensures.beside in
    let U1 : List (Term × ℕ) → Type 0 = λ ks. HasUses ks s.uses.items in
    let U2 : List (List ℕ) → Type 0 = λ us. HasUses c.part.new.self.known us in
    order-after s c.part.new.self led c.requires.order (c.part.ensures.core led.from led.shaped p.did) (ap (λ v. v.items) c.part.ensures.trail ∙ p.before)
    (subst U2 (sym b.uses) (subst U1 (sym b.known) c.requires.order.uses)) (b.sizes ∙ c.requires.order.sizes ∙ sym (ap length b.known)) (omega (arith, b.steps, p.count))

pub returns-in-Added-clause-core : goal.returns-in-Added-clause-core
returns-in-Added-clause-core c = λ before entry from t shaped d.
    let s = c.args.self.now in
    let e : entry ≡ Done (Added c.in-Added.field-0 c.in-Added.args) = snoc-last before c.pop.new.self.items entry c.in-Some-Done.field-0 (sym t ∙ c.in-Some-Done.ensures.items) ∙ c.in-Some-Done.field-0-is ∙ ap Done c.in-Added.is in
    let P : Entry → Type 0 = λ x. Does x from (core_of s) in
    c.remove.ensures.core c.in-Added.field-0 from shaped (subst P e d)

pub returns-in-Added-clause-order : goal.returns-in-Added-clause-order
returns-in-Added-clause-order c =
    let s = c.args.self.now in
    let led = c.requires.led in
    let p = popped-led s led c.pop.new.self.items c.in-Some-Done.field-0 (Done (Added c.in-Added.field-0 c.in-Added.args)) c.in-Some-Done.ensures.items (c.in-Some-Done.field-0-is ∙ ap Done c.in-Added.is) in
    order-after s c.remove.new.self led c.requires.order (c.remove.ensures.core c.in-Added.field-0 led.from led.shaped p.did) (ap (λ v. v.items) c.remove.ensures.trail ∙ p.before)
    c.remove.ensures.uses c.remove.ensures.sizes (omega (arith, c.remove.ensures.steps, p.count))

pub returns-in_default : goal.returns-in_default
returns-in_default c =
    let s = c.args.self.now in
    let led = c.requires.led in
    let p = popped-led s led c.pop.new.self.items c.in-Some-Done.field-0 (Done c.in-Some-Done.step) c.in-Some-Done.ensures.items c.in-Some-Done.field-0-is in
    let at = step-only c.in-Some-Done.step c.in_default.not-Added in
    record {
      trail = λ before entry t. snoc-front c.pop.new.self.items before c.in-Some-Done.field-0 entry (sym c.in-Some-Done.ensures.items ∙ t);
      core = λ before entry from t shaped d.
          (let e : entry ≡ Done c.in-Some-Done.step = snoc-last before c.pop.new.self.items entry c.in-Some-Done.field-0 (sym t ∙ c.in-Some-Done.ensures.items) ∙ c.in-Some-Done.field-0-is in
          let P : Entry → Type 0 = λ x. Does x from (core_of s) in
          sym (at from (core_of s) (subst P e d)));
      order = order-after s _ led c.requires.order (sym (at led.from (core_of s) p.did)) p.before c.requires.order.uses c.requires.order.sizes (omega (arith, p.count));
    }
