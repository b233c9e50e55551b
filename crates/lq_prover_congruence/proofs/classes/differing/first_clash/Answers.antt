-- One entry more.
use Rattle.std.proofs.Common.{inl, inr, ℕ, List, get_or, Option, IfNone, sym, ap, ◌∙◌, subst, arith}
use Rattle.std.proofs.lemmas.List.{take_all}
use Rattle.lq_prover_congruence.specs.Classes.Steps.{IsDifference}
use Rattle.lq_prover_congruence.specs.Classes.Standing.{step_of, steps_of}
use Rattle.lq_prover_congruence.specs.declared.classes.steps.Pair.{Pair}
use Rattle.lq_prover_congruence.specs.declared.classes.steps.Entry.{Entry}
use Rattle.lq_prover_congruence.proofs.ClassesLemmas.Clashes.{told-is, told-in, told-before}
use Rattle.lq_prover_congruence.proofs.classes.differing.first_clash.Goals as goal
use Rattle.lq_prover_congruence.proofs.classes.differing.first_clash.Goals.{in-Some+else-labels-pair, in_default}

pub bounds-labels-pair : goal.bounds-labels-pair
bounds-labels-pair c = (c.requires c.in-Some.pair.left c.in-Some.pair.right (told-in c.args.trail.now c.loop-entry.entry-index c.entry-item.result c.in-Some.pair.left c.in-Some.pair.right c.loop-entry-test.true c.entry-item.is c.in-Some.ensures.some)).0

pub offset_bounds-labels-pair : goal.offset_bounds-labels-pair
offset_bounds-labels-pair c = omega (arith, (c.requires c.in-Some.pair.left c.in-Some.pair.right (told-in c.args.trail.now c.loop-entry.entry-index c.entry-item.result c.in-Some.pair.left c.in-Some.pair.right c.loop-entry-test.true c.entry-item.is c.in-Some.ensures.some)).0)

pub bounds-labels-pair-in-Some : goal.bounds-labels-pair-in-Some
bounds-labels-pair-in-Some c = (c.requires c.in-Some.pair.left c.in-Some.pair.right (told-in c.args.trail.now c.loop-entry.entry-index c.entry-item.result c.in-Some.pair.left c.in-Some.pair.right c.loop-entry-test.true c.entry-item.is c.in-Some.ensures.some)).1

pub offset_bounds-labels-pair-in-Some : goal.offset_bounds-labels-pair-in-Some
offset_bounds-labels-pair-in-Some c = omega (arith, (c.requires c.in-Some.pair.left c.in-Some.pair.right (told-in c.args.trail.now c.loop-entry.entry-index c.entry-item.result c.in-Some.pair.left c.in-Some.pair.right c.loop-entry-test.true c.entry-item.is c.in-Some.ensures.some)).1)

pub returns-then-labels-pair-clause-some : goal.returns-then-labels-pair-clause-some
returns-then-labels-pair-clause-some c = (told-in c.args.trail.now c.loop-entry.entry-index c.entry-item.result c.in-Some.pair.left c.in-Some.pair.right c.loop-entry-test.true c.entry-item.is c.in-Some.ensures.some, c.if-labels-pair.true)

pub loop-entry-preserved : goal.loop-entry-preserved
loop-entry-preserved c = λ a b d e.
    elim (told-before c.args.trail.now c.loop-entry.entry-index c.entry-item.result a b c.loop-entry-test.true c.entry-item.is d) [
      | inl p ↦ c.loop-entry.invariant a b p e
      | inr q ↦ elim c.match-told.branch [
        | in-Some+else-labels-pair w ↦
            let s = told-is c.entry-item.result w.in-Some.pair.left w.in-Some.pair.right a b w.in-Some.ensures.some q in
            w.if-labels-pair.false (ap (λ x. get_or c.args.labels.now x 0) s.0 ∙ e ∙ sym (ap (λ x. get_or c.args.labels.now x 0) s.1))
        | in_default w ↦
            (let P : Option Pair → Type 0 = λ o. IfNone o ((a b : ℕ) → IsDifference (step_of c.entry-item.result) a b → ⊥) in
            subst P w.in_default.is c.told.ensures.none a b q)
      ]
    ]

pub returns-clause-none : goal.returns-clause-none
returns-clause-none c = λ a b d.
    let P : List Entry → Type 0 = λ es. IsDifference (steps_of es) a b in
    c.loop-entry.invariant a b (subst P (sym (take_all c.loop-entry.entry-index c.args.trail.now c.loop-entry-test.false)) d)
