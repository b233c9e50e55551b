-- The last entry is of an early step.
use Rattle.std.proofs.Common.{◌≡◌, List, Some, refl, sym, subst, length, ◌-◌}
use Rattle.std.specs.List.{slice_get}
use Rattle.lq_prover_congruence.specs.declared.classes.forest.Written.{Written}
use Rattle.lq_prover_congruence.proofs.ClassesLemmas.Logs.{early-last}
use Rattle.lq_prover_congruence.proofs.classes.forest.Forest.take_late.Goals as goal

pub returns-then-last-step-clause-none : goal.returns-then-last-step-clause-none
returns-then-last-step-clause-none c =
    let log = c.args.self.now.log.items in
    let last = c.in_ok-last.field-0.now in
    let P : List Written → Type 0 = λ ws. slice_get ws (length ws - 1) ≡ Some last in
    let is : slice_get c.deref.result.now (length c.deref.result.now - 1) ≡ Some last = sym c.in_ok-last.ensures.value in
    (refl, λ n m h. early-last c.args.step n m log last (subst P c.deref.ensures.value is) c.if-last-step.true h)
