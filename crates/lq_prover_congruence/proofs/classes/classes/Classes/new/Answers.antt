-- Nothing stands yet.
use Rattle.std.proofs.Common.{sym, subst, List}
use Rattle.lq_prover_congruence.specs.Classes.Standing.{steps_of}
use Rattle.lq_prover_congruence.specs.Classes.Forest.{IsKept}
use Rattle.lq_prover_congruence.specs.declared.classes.steps.Entry.{Entry}
use Rattle.lq_prover_congruence.proofs.ClassesLemmas.Kept.{kept-fresh}
use Rattle.lq_prover_congruence.proofs.classes.classes.Classes.new.Goals as goal

pub invariant_of-result : goal.invariant_of-result
invariant_of-result c =
    let f = c.new-2.result in
    let P : List Entry → Type 0 = λ es. IsKept (steps_of es) f in
    record {
      standing = c.in_ok-new.ensures.standing;
      kept = subst P (sym c.in_ok-new.ensures.none) (kept-fresh f c.new-2.ensures.toward c.new-2.ensures.log);
    }
