-- The forest goes back with the classes.
use Rattle.std.proofs.Common.{List, length, sym, ap, subst, arith}
use Rattle.lq_prover_congruence.specs.Classes.Standing.{steps_of}
use Rattle.lq_prover_congruence.specs.Classes.Forest.{IsKept}
use Rattle.lq_prover_congruence.specs.declared.classes.steps.Step.{Step}
use Rattle.lq_prover_congruence.proofs.ClassesLemmas.Kept.{kept-back}
use Rattle.lq_prover_congruence.proofs.classes.classes.Classes.back_to.Goals as goal

pub invariant_of-self : goal.invariant_of-self
invariant_of-self c =
    let s = c.self.inside.state in
    let t = c.back_to-2.new.self in
    let P : List Step → Type 0 = λ ss. IsKept ss t in
    record {
      standing = c.back_to.ensures.standing;
      kept = subst P (sym c.back_to.ensures.first) (kept-back (steps_of s.trail.items) c.args.mark.0 c.self.inside.forest t c.self.invariant.kept (omega (arith, c.requires, ap length c.self.view_is)) c.back_to-2.ensures.past c.back_to-2.ensures.log);
    }
