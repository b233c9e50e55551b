-- The forest stays beside a difference.
use Rattle.std.proofs.Common.{List, sym, subst, arith}
use Rattle.lq_prover_congruence.specs.Classes.Standing.{core_of, steps_of}
use Rattle.lq_prover_congruence.specs.Classes.Forest.{IsKept}
use Rattle.lq_prover_congruence.specs.declared.classes.steps.Step.{Step}
use Rattle.lq_prover_congruence.proofs.ClassesLemmas.Following.{known-terms}
use Rattle.lq_prover_congruence.proofs.ClassesLemmas.Kept.{either, kept-differed}
use Rattle.lq_prover_congruence.proofs.classes.classes.Classes.differ.Goals as goal

pub differ-requires-clause-a_in : goal.differ-requires-clause-a_in
differ-requires-clause-a_in c = omega (arith, c.requires.a_in, known-terms c.self.inside.state c.args.self.now c.self.invariant.standing c.self.view_is)

pub differ-requires-clause-b_in : goal.differ-requires-clause-b_in
differ-requires-clause-b_in c = omega (arith, c.requires.b_in, known-terms c.self.inside.state c.args.self.now c.self.invariant.standing c.self.view_is)

pub invariant_of-self : goal.invariant_of-self
invariant_of-self c =
    let s = c.self.inside.state in
    let f = c.self.inside.forest in
    let P : List Step → Type 0 = λ ss. IsKept ss f in
    record {
      standing = c.differ.ensures.standing;
      kept = either c.differ.result _ _ _ c.differ.ensures.ok c.differ.ensures.err
          (λ e. subst P (sym e) (kept-differed (steps_of s.trail.items) c.args.a c.args.b (core_of s) f c.self.invariant.standing.exact c.self.invariant.kept))
          (λ e. subst P (sym e) c.self.invariant.kept);
    }
