-- The merge is noted in the forest first, and taken off it where the classes refuse it.
use Rattle.std.proofs.Common.{List, sym, subst, arith}
use Rattle.lq_prover_congruence.specs.Classes.Standing.{steps_of}
use Rattle.lq_prover_congruence.specs.Classes.Forest.{IsKept}
use Rattle.lq_prover_congruence.specs.declared.classes.steps.Step.{Step}
use Rattle.lq_prover_congruence.specs.declared.classes.steps.Step.TheVariants.{Merged}
use Rattle.lq_prover_congruence.proofs.ClassesLemmas.Following.{known-terms}
use Rattle.lq_prover_congruence.proofs.ClassesLemmas.Kept.{kept-merged, kept-unnoted}
use Rattle.lq_prover_congruence.proofs.classes.classes.Classes.merge.Goals as goal

pub note-requires-clause-a_in : goal.note-requires-clause-a_in
note-requires-clause-a_in c = omega (arith, c.requires.a_in, known-terms c.self.inside.state c.args.self.now c.self.invariant.standing c.self.view_is)

pub note-requires-clause-b_in : goal.note-requires-clause-b_in
note-requires-clause-b_in c = omega (arith, c.requires.b_in, known-terms c.self.inside.state c.args.self.now c.self.invariant.standing c.self.view_is)

pub merge-requires-clause-a_in : goal.merge-requires-clause-a_in
merge-requires-clause-a_in c = omega (arith, c.requires.a_in, known-terms c.self.inside.state c.args.self.now c.self.invariant.standing c.self.view_is)

pub merge-requires-clause-b_in : goal.merge-requires-clause-b_in
merge-requires-clause-b_in c = omega (arith, c.requires.b_in, known-terms c.self.inside.state c.args.self.now c.self.invariant.standing c.self.view_is)

pub invariant_of-self-in-Err : goal.invariant_of-self-in-Err
invariant_of-self-in-Err c =
    let s = c.self.inside.state in
    let t = c.back_to.new.self in
    let steps = steps_of s.trail.items in
    let P : List Step → Type 0 = λ ss. IsKept ss t in
    record {
      standing = c.merge.ensures.standing;
      kept = subst P (sym c.in-Err.ensures.err) (kept-unnoted steps (Merged c.args.a c.args.b c.args.reason) s.steps c.self.inside.forest c.note.new.self t c.self.invariant.standing.steps c.self.invariant.kept c.in_ok-note.ensures.ok c.back_to.ensures.past c.back_to.ensures.log);
    }

pub invariant_of-self-in_default : goal.invariant_of-self-in_default
invariant_of-self-in_default c =
    let s = c.self.inside.state in
    let t = c.note.new.self in
    let P : List Step → Type 0 = λ ss. IsKept ss t in
    record {
      standing = c.merge.ensures.standing;
      kept = subst P (sym c.in_default.ensures.ok) (kept-merged (steps_of s.trail.items) c.args.a c.args.b c.args.reason c.self.inside.forest t c.self.invariant.kept c.in_ok-note.ensures.ok);
    }
