-- The entries of the trail are the steps.
use Rattle.std.proofs.Common.{List, sym, subst}
use Rattle.lq_prover_congruence.specs.Classes.Chains.{AllNamed}
use Rattle.lq_prover_congruence.specs.Classes.Standing.{core_of, steps_of}
use Rattle.lq_prover_congruence.specs.declared.classes.steps.Step.{Step}
use Rattle.lq_prover_congruence.proofs.ClassesLemmas.Named.{all-named, named-all}
use Rattle.lq_prover_congruence.proofs.classes.classes.Classes.merges_names.Goals as goal

pub returns : goal.returns
returns c =
    let s = c.self.inside.state in
    let steps = steps_of s.trail.items in
    let exact = c.self.invariant.standing.exact in
    let P : List Step → Type 0 = λ l. AllNamed l in
    (λ t. subst P c.self.view_is (all-named steps (core_of s) exact (c.merges_names.ensures.yes t)), λ n. c.merges_names.ensures.no (named-all steps (core_of s) exact (subst P (sym c.self.view_is) n)))
