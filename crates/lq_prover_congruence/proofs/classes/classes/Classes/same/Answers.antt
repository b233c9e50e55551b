-- Two terms have one label exactly where they are the same.
use Rattle.std.proofs.Common.{List, length, ap, subst, arith}
use Rattle.lq_prover_congruence.specs.Classes.Steps.{terms_of}
use Rattle.lq_prover_congruence.specs.Classes.Standing.{IsExact, core_of, steps_of}
use Rattle.lq_prover_congruence.specs.declared.classes.steps.Step.{Step}
use Rattle.lq_prover_congruence.proofs.ClassesLemmas.Labels.{terms-labels, labels-decide}
use Rattle.lq_prover_congruence.proofs.classes.classes.Classes.same.Goals as goal

pub index-requires : goal.index-requires
index-requires c =
    let s = c.self.inside.state in
    omega (arith, terms-labels (steps_of s.trail.items) (core_of s) c.self.invariant.standing.exact, s.labels.ok, ap (λ l. length (terms_of l)) c.self.view_is)

pub index-requires-2 : goal.index-requires-2
index-requires-2 c =
    let s = c.self.inside.state in
    omega (arith, terms-labels (steps_of s.trail.items) (core_of s) c.self.invariant.standing.exact, s.labels.ok, ap (λ l. length (terms_of l)) c.self.view_is)

pub returns : goal.returns
returns c =
    let P : List Step → Type 0 = λ l. IsExact l (core_of c.self.inside.state) in
    labels-decide c.args.self.now (core_of c.self.inside.state) (subst P c.self.view_is c.self.invariant.standing.exact) c.args.a c.args.b c.index.result.now c.index-2.result.now c.requires.a_in c.requires.b_in c.index.ensures c.index-2.ensures
