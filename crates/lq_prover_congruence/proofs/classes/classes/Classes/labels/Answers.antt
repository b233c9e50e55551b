-- Two terms have one label exactly where they are the same.
use Rattle.std.proofs.Common.{◌≡◌, ℕ, List, length, sym, ap, ◌∙◌, subst}
use Rattle.lq_prover_congruence.specs.Classes.Steps.{terms_of}
use Rattle.lq_prover_congruence.specs.Classes.Standing.{IsExact, core_of}
use Rattle.lq_prover_congruence.specs.declared.classes.steps.Step.{Step}
use Rattle.lq_prover_congruence.proofs.ClassesLemmas.Labels.{terms-labels, labels-tell}
use Rattle.lq_prover_congruence.proofs.classes.classes.Classes.labels.Goals as goal

pub returns-clause-each : goal.returns-clause-each
returns-clause-each c =
    let P : List Step → Type 0 = λ l. IsExact l (core_of c.self.inside.state) in
    ap length c.as_slice.ensures.value ∙ sym (terms-labels c.args.self.now (core_of c.self.inside.state) (subst P c.self.view_is c.self.invariant.standing.exact))

pub returns-clause-same : goal.returns-clause-same
returns-clause-same c =
    let P : List Step → Type 0 = λ l. IsExact l (core_of c.self.inside.state) in
    labels-tell c.args.self.now (core_of c.self.inside.state) c.as_slice.result.now (subst P c.self.view_is c.self.invariant.standing.exact) c.as_slice.ensures.value
