-- What the parts give, of the steps.
use Rattle.std.proofs.Common.{List, subst}
use Rattle.lq_prover_congruence.specs.Classes.Standing.{IsExact, core_of}
use Rattle.lq_prover_congruence.specs.declared.classes.steps.Step.{Step}
use Rattle.lq_prover_congruence.proofs.ClassesLemmas.Represented.{represents-each, represents-all, represents-few}
use Rattle.lq_prover_congruence.proofs.classes.classes.Classes.representatives.Goals as goal

pub returns-clause-each : goal.returns-clause-each
returns-clause-each c =
    let s = c.self.inside.state in
    let P : List Step → Type 0 = λ l. IsExact l (core_of s) in
    represents-each c.args.self.now (core_of s) c.in_ok-pairs.pairs (subst P c.self.view_is c.self.invariant.standing.exact) c.in_ok-pairs.ensures

pub returns-clause-all : goal.returns-clause-all
returns-clause-all c =
    let s = c.self.inside.state in
    let P : List Step → Type 0 = λ l. IsExact l (core_of s) in
    represents-all c.args.self.now (core_of s) c.in_ok-pairs.pairs (subst P c.self.view_is c.self.invariant.standing.exact) c.in_ok-pairs.ensures

pub returns-clause-few : goal.returns-clause-few
returns-clause-few c =
    let s = c.self.inside.state in
    let P : List Step → Type 0 = λ l. IsExact l (core_of s) in
    represents-few c.args.self.now (core_of s) c.in_ok-pairs.pairs (subst P c.self.view_is c.self.invariant.standing.exact) c.in_ok-pairs.ensures
