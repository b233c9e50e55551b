-- A name among the terms is one among the steps.
use Rattle.std.proofs.Common.{List, subst, arith}
use Rattle.lq_prover_congruence.specs.Classes.Standing.{IsExact, core_of}
use Rattle.lq_prover_congruence.specs.declared.classes.steps.Step.{Step}
use Rattle.lq_prover_congruence.proofs.ClassesLemmas.Following.{known-terms}
use Rattle.lq_prover_congruence.proofs.ClassesLemmas.Named.{name-known, known-name}
use Rattle.lq_prover_congruence.proofs.classes.classes.Classes.is_name.Goals as goal

pub is_name-requires : goal.is_name-requires
is_name-requires c = omega (arith, c.requires, known-terms c.self.inside.state c.args.self.now c.self.invariant.standing c.self.view_is)

pub returns : goal.returns
returns c =
    let s = c.self.inside.state in
    let P : List Step → Type 0 = λ l. IsExact l (core_of s) in
    let exact = subst P c.self.view_is c.self.invariant.standing.exact in
    let now = c.args.self.now in
    (λ t. name-known now (core_of s) c.args.term exact c.requires (c.is_name.ensures.0 t), λ n. c.is_name.ensures.1 (known-name now (core_of s) c.args.term exact n))
