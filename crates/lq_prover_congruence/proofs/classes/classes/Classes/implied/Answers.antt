-- A search from the first term on.
use Rattle.std.proofs.Common.{List, subst, arith}
use Rattle.lq_prover_congruence.specs.Classes.Standing.{IsExact, core_of}
use Rattle.lq_prover_congruence.specs.declared.classes.steps.Step.{Step}
use Rattle.lq_prover_congruence.proofs.ClassesLemmas.Members.{all-pairs, pairs-once}
use Rattle.lq_prover_congruence.proofs.classes.classes.Classes.implied.Goals as goal

pub invariant_of-result : goal.invariant_of-result
invariant_of-result c =
    let shaped = c.self.invariant.standing.exact.is.shaped in
    record { shaped = shaped; count = omega (arith, c.len.ensures.len, shaped.ringed); under_way = tt }

pub returns-clause-once : goal.returns-clause-once
returns-clause-once c = pairs-once (core_of c.self.inside.state) c.len.ensures.rings.0 c.len.ensures.rings.1 c.self.invariant.standing.exact.is.shaped.ringed

pub returns-clause-each : goal.returns-clause-each
returns-clause-each c = λ i j.
    let s = c.self.inside.state in
    let P : List Step → Type 0 = λ l. IsExact l (core_of s) in
    all-pairs c.args.self.now (core_of s) c.len.ensures.rings.0 (subst P c.self.view_is c.self.invariant.standing.exact) c.len.ensures.rings.1 i j
