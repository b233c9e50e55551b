use Rattle.std.proofs.Common.{◌<◌, ◌^◌, arith, length, subst}
use Rattle.lq_prover_case.specs.State.PathState.{PathState, facts_in}
use Rattle.lq_prover_case.proofs.StateLemmas.Facts.{facts-length}
use Rattle.lq_prover_case.proofs.state.state.PathState.facts_are_few.Goals as goal

pub returns : goal.returns
returns c = λ name.
    let steps = c.self.inside.steps in
    subst (λ (s : PathState). length (facts_in name s) < 2 ^ 63) c.self.view_is
    (let n = facts-length name steps.items c.self.inside.rows.rows in let v = steps.ok in let w = steps.small in omega (arith, n, v, w))
