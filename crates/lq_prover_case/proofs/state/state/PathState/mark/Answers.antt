use Rattle.std.proofs.Common.{◌≡◌, ◌∙◌, ap, sym, length, vec_len}
use Rattle.lq_prover_case.specs.State.PathState.{PathState, facts_in}
use Rattle.lq_prover_case.proofs.StateLemmas.Facts.{facts-length}
use Rattle.lq_prover_case.proofs.state.state.PathState.mark.Goals as goal

pub returns : goal.returns
returns c = λ name.
    let v : vec_len c.self.inside.steps ≡ length c.self.inside.steps.items = c.self.inside.steps.ok.0 in
    c.len.ensures ∙ v ∙ sym (facts-length name c.self.inside.steps.items c.self.inside.rows.rows) ∙ ap (λ (s : PathState). length (facts_in name s)) c.self.view_is
