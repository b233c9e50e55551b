use Rattle.std.proofs.Common.{◌≡◌, ◌∙◌, ap, sym, length, vec_len}
use Rattle.lq_prover_case.specs.State.RowState.{RowState}
use Rattle.lq_prover_case.proofs.StateLemmas.Kept.{tagged-length}
use Rattle.lq_prover_case.proofs.state.rows.LinearRows.mark.Goals as goal

pub returns : goal.returns
returns c =
    let v : vec_len c.self.inside.rows ≡ length c.self.inside.rows.items = c.self.inside.rows.ok.0 in
    c.len.ensures ∙ v ∙ sym (tagged-length c.self.inside.rows.items) ∙ ap (λ (s : RowState). length s.rows) c.self.view_is
