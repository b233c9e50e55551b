use Rattle.std.proofs.Common.{◌∙◌, sym, ◌≡◌, length, vec_len}
use Rattle.lq_prover_differences.proofs.Rows.{standing_length}
use Rattle.lq_prover_differences.proofs.table.DistanceTableLinearEngine.mark.Goals as goal

pub returns : goal.returns
returns c =
    let v : vec_len c.self.inside.edges ≡ length c.self.inside.edges.items = c.self.inside.edges.ok.0 in
    rw (← c.self.view_is) (c.len.ensures ∙ v ∙ sym (standing_length c.self.inside.edges.items))
