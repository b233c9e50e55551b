use Rattle.std.proofs.Common.{sym, subst}
use Rattle.lq_prover_differences.specs.Table.{constants}
use Rattle.lq_logic_rows.specs.Near.{IsNear}
use Rattle.lq_prover_case.specs.State.RowState.{RowState, point_by, row_point, terms_of}
use Rattle.lq_prover_case.specs.State.Stored.{tagged_rows}
use Rattle.lq_prover_case.specs.declared.state.rows.Found.{Found}
use Rattle.lq_prover_case.proofs.StateLemmas.Nearing.{near_all}
use Rattle.lq_prover_case.proofs.state.rows.LinearRows.values_are_near.Goals as goal

pub returns-in-ByDistances : goal.returns-in-ByDistances
returns-in-ByDistances c =
    let d = c.self.inside.distances in
    let near = near_all c.self.inside.rows.items c.self.inside.odd.items d c.self.invariant.1.kept c.values_are_near.ensures.value c.values_are_near.ensures.difference in
    λ all. subst (λ (s : RowState). IsNear (constants s.rows) (terms_of s) (row_point s)) c.self.view_is
    (subst (λ (f : Found). IsNear (constants (tagged_rows c.self.inside.rows.items)) d.terms (point_by f d c.self.inside.tableau)) (sym c.in-ByDistances.is) near)
