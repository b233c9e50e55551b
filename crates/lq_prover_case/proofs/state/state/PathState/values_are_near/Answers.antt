use Rattle.std.proofs.Common.{subst}
use Rattle.lq_prover_case.specs.State.PathState.{PathState, facts_in}
use Rattle.lq_prover_case.specs.State.RowState.{AreDifferences, row_point, terms_of}
use Rattle.lq_prover_proof_tree.specs.Trees.Proves.{rows_among}
use Rattle.lq_prover_differences.specs.Table.{constants}
use Rattle.lq_logic_rows.specs.Near.{IsNear}
use Rattle.lq_prover_case.proofs.StateLemmas.Facts.{rows_numbered}
use Rattle.lq_prover_case.proofs.state.state.PathState.values_are_near.Goals as goal

pub returns : goal.returns
returns c = λ name.
    let rows = c.self.inside.rows in
    let e = rows_numbered name 1 c.self.inside.steps.items rows.rows (c.self.invariant.paths name).numbered in
    subst (λ (s : PathState). AreDifferences (rows_among (facts_in name s)) → IsNear (constants (rows_among (facts_in name s))) (terms_of s.rows) (row_point s.rows)) c.self.view_is
    (subst (λ l. AreDifferences l → IsNear (constants l) (terms_of rows) (row_point rows)) e c.values_are_near.ensures)
