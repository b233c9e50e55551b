use Rattle.std.proofs.Common.{List, subst}
use Rattle.lq_prover_case.specs.State.PathState.{HasHanded, PathState, facts_in}
use Rattle.lq_prover_case.specs.State.RowState.{AreValuesBy, row_point, terms_of}
use Rattle.lq_prover_proof_tree.specs.Trees.Proves.{rows_among}
use Rattle.lq_logic_rows.specs.Row.{Row}
use Rattle.lq_prover_case.proofs.StateLemmas.Facts.{rows_numbered}
use Rattle.lq_prover_case.proofs.state.state.PathState.values_are_placed.Goals as goal

pub returns : goal.returns
returns c = λ name.
    let rows = c.self.inside.rows in
    let e = rows_numbered name 1 c.self.inside.steps.items rows.rows (c.self.invariant.paths name).numbered in
    subst (λ (s : PathState). (ever : List Row) → HasHanded s ever → AreValuesBy (terms_of s.rows) ever (rows_among (facts_in name s)) (row_point s.rows)) c.self.view_is
    (λ ever h. subst (λ l. AreValuesBy (terms_of rows) ever l (row_point rows)) e (c.values_are_placed.ensures ever h))
