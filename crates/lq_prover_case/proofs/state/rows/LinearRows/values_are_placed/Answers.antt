use Rattle.std.proofs.Common.{List, sym, subst}
use Rattle.lq_logic_rows.specs.Row.{Row}
use Rattle.lq_prover_case.specs.State.RowState.{AreValuesBy, RowState, near, point_by, row_point, terms_of}
use Rattle.lq_prover_case.specs.State.Stored.{WasHanded, tagged_rows}
use Rattle.lq_prover_case.specs.declared.state.rows.Found.{Found}
use Rattle.lq_prover_case.proofs.StateLemmas.Nearing.{near_all, placed_by}
use Rattle.lq_prover_case.proofs.state.rows.LinearRows.values_are_placed.Goals as goal

pub returns-in-ByDistances : goal.returns-in-ByDistances
returns-in-ByDistances c =
    let d = c.self.inside.distances in
    let rows = tagged_rows c.self.inside.rows.items in
    let close = near_all c.self.inside.rows.items c.self.inside.odd.items d c.self.invariant.1.kept c.values_are_near.ensures.value c.values_are_near.ensures.difference in
    subst (λ (s : RowState). (ever : List Row) → WasHanded s.tableau ever → AreValuesBy (terms_of s) ever s.rows (row_point s)) c.self.view_is
    (λ ever h. subst (λ (f : Found). AreValuesBy d.terms ever rows (point_by f d c.self.inside.tableau)) (sym c.in-ByDistances.is) (near close))

pub returns-in-Some : goal.returns-in-Some
returns-in-Some c =
    let d = c.self.inside.distances in
    let rows = tagged_rows c.self.inside.rows.items in
    let by = placed_by d.terms c.self.inside.pivots rows c.self.inside.tableau c.in-Some.tableau c.in-Some.is c.self.invariant.1.filled c.configuration.ensures.placed in
    subst (λ (s : RowState). (ever : List Row) → WasHanded s.tableau ever → AreValuesBy (terms_of s) ever s.rows (row_point s)) c.self.view_is
    (λ ever h. subst (λ (f : Found). AreValuesBy d.terms ever rows (point_by f d c.self.inside.tableau)) (sym c.in-ByTableau.is) (by ever h))
