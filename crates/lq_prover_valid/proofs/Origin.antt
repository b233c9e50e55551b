-- Where the numbers of a point come from.
use Rattle.std.proofs.Common.{◌≡◌, ◌∙◌, ◌^◌, ◌<◌, ℕ, List, All, length, sym, ap, subst}
use Rattle.lq_prover_case.specs.State.PathState.{PathState}
use Rattle.lq_prover_case.specs.State.RowState.{AreValuesBy, placed, near, row_point, terms_of}
use Rattle.lq_prover_proof_tree.specs.Trees.Path.{Fact}
use Rattle.lq_prover_proof_tree.specs.Trees.Proves.{rows_among}
use Rattle.lq_prover_differences.specs.Table.{constants}
use Rattle.lq_logic_rows.specs.Near.{IsNear}
use Rattle.lq_logic_rows.specs.Row.{Row, Valuation}
use Rattle.lq_logic_rows.specs.Steps.{valuation_of}
use Rattle.lq_logic_points.specs.Values.{numbers_of}
use Rattle.lq_logic_points.specs.declared.values.PointValues.{PointValues}
use Rattle.lq_logic_predicates.specs.ClosedImplication.{ClosedImplication, terms_in}
use Rattle.lq_prover_search.specs.Search.Scope.{Scope}
use Rattle.lq_prover_simplex.specs.Working.{IsPlaced}
use Rattle.lq_prover_valid.specs.Stopping as stopping
use Rattle.lq_prover_valid.specs.Stopping.{AreItsFacts, HandsItsRows, HasOrigin, IsItsRow, IsOrigin}
use Rattle.lq_prover_valid.specs.Values.{AreValuesOf}

origin_by : (i : ClosedImplication) (terms : ℕ) (ever : List Row) (facts : List Fact) (v : Valuation) → terms ≡ length (terms_in i) → All (IsItsRow i) ever → AreItsFacts i facts
    → length facts < 2 ^ 63 → AreValuesBy terms ever (rows_among facts) v → IsOrigin i v
origin_by i terms ever facts v e each its few (placed p) = stopping.placed ever each (subst (λ n. IsPlaced n ever v) e p)
origin_by i terms ever facts v e each its few (near n) = stopping.near facts its few (subst (λ k. IsNear (constants (rows_among facts)) k v) e n)

pub origin_of : (s : Scope) (i : ClosedImplication) (state : PathState) (facts : List Fact) (values : PointValues) → s.terms ≡ terms_in i → terms_of state.rows ≡ length s.terms
    → AreValuesOf s state values → AreItsFacts i facts → length facts < 2 ^ 63 → (h : HandsItsRows i state)
    → AreValuesBy (terms_of state.rows) h.ever (rows_among facts) (row_point state.rows) → HasOrigin i (valuation_of (numbers_of values))
origin_of s i state facts values complete count w its few h by =
    let same : length s.terms ≡ length (terms_in i) = ap length complete in record {
      values = row_point state.rows;
      same = λ t l. w.numbers t (subst (λ n. t < n) (sym same) l);
      origin = origin_by i (terms_of state.rows) h.ever facts (row_point state.rows) (count ∙ same) h.each its few by;
    }
