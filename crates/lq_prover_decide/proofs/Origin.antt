-- Where the numbers of a case's point come from.
use Rattle.std.proofs.Common.{◌≡◌, ◌^◌, ◌<◌, ℕ, List, All, length, map, ap, subst, arith}
use Rattle.std.proofs.lemmas.List.{length-append}
use Rattle.lq_prover_case.specs.State.PathState.{PathState}
use Rattle.lq_prover_case.specs.State.RowState.{AreValuesBy, placed, near, row_point, terms_of}
use Rattle.lq_prover_proof_tree.specs.Trees.Path.{Fact}
use Rattle.lq_prover_proof_tree.specs.Trees.Proves.{rows_among}
use Rattle.lq_prover_differences.specs.Table.{constants}
use Rattle.lq_prover_case.specs.Equations.Equating.{AddsEquations, equation_fact}
use Rattle.lq_prover_case.proofs.EquationsLemmas.Equations.{adds_constants}
use Rattle.lq_logic_rows.specs.Near.{IsNear}
use Rattle.lq_logic_rows.specs.Row.{Row, Valuation}
use Rattle.lq_logic_rows.specs.Steps.{valuation_of}
use Rattle.lq_logic_points.specs.Values.{numbers_of}
use Rattle.lq_logic_points.specs.declared.values.PointValues.{PointValues}
use Rattle.lq_logic_predicates.specs.Sum.{Sum}
use Rattle.lq_prover_simplex.specs.Working.{IsPlaced}
use Rattle.lq_prover_decide.specs.Case.{Case}
use Rattle.lq_prover_decide.specs.Settled.{AreValuesOf}
use Rattle.lq_prover_decide.specs.Stopping as stopping
use Rattle.lq_prover_decide.specs.Stopping.{HandsItsRows, HasOrigin, IsItsRow, IsOrigin}

-- the facts of a case are no more than those that stand
few_facts : (terms : List Sum) (facts after : List Fact) → AddsEquations terms facts after → length after < 2 ^ 63 → length facts < 2 ^ 63
few_facts terms facts after a few = let n = ap length a.is in let m = length-append facts (map equation_fact a.pairs) in omega (arith, n, m, few)

origin_by : (c : Case) (terms : ℕ) (ever : List Row) (after : List Fact) (v : Valuation) → terms ≡ length c.terms → All (IsItsRow c) ever → AddsEquations c.terms c.facts after
    → length after < 2 ^ 63 → AreValuesBy terms ever (rows_among after) v → IsOrigin c v
origin_by c terms ever after v e each adds few (placed p) = stopping.placed ever each (subst (λ n. IsPlaced n ever v) e p)
origin_by c terms ever after v e each adds few (near n) =
    stopping.near (few_facts c.terms c.facts after adds few)
    (subst (λ k. IsNear (constants (rows_among c.facts)) k v) e (subst (λ m. IsNear m terms v) (adds_constants c.terms c.facts after adds) n))

pub origin_of : (c : Case) (objects : List Sum) (s : PathState) (after : List Fact) (values : PointValues) → terms_of s.rows ≡ length c.terms → AreValuesOf objects c s values
    → AddsEquations c.terms c.facts after → length after < 2 ^ 63 → (h : HandsItsRows c s) → AreValuesBy (terms_of s.rows) h.ever (rows_among after) (row_point s.rows)
    → HasOrigin c (valuation_of (numbers_of values))
origin_of c objects s after values count w adds few h by = record {
  values = row_point s.rows;
  same = λ t l. w.numbers t l;
  origin = origin_by c (terms_of s.rows) h.ever after (row_point s.rows) count h.each adds few by;
}
