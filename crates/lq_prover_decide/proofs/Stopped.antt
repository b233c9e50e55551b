-- The stop of an engine is one of deciding.
use Rattle.std.proofs.Common.{◌≡◌, ◌∙◌, ◌⊎◌, ◌<◌, ◌^◌, ℕ, List, [], Some, inl, inr, length, slice_get, subst, sym}
use Rattle.lq_prover_case.specs.State.RowState.{AreDifferences}
use Rattle.lq_prover_case.specs.State.Stored.{Stands, StopsInTableau}
use Rattle.lq_prover_case.proofs.StateLemmas.Handing.{of_standing}
use Rattle.lq_prover_proof_tree.specs.Trees.Path.{Fact, row_fact}
use Rattle.lq_prover_proof_tree.specs.Trees.Proves.{rows_among}
use Rattle.lq_prover_case.specs.Equations.Equating.{AddsEquations}
use Rattle.lq_prover_case.proofs.EquationsLemmas.Equations.{added_rows}
use Rattle.lq_logic_rows.specs.Row.{Row}
use Rattle.lq_logic_rows.specs.declared.engine.LinearStop.{LinearStop}
use Rattle.lq_logic_rows.specs.declared.engine.LinearStop.TheVariants as linear
use Rattle.lq_logic_predicates.specs.declared.pred.Stop.{Stop}
use Rattle.lq_logic_predicates.specs.declared.pred.Stop.TheVariants.{Number, Gather, Pivots, Memory}
use Rattle.lq_prover_decide.specs.Case.{Case}
use Rattle.lq_prover_decide.specs.Stopping.{IsItsRow, IsSpentOn, IsStopOf, StopsDeciding, StopsOnRows, of_equation, of_fact}

-- a tableau that was handed rows of the case alone spent its pivots
spent_on : (limit : ℕ) (c : Case) (k l : ℕ) → StopsOnRows limit c (linear.Pivots k) → k ≡ l → (AreDifferences (rows_among c.facts) → ⊥) × (l ≡ limit) × IsSpentOn limit c
spent_on limit c k l m i = by m.any
  where
    by : ⊥ ⊎ StopsInTableau (length c.terms) limit [] (IsItsRow c) (linear.Pivots k) → (AreDifferences (rows_among c.facts) → ⊥) × (l ≡ limit) × IsSpentOn limit c
    by (inl h) = absurd h
    by (inr s) = (
      m.differences,
      sym i ∙ s.stops.0,
      record { ever = s.more; each = s.each; standing = s.standing; each_stands = s.each_stands; spent = s.stops.1 },
    )

-- the rows of the case and equations after them
pub added_row : (c : Case) (before after : List Fact) → before ≡ c.facts → AddsEquations c.terms before after → (r : Row) → Stands (rows_among after) r → IsItsRow c r
added_row c before after e a =
    of_standing (IsItsRow c) (rows_among after)
    (added_rows c.terms (IsItsRow c) before after a (λ k r at. of_fact k (subst (λ l. slice_get l k ≡ Some (row_fact r)) e at)) (λ p r one is. of_equation p one is))

pub stops : (limit : ℕ) (c : Case) (e : LinearStop) (s : Stop) → length c.facts < 2 ^ 63 → StopsOnRows limit c e → IsStopOf e s → StopsDeciding limit c s
stops limit c (linear.Number e) (Number f) few m i = inl (few, subst (λ x. StopsOnRows limit c (linear.Number x)) i m)
stops limit c (linear.Number e) (Gather p) few m i = absurd i
stops limit c (linear.Number e) (Pivots l) few m i = absurd i
stops limit c (linear.Number e) Memory few m i = absurd i
stops limit c (linear.Pivots k) (Pivots l) few m i = spent_on limit c k l m i
stops limit c (linear.Pivots k) (Number f) few m i = absurd i
stops limit c (linear.Pivots k) (Gather p) few m i = absurd i
stops limit c (linear.Pivots k) Memory few m i = absurd i
stops limit c linear.Memory Memory few m i = tt
stops limit c linear.Memory (Number f) few m i = absurd i
stops limit c linear.Memory (Gather p) few m i = absurd i
stops limit c linear.Memory (Pivots l) few m i = absurd i
