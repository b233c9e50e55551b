-- When deciding a case may stop.
use Rattle.std.specs.Prelude.{◌≡◌, ◌⊎◌, ◌<◌, ◌^◌, ℕ, List, [], All, Some, length, slice_get}
use Rattle.lq_prover_case.specs.State.PathState.{HasHanded, PathState}
use Rattle.lq_prover_case.specs.State.RowState.{AreDifferences, MayStop}
use Rattle.lq_prover_proof_tree.specs.Trees.Path.{row_fact}
use Rattle.lq_prover_proof_tree.specs.Trees.Proves.{rows_among}
use Rattle.lq_prover_decide.specs.Case.{Case}
use Rattle.lq_prover_differences.specs.Table.{constants}
use Rattle.lq_prover_case.specs.Equations.Equating.{AreOneFunction, equation}
use Rattle.lq_logic_rows.specs.Contradiction.{Solves, Tagged}
use Rattle.lq_logic_rows.specs.Near.{IsNear}
use Rattle.lq_logic_rows.specs.Row.{Row, Valuation}
use Rattle.lq_logic_rows.specs.Steps.{valuation_of}
use Rattle.lq_logic_rows.specs.declared.engine.LinearStop.{LinearStop}
use Rattle.lq_logic_rows.specs.declared.engine.LinearStop.TheVariants as linear
use Rattle.lq_base_numbers.specs.Fractions.Past.{IsPast}
use Rattle.lq_base_numbers.specs.declared.fractions.frac.Frac.{Frac}
use Rattle.lq_base_numbers.specs.declared.fractions.past.NumberPast.{NumberPast}
use Rattle.lq_logic_points.specs.Evaluation.{IsStepOf}
use Rattle.lq_logic_predicates.specs.Literals.{implication_literals}
use Rattle.lq_logic_predicates.specs.declared.pred.Stop.{Stop}
use Rattle.lq_logic_predicates.specs.declared.pred.Stop.TheVariants.{Number, Gather, Pivots, Memory}
use Rattle.lq_prover_simplex.specs.Table.{IsSpent}
use Rattle.lq_prover_simplex.specs.Working.{IsPlaced}

-- ---- stops of an engine

-- a row of the case: one of its facts, or that two terms are equal which apply one function, a length or a measure
pub data IsItsRow (c : Case) (r : Row) : Type 0 where
  of_fact : (k : ℕ) → slice_get c.facts k ≡ Some (row_fact r) → IsItsRow c r
  of_equation : (p : ℕ × ℕ) → AreOneFunction c.terms p → r ≡ equation p → IsItsRow c r

-- a stop of an engine on the rows of the case, with this limit on pivots; a tableau was ever handed these alone
abbrev pub StopsOnRows : ℕ → Case → LinearStop → Type 0
StopsOnRows limit c stop = MayStop (length c.terms) limit [] (IsItsRow c) (rows_among c.facts) stop

-- a chain of as many pivots as the limit: of the variables of rows of the case, over its terms, under rows of it that stand
pub record IsSpentOn (limit : ℕ) (c : Case) : Type 0 where
  pub ever : List Row
  pub each : All (IsItsRow c) ever
  pub standing : Tagged
  pub each_stands : All (λ r. IsItsRow c r.1) standing
  pub spent : IsSpent (length c.terms) limit standing ever

-- ---- all stops

-- Where numbers of the terms come from: from a configuration of a tableau that was ever handed rows of the case alone, or they are whole
-- numbers, none of them and no difference of two larger in size than the sizes of the constants of the facts sum to, which are fewer than 2^63.
pub data IsOrigin (c : Case) (v : Valuation) : Type 0 where
  placed : (ever : List Row) → All (IsItsRow c) ever → IsPlaced (length c.terms) ever v → IsOrigin c v
  near : length c.facts < 2 ^ 63 → IsNear (constants (rows_among c.facts)) (length c.terms) v → IsOrigin c v

-- numbers of the terms, whatever they are past these
pub record HasOrigin (c : Case) (v : Valuation) : Type 0 where
  pub values : Valuation
  pub same : (t : ℕ) → t < length c.terms → v t ≡ values t
  pub origin : IsOrigin c values

-- rows of the case are all that the tableau of a state was ever handed
pub record HandsItsRows (c : Case) (s : PathState) : Type 0 where
  pub ever : List Row
  pub each : All (IsItsRow c) ever
  pub handed : HasHanded s ever

-- an operation without a form of 128 bits, by which a literal of the implication is evaluated at numbers that solve the rows of the case
pub record IsPastAtPoint (c : Case) (e : NumberPast) : Type 0 where
  pub past : IsPast e
  pub numbers : List Frac
  pub origin : HasOrigin c (valuation_of numbers)
  pub solve : Solves (valuation_of numbers) (rows_among c.facts)
  pub step : IsStepOf (implication_literals c.implication) c.terms numbers e

-- A number of an engine on the rows of the case, whose facts are fewer than 2^63, or of an evaluation at the values that it found; or the limit on pivots, where a row is no
-- difference row and a chain of pivots spends it. That a literal can't be gathered is none.
abbrev pub StopsDeciding : ℕ → Case → Stop → Type 0
StopsDeciding limit c (Number e) = ((length c.facts < 2 ^ 63) × StopsOnRows limit c (linear.Number e)) ⊎ IsPastAtPoint c e
StopsDeciding limit c (Gather p) = ⊥
StopsDeciding limit c (Pivots k) = (AreDifferences (rows_among c.facts) → ⊥) × (k ≡ limit) × IsSpentOn limit c
StopsDeciding limit c Memory = Unit {0}

-- a stop of an engine is that of a case
abbrev pub IsStopOf : LinearStop → Stop → Type 0
IsStopOf (linear.Number e) (Number f) = e ≡ f
IsStopOf (linear.Pivots k) (Pivots l) = k ≡ l
IsStopOf linear.Memory Memory = Unit {0}
IsStopOf _ _ = ⊥
