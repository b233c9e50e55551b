-- When `valid` stops.
use Rattle.std.specs.Prelude.{◌≡◌, ◌⊎◌, ◌≤◌, ◌<◌, ◌^◌, ℕ, List, [], All, Contains, length}
use Rattle.lq_prover_case.specs.State.PathState.{HasHanded, HasStops, PathState}
use Rattle.lq_prover_proof_tree.specs.Trees.Path.{Fact}
use Rattle.lq_prover_proof_tree.specs.Trees.Proves.{rows_among}
use Rattle.lq_prover_differences.specs.Table.{constants}
use Rattle.lq_logic_rows.specs.Contradiction.{Tagged}
use Rattle.lq_logic_rows.specs.Difference.{IsDifference}
use Rattle.lq_logic_rows.specs.Near.{IsNear}
use Rattle.lq_logic_rows.specs.Row.{Row, Valuation}
use Rattle.lq_logic_rows.specs.Steps.{valuation_of}
use Rattle.lq_logic_rows.specs.declared.engine.LinearStop.{LinearStop}
use Rattle.lq_logic_rows.specs.declared.engine.LinearStop.TheVariants as linear
use Rattle.lq_logic_rows.specs.declared.limits.TheConstants.{SUM_LIMIT}
use Rattle.lq_prover_proof_tree.specs.Literals.Gathered.{CanBeGathered, IsFirstPast, sizes_of}
use Rattle.lq_prover_proof_tree.specs.Literals.Sources.{sources_of}
use Rattle.lq_base_numbers.specs.Fractions.Past.{IsPast}
use Rattle.lq_base_numbers.specs.declared.fractions.past.NumberPast.{NumberPast}
use Rattle.lq_logic_points.specs.Evaluation.{IsStepOf}
use Rattle.lq_logic_points.specs.Values.{numbers_of, point_of_values}
use Rattle.lq_logic_points.specs.declared.values.PointValues.{PointValues}
use Rattle.lq_logic_predicates.specs.ClosedImplication.{ClosedImplication, terms_in}
use Rattle.lq_logic_predicates.specs.Comparison.{Comparison, IsRowOf}
use Rattle.lq_logic_predicates.specs.Literals.{implication_literals}
use Rattle.lq_logic_predicates.specs.PredView.{formula_of}
use Rattle.lq_logic_predicates.specs.Sum.{Sum}
use Rattle.lq_logic_predicates.specs.declared.pred.Stop.{Stop}
use Rattle.lq_logic_predicates.specs.declared.pred.Stop.TheVariants.{Number, Gather, Pivots, Memory}
use Rattle.lq_prover_valid.specs.Answers.{IsCounterexample}
use Rattle.lq_prover_simplex.specs.Table.{IsSpent}
use Rattle.lq_prover_simplex.specs.Working.{IsPlaced}

-- ---- difference implications

-- each literal is a difference row
abbrev pub IsDifferenceImplication : ClosedImplication → Type 0
IsDifferenceImplication i = (c : Comparison) (r : Row) → Contains (implication_literals i) c → IsRowOf (terms_in i) c r → IsDifference r.parts

-- so small that no sum of constants is past 128 bits
pub record IsSmallDifference (i : ClosedImplication) : Type 0 where
  pub difference : IsDifferenceImplication i
  pub small : sizes_of i < SUM_LIMIT

-- ---- stops of an engine

-- the row of one of the comparisons, its terms numbered by the list
pub record IsRowIn (terms : List Sum) (cs : List Comparison) (r : Row) : Type 0 where
  pub literal : Comparison
  pub among : Contains cs literal
  pub is : IsRowOf terms literal r

-- a row of the implication: that of one of its literals
abbrev pub IsItsRow : ClosedImplication → Row → Type 0
IsItsRow i r = IsRowIn (terms_in i) (implication_literals i) r

-- facts with such rows, whose constants' sizes sum to at most those of the implication's literals
pub record AreItsFacts (i : ClosedImplication) (facts : List Fact) : Type 0 where
  pub each : All (λ r. IsItsRow i r.1) (rows_among facts)
  pub sizes : constants (rows_among facts) ≤ sizes_of i

-- a stop of an engine on such facts, fewer than 2^64, with this limit on pivots; a tableau was ever handed rows of the implication alone
pub record StopsOnFacts (limit : ℕ) (i : ClosedImplication) (stop : LinearStop) : Type 0 where
  pub facts : List Fact
  pub few : length facts < 2 ^ 64
  pub are : AreItsFacts i facts
  pub stops : HasStops (length (terms_in i)) limit [] (IsItsRow i) facts stop

-- a chain of as many pivots as the limit: of the variables of rows of the implication, over its terms, under rows of it that stand
pub record IsSpentOn (limit : ℕ) (i : ClosedImplication) : Type 0 where
  pub ever : List Row
  pub each : All (IsItsRow i) ever
  pub standing : Tagged
  pub each_stands : All (λ r. IsItsRow i r.1) standing
  pub spent : IsSpent (length (terms_in i)) limit standing ever

-- ---- stops of an evaluation

-- Where numbers of the terms come from: from a configuration of a tableau that was ever handed rows of the implication alone, or they are
-- whole numbers, none of them and no difference of two larger in size than the sizes of the constants sum to of fewer than 2^63 facts with
-- such rows.
pub data IsOrigin (i : ClosedImplication) (v : Valuation) : Type 0 where
  placed : (ever : List Row) → All (IsItsRow i) ever → IsPlaced (length (terms_in i)) ever v → IsOrigin i v
  near : (facts : List Fact) → AreItsFacts i facts → length facts < 2 ^ 63 → IsNear (constants (rows_among facts)) (length (terms_in i)) v → IsOrigin i v

-- numbers of the terms, whatever they are past these
pub record HasOrigin (i : ClosedImplication) (v : Valuation) : Type 0 where
  pub values : Valuation
  pub same : (t : ℕ) → t < length (terms_in i) → v t ≡ values t
  pub origin : IsOrigin i values

-- rows of the implication are all that the tableau of a state was ever handed
pub record HandsItsRows (i : ClosedImplication) (s : PathState) : Type 0 where
  pub ever : List Row
  pub each : All (IsItsRow i) ever
  pub handed : HasHanded s ever

-- An operation without a form of 128 bits, by which a literal is evaluated at the numbers of a counterexample. Where each literal is a
-- difference row, the sizes are large.
pub record IsPastAtPoint (i : ClosedImplication) (e : NumberPast) : Type 0 where
  pub past : IsPast e
  pub values : PointValues
  pub origin : HasOrigin i (valuation_of (numbers_of values))
  pub counterexample : IsCounterexample i (point_of_values values)
  pub step : IsStepOf (implication_literals i) (terms_in i) (numbers_of values) e
  pub large : IsDifferenceImplication i → SUM_LIMIT ≤ sizes_of i

-- a stop of an evaluation, or want of memory
abbrev pub IsPointStop : ClosedImplication → Stop → Type 0
IsPointStop i (Number e) = IsPastAtPoint i e
IsPointStop i (Gather p) = ⊥
IsPointStop i (Pivots k) = ⊥
IsPointStop i Memory = Unit {0}

-- ---- all stops

-- The first predicate with a literal that can't be gathered, exactly where there is one. Else a number of an engine on the implication's
-- rows, or an evaluation's; or the limit on pivots, where a literal is no difference row and a chain of pivots spends it.
abbrev pub StopsProving : ℕ → ClosedImplication → Stop → Type 0
StopsProving limit i (Gather p) = IsFirstPast (sources_of i) (formula_of p)
StopsProving limit i (Number e) = CanBeGathered i × (StopsOnFacts limit i (linear.Number e) ⊎ IsPastAtPoint i e)
StopsProving limit i (Pivots k) = CanBeGathered i × (IsDifferenceImplication i → ⊥) × (k ≡ limit) × IsSpentOn limit i
StopsProving limit i Memory = Unit {0}

-- before anything is proved: the first predicate that can't be gathered, or want of memory
abbrev pub StopsReading : ClosedImplication → Stop → Type 0
StopsReading i (Gather p) = IsFirstPast (sources_of i) (formula_of p)
StopsReading i (Number e) = ⊥
StopsReading i (Pivots k) = ⊥
StopsReading i Memory = Unit {0}

-- a stop of an engine is that of a proof
abbrev pub IsStopOf : LinearStop → Stop → Type 0
IsStopOf (linear.Number e) (Number f) = e ≡ f
IsStopOf (linear.Pivots k) (Pivots l) = k ≡ l
IsStopOf linear.Memory Memory = Unit {0}
IsStopOf _ _ = ⊥

-- what is left where each literal is a difference row and the sizes are small
abbrev pub StopsSmall : Stop → Type 0
StopsSmall (Number e) = ⊥
StopsSmall (Gather p) = Unit {0}
StopsSmall (Pivots k) = ⊥
StopsSmall Memory = Unit {0}
