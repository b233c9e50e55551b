-- What a state says of values where its facts don't clash, and the values that are read off it.
use Rattle.std.specs.Prelude.{◌≡◌, ℕ, ◌<◌, ◌↔◌, true, Bool, List, Some, length, slice_get, slice_index}
use Rattle.lq_prover_case.specs.State.PathState.{PathState, AllFlagsHold, NoObjectsClash, facts_in, objects_in}
use Rattle.lq_prover_case.specs.State.RowState.{is_solved, row_point}
use Rattle.lq_prover_proof_tree.specs.Trees.Path.{Fact, flag_fact}
use Rattle.lq_prover_proof_tree.specs.Trees.Proves.{rows_among}
use Rattle.lq_prover_decide.specs.Case.{Case}
use Rattle.lq_prover_case.specs.Equations.Equating.{AddsEquations, AreEquated}
use Rattle.lq_prover_case.specs.Equations.Naming.{AllTold, name_in}
use Rattle.lq_prover_case.specs.Equations.Values.{HasClasses}
use Rattle.lq_logic_rows.specs.Contradiction.{Solves}
use Rattle.lq_logic_rows.specs.Steps.{valuation_of}
use Rattle.lq_prover_case.specs.Objects.Joined.{AreOne}
use Rattle.lq_logic_points.specs.Values.{classes_of, flag_value, flags_of, numbers_of, table_of}
use Rattle.lq_logic_points.specs.declared.values.PointValues.{PointValues}
use Rattle.lq_logic_predicates.specs.Sum.{Sum}
use Rattle.lq_logic_predicates.specs.declared.symbol.Symbol.{Symbol}

-- A state took the facts of a case and then equations of lengths and measures, it has values that solve all rows, and no flags and no
-- objects clash.
pub record IsSettled (objects : List Sum) (c : Case) (s : PathState) : Type 0 where
  pub solved : is_solved s.rows ≡ true
  pub adds : AddsEquations c.terms c.facts (facts_in (name_in objects) s)
  pub solves : Solves (row_point s.rows) (rows_among (facts_in (name_in objects) s))
  pub flags : AllFlagsHold s.flags (facts_in (name_in objects) s)
  pub apart : NoObjectsClash s
  pub told : AllTold objects (objects_in s) c.facts
  pub equated : AreEquated objects c.terms (objects_in s) (facts_in (name_in objects) s)

-- facts give a flag one value
abbrev pub AgreeOnFlags : List Fact → Type 0
AgreeOnFlags facts = (j k : ℕ) (x : Symbol) (b c : Bool) → slice_get facts j ≡ Some (flag_fact x b) → slice_get facts k ≡ Some (flag_fact x c) → b ≡ c

-- each flag has the value that a fact gives it
abbrev pub HasFlags : List Fact → List (Symbol × Bool) → Type 0
HasFlags facts flags = (k : ℕ) (x : Symbol) (b : Bool) → slice_get facts k ≡ Some (flag_fact x b) → flag_value flags x ≡ Some b

-- a number for each term, the truth values that facts give, and a class for each object: two have one class exactly where the facts make them one
pub record AreValuesOf (objects : List Sum) (c : Case) (s : PathState) (values : PointValues) : Type 0 where
  pub table : table_of values ≡ c.terms
  pub numbers : (k : ℕ) → k < length c.terms → valuation_of (numbers_of values) k ≡ row_point s.rows k
  pub flags : HasFlags c.facts (flags_of values)
  pub class_of : List ℕ
  pub classes : HasClasses objects class_of (classes_of values)
  pub one : (a b : ℕ) → a < length objects → b < length objects → (slice_index class_of a ≡ slice_index class_of b) ↔ AreOne (objects_in s) a b
