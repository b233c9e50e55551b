-- The values that a state gives to the terms, flags and objects of an implication.
use Rattle.std.specs.Prelude.{◌≡◌, ℕ, ◌<◌, ◌↔◌, List, Bool, None, Some, if◌then◌else◌, length, slice_index}
use Rattle.lq_prover_case.specs.State.Flags.{find_given}
use Rattle.lq_prover_case.specs.State.PathState.{PathState, objects_in}
use Rattle.lq_prover_case.specs.State.RowState.{row_point}
use Rattle.lq_prover_case.specs.Equations.Values.{HasClasses}
use Rattle.lq_logic_rows.specs.Steps.{valuation_of}
use Rattle.lq_prover_case.specs.Objects.Joined.{AreOne}
use Rattle.lq_prover_search.specs.Path.Meeting.{given_value}
use Rattle.lq_logic_points.specs.Values.{classes_of, flag_value, flags_of, numbers_of, table_of}
use Rattle.lq_logic_points.specs.declared.values.PointValues.{PointValues}
use Rattle.lq_logic_predicates.specs.declared.symbol.Symbol.{Symbol}
use Rattle.lq_prover_search.specs.Search.Scope.{Scope, has_flag}

-- a value for each flag of a list: what the state gives it, and false where it gives none
abbrev pub HasFlagsOf : List Symbol → PathState → List (Symbol × Bool) → Type 0
HasFlagsOf flags s values = (x : Symbol) → flag_value values x ≡ (if has_flag flags x then Some (given_value (find_given s.flags x)) else None)

-- a number for each term, a value for each flag, and a class for each object: two have one class exactly where the facts make them one
pub record AreValuesOf (s : Scope) (state : PathState) (values : PointValues) : Type 0 where
  pub table : table_of values ≡ s.terms
  pub numbers : (k : ℕ) → k < length s.terms → valuation_of (numbers_of values) k ≡ row_point state.rows k
  pub flags : HasFlagsOf s.flags state (flags_of values)
  pub class_of : List ℕ
  pub classes : HasClasses s.objects class_of (classes_of values)
  pub one : (a b : ℕ) → a < length s.objects → b < length s.objects → (slice_index class_of a ≡ slice_index class_of b) ↔ AreOne (objects_in state) a b
