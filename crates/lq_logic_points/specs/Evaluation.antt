-- When rows can be evaluated within 128 bits, and the operations by which an implication's literals are evaluated.
use Rattle.std.specs.Prelude.{◌⊎◌, true, false, List, All, Contains}
use Rattle.lq_base_numbers.specs.declared.fractions.frac.Frac.{Frac}
use Rattle.lq_base_numbers.specs.declared.fractions.past.NumberPast.{NumberPast}
use Rattle.lq_base_numbers.specs.Fractions.Value.{value_of}
use Rattle.lq_logic_rows.specs.Row.{Row, Valuation}
use Rattle.lq_logic_rows.specs.Steps.{valuation_of, HasValues, IsStep, IsFormed}
use Rattle.lq_logic_predicates.specs.Sum.{Sum}
use Rattle.lq_logic_predicates.specs.Comparison.{Comparison, IsRowOf}
use Rattle.lq_logic_predicates.specs.ClosedImplication.{ClosedImplication}
use Rattle.lq_logic_predicates.specs.Reading.{Reading, yes, no, row, flag_is, objects_are, all_of, any_of, Readings, none, more, reading_of}

-- each term of the row has a value, and no operation by which its level is formed is past 128 bits
pub record CanEvaluateRow (values : List Frac) (r : Row) : Type 0 where
  pub within : HasValues r values
  pub formed : IsFormed (valuation_of values) r

-- each row of the reading can be evaluated
abbrev mutual
  pub CanEvaluate : List Frac → Reading Row → Type 0
  CanEvaluate values yes = Unit {0}
  CanEvaluate values no = Unit {0}
  CanEvaluate values (row r) = CanEvaluateRow values r
  CanEvaluate values (flag_is x sign) = Unit {0}
  CanEvaluate values (objects_are a b sign) = Unit {0}
  CanEvaluate values (all_of rs) = CanEvaluateEach values rs
  CanEvaluate values (any_of rs) = CanEvaluateEach values rs

  pub CanEvaluateEach : List Frac → Readings Row → Type 0
  CanEvaluateEach values none = Unit {0}
  CanEvaluateEach values (more r rs) = CanEvaluate values r × CanEvaluateEach values rs

-- each comparison of the reading has a row, its terms numbered by the list, that can be evaluated
abbrev mutual
  pub Evaluates : List Sum → List Frac → Reading Comparison → Type 0
  Evaluates terms values yes = Unit {0}
  Evaluates terms values no = Unit {0}
  Evaluates terms values (row c) = (r : Row) × IsRowOf terms c r × CanEvaluateRow values r
  Evaluates terms values (flag_is x sign) = Unit {0}
  Evaluates terms values (objects_are a b sign) = Unit {0}
  Evaluates terms values (all_of rs) = EvaluatesEach terms values rs
  Evaluates terms values (any_of rs) = EvaluatesEach terms values rs

  pub EvaluatesEach : List Sum → List Frac → Readings Comparison → Type 0
  EvaluatesEach terms values none = Unit {0}
  EvaluatesEach terms values (more r rs) = Evaluates terms values r × EvaluatesEach terms values rs

-- the readings of the hypotheses and of the negated goal
pub record EvaluatesAll (terms : List Sum) (values : List Frac) (i : ClosedImplication) : Type 0 where
  pub hypotheses : All (λ p. Evaluates terms values (reading_of true p)) i.hypotheses
  pub goal : Evaluates terms values (reading_of false i.goal)

-- an operation by which the row of one of the comparisons is evaluated
pub record IsStepOf (literals : List Comparison) (terms : List Sum) (values : List Frac) (e : NumberPast) : Type 0 where
  pub literal : Comparison
  pub its_row : Row
  pub among : Contains literals literal
  pub is : IsRowOf terms literal its_row
  pub step : IsStep (valuation_of values) its_row e.op (value_of e.left) (value_of e.right)

-- each term of each row of the reading has a value
abbrev mutual
  pub HasAllValues : List Frac → Reading Row → Type 0
  HasAllValues values yes = Unit {0}
  HasAllValues values no = Unit {0}
  HasAllValues values (row r) = HasValues r values
  HasAllValues values (flag_is x sign) = Unit {0}
  HasAllValues values (objects_are a b sign) = Unit {0}
  HasAllValues values (all_of rs) = HasEachValue values rs
  HasAllValues values (any_of rs) = HasEachValue values rs

  pub HasEachValue : List Frac → Readings Row → Type 0
  HasEachValue values none = Unit {0}
  HasEachValue values (more r rs) = HasAllValues values r × HasEachValue values rs

-- an operation by which a row of the reading is evaluated
abbrev mutual
  pub IsStepIn : Valuation → Reading Row → NumberPast → Type 0
  IsStepIn v yes e = ⊥
  IsStepIn v no e = ⊥
  IsStepIn v (row r) e = IsStep v r e.op (value_of e.left) (value_of e.right)
  IsStepIn v (flag_is x sign) e = ⊥
  IsStepIn v (objects_are a b sign) e = ⊥
  IsStepIn v (all_of rs) e = IsStepInAny v rs e
  IsStepIn v (any_of rs) e = IsStepInAny v rs e

  pub IsStepInAny : Valuation → Readings Row → NumberPast → Type 0
  IsStepInAny v none e = ⊥
  IsStepInAny v (more r rs) e = IsStepIn v r e ⊎ IsStepInAny v rs e

-- each comparison of the second list is in the first
abbrev pub AreAmong : List Comparison → List Comparison → Type 0
AreAmong literals xs = (c : Comparison) → Contains xs c → Contains literals c
