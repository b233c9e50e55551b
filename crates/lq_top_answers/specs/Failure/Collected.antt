-- What has a value, and values, as they stand in memory; and lists to which what is not there is added.
use Rattle.std.specs.Prelude.{Bool, List, [], ◌∷◌, ◌++◌, map, if◌then◌else◌}
use Rattle.std.specs.List.{list_any}
use Rattle.lq_base_numbers.specs.Fractions.Value.{denom_of, numer_of}
use Rattle.lq_logic_predicates.specs.TermView.{sum_of}
use Rattle.lq_top_answers.specs.Failure.Occurrences.{Valued, number, truth_value, object}
use Rattle.lq_top_answers.specs.Failure.PointLines.{PointValue, at_number, at_truth, at_class}
use Rattle.lq_top_answers.specs.declared.failure.collecting.Valued as code
use Rattle.lq_top_answers.specs.declared.failure.point_lines.PointValue as code_value
use Rattle.lq_top_answers.specs.declared.failure.point_lines.PointValue.TheVariants as value
use Rattle.lq_top_answers.specs.declared.failure.collecting.Valued.TheVariants.{Number, Truth, Object}

abbrev pub valued_view : code.Valued → Valued
valued_view (Number t) = number (sum_of t.now)
valued_view (Truth x) = truth_value x
valued_view (Object x) = object x

abbrev pub valued_views : List code.Valued → List Valued
valued_views = map valued_view

abbrev pub value_view : code_value.PointValue → PointValue
value_view (value.Number f) = at_number (numer_of f) (denom_of f)
value_view (value.Truth b) = at_truth b
value_view (value.Class n) = at_class n

-- at the end, unless it is there
abbrev pub with_one : {A : Type 0} → (A → A → Bool) → List A → A → List A
with_one same seen x = if list_any (same x) seen then seen else seen ++ x ∷ []

-- one after the other
abbrev pub with_each : {A : Type 0} → (A → A → Bool) → List A → List A → List A
with_each same seen [] = seen
with_each same seen (x ∷ xs) = with_each same (with_one same seen x) xs
