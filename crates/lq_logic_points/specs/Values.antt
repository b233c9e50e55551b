-- The values of a point.
use Rattle.std.specs.Prelude.{◌≡◌, ℕ, Bool, false, List, Option, unwrap_or}
use Rattle.std.specs.Map.{lookup}
use Rattle.lq_base_numbers.specs.declared.fractions.frac.Frac.{Frac}
use Rattle.lq_logic_rows.specs.Steps.{valuation_of}
use Rattle.lq_logic_predicates.specs.declared.symbol.Symbol.{Symbol}
use Rattle.lq_logic_predicates.specs.declared.term.Term.{Term}
use Rattle.lq_logic_predicates.specs.Sum.{Sum, same, same_symbol}
use Rattle.lq_logic_predicates.specs.TermView.{sum_of}
use Rattle.lq_logic_predicates.specs.TableView.{terms_of}
use Rattle.lq_logic_predicates.specs.Points as points
use Rattle.lq_logic_predicates.specs.RowMeaning.{point_by}
use Rattle.lq_logic_points.specs.declared.values.PointValues.{PointValues}
use Rattle.lq_logic_points.specs.declared.point.Point.{Point}

abbrev pub numbers_of : PointValues → List Frac
numbers_of v = v.numbers.items

abbrev pub flags_of : PointValues → List (Symbol × Bool)
flags_of v = v.flags.entries

abbrev pub classes_of : PointValues → List (Term × ℕ)
classes_of v = v.classes.entries

-- the terms that have the numbers, in their order
abbrev pub table_of : PointValues → List Sum
table_of v = terms_of v.table

abbrev pub flag_value : List (Symbol × Bool) → Symbol → Option Bool
flag_value flags x = lookup (same_symbol x) flags

abbrev pub class_value : List (Term × ℕ) → Sum → Option ℕ
class_value classes s = lookup (λ k. same s (sum_of k)) classes

-- the point of these values: false and 0 stand for a truth value and a class that aren't given
abbrev pub point_from : List Sum → List Frac → List (Symbol × Bool) → List (Term × ℕ) → points.Point
point_from terms numbers flags classes =
    point_by terms (valuation_of numbers) (λ x. unwrap_or (flag_value flags x) false) (λ s. unwrap_or (class_value classes s) 0)

abbrev pub point_of_values : PointValues → points.Point
point_of_values v = point_from (table_of v) (numbers_of v) (flags_of v) (classes_of v)

abbrev pub values_of : Point → PointValues
values_of p = p.values

-- the point that a value of the code stands for
abbrev pub as_point : Point → points.Point
as_point p = point_of_values p.values

-- the same numbers of the same terms, the same truth values and classes
pub record AreSame (v w : PointValues) : Type 0 where
  pub numbers : numbers_of v ≡ numbers_of w
  pub flags : flags_of v ≡ flags_of w
  pub classes : classes_of v ≡ classes_of w
  pub table : table_of v ≡ table_of w
