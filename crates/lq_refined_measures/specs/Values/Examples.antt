-- The measures of some values, worked out by hand.
use Rattle.std.specs.Prelude.{◌≡◌, ℕ, pos, ◌==◌, if◌then◌else◌, List, [], ◌∷◌}
use Rattle.lq_meaning_steps.specs.Model.Core.{Value, v_whole, v_build, no_values, more_values, list_value}
use Rattle.lq_base_names.specs.declared.operation.ArithOp.TheVariants.{Add}
use Rattle.lq_text_qualifiers.specs.Sorting.Sorted.{field_at, literal, variable, measured, operation, Measure}
use Rattle.lq_refined_measures.specs.Values.Values.{measure_of}

-- `[]` and `::` are the constructors 7 and 8 of lists, which are the datatype 4; 30 and 31 are Leaf and Node of a tree, the datatype 29
abbrev pub place : ℕ → ℕ
place c = if c == 8 then 1 else if c == 31 then 1 else 0

-- measure len : list = [] -> 0 | x :: xs -> 1 + len xs
abbrev pub length_measure : Measure
length_measure =
    record { name = 40; datatype = 4; terms = literal (pos 0) ∷ operation Add (literal (pos 1)) (measured 0 (field_at 1)) ∷ [] }

-- measure sum : list = [] -> 0 | x :: xs -> x + sum xs
abbrev pub sum_measure : Measure
sum_measure = record { name = 41; datatype = 4; terms = literal (pos 0) ∷ operation Add (variable (field_at 0)) (measured 1 (field_at 1)) ∷ [] }

-- measure size : tree = Leaf -> 0 | Node (l, xs, r) -> size l + len xs + size r
abbrev pub size_measure : Measure
size_measure =
    record {
      name = 42;
      datatype = 29;
      terms =
          literal (pos 0)
          ∷ operation Add (operation Add (measured 2 (field_at 0)) (measured 0 (field_at 1))) (measured 2 (field_at 2)) ∷ [];
    }

abbrev pub measures : List Measure
measures = length_measure ∷ sum_measure ∷ size_measure ∷ []

abbrev pub number : ℕ → Value
number n = v_whole (pos n)

-- [5; 6; 7]
abbrev pub three : Value
three = list_value (more_values (number 5) (more_values (number 6) (more_values (number 7) no_values)))

abbrev pub LengthOfThree : Type 0
LengthOfThree = measure_of measures place 0 three ≡ pos 3

abbrev pub SumOfThree : Type 0
SumOfThree = measure_of measures place 1 three ≡ pos 18

abbrev pub leaf : Value
leaf = v_build 30 no_values

abbrev pub node : Value → Value → Value → Value
node l xs r = v_build 31 (more_values l (more_values xs (more_values r no_values)))

-- Node (Node (Leaf, [5; 6; 7], Leaf), [], Node (Leaf, [5; 6; 7], Leaf))
abbrev pub SizeOfTree : Type 0
SizeOfTree = let part = node leaf three leaf in measure_of measures place 2 (node part (list_value no_values) part) ≡ pos 6
