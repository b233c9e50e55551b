-- The equations of measures hold of values, and values have numbers by which measures are read.
use Rattle.std.specs.Prelude.{◌≡◌, ℕ, List, length}
use Rattle.lq_refined_measures.specs.Equations.Facts.{equations}
use Rattle.lq_meaning_steps.specs.Model.Core.{Value, v_build, Values}
use Rattle.lq_logic_predicates.specs.ClosedImplication.{EachTrueIn}
use Rattle.lq_logic_predicates.specs.Sum.{Sum}
use Rattle.lq_logic_predicates.specs.Truth.{Meaning, object_of}
use Rattle.lq_text_qualifiers.specs.Sorting.Sorted.{Measure}
use Rattle.lq_refined_measures.specs.Values.Reading.{AskBelow, FieldsStand, HasNumbers, NamesDiffer, ReadsMeasures}

-- the equations at a value that the constructor c of the datatype d makes of these fields, where terms stand for the fields and for the value
abbrev pub EquationsHold : Type 0
EquationsHold =
    (ms : List Measure) (place : ℕ → ℕ) (number_of : Value → ℕ) (M : Meaning) → ReadsMeasures ms place number_of M
    → (d c : ℕ) (vs : Values) (xs : List Sum) (x : Sum) → AskBelow ms d (place c) (length xs) → FieldsStand number_of M xs vs
    → object_of M x ≡ number_of (v_build c vs) → EachTrueIn M (equations ms d (place c) xs x)

-- where no two measures have one name
abbrev pub ValuesHaveNumbers : Type 0
ValuesHaveNumbers = (ms : List Measure) (place : ℕ → ℕ) → NamesDiffer ms → HasNumbers ms place
