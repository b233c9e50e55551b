-- Numbers of objects by which the relation of soundness reads the measures of a program.
use Rattle.std.specs.Prelude.{◌≡◌, ℕ, zero, suc, List, [], ◌∷◌, Option, Some, None}
use Rattle.lq_refined_measures.specs.Equations.Facts.{equations}
use Rattle.lq_logic_predicates.specs.Formula.{Formula}
use Rattle.lq_logic_predicates.specs.Sum.{Sum, var}
use Rattle.lq_logic_predicates.specs.declared.symbol.Symbol.TheVariants.{Value, Position}
use Rattle.lq_text_qualifiers.specs.Sorting.Sorted.{Measure}
use Rattle.lq_text_tree.specs.Types.{Constructor, count_types}
use Rattle.lq_refined_rules.specs.Checks.Basis.{Basis}
use Rattle.lq_sound_values.specs.Inhabitants.Truth.{Objects}
use Rattle.lq_sound_forms.specs.Pures.Pures.{KnowsLengths}
use Rattle.lq_sound_forms.specs.Fields.Fields.{KnowsMeasures}
use Rattle.lq_refined_measures.specs.Values.Reading.{AskBelow, HasNumbers, NamesDiffer}

-- `#k` for so many fields, from the one behind the first j on
abbrev pub positions_from : ℕ → ℕ → List Sum
positions_from j zero = []
positions_from j (suc n) = var (Position (suc j)) ∷ positions_from (suc j) n

-- the equations of measures at a value of the constructor, of `v` for the value and of `#1`, `#2`, .. for its fields
abbrev pub equations_at : List Measure → (ℕ → ℕ) → ℕ → Option Constructor → List Formula
equations_at ms place c None = []
equations_at ms place c (Some k) = equations ms k.datatype (place c) (positions_from 0 (count_types k.fields)) (var Value)

-- The equations of a program are those of measures, no two of which have one name, and whose terms ask of no field past the last one. Each
-- constructor has its place in its datatype's definition.
pub record HasMeasures (P : Basis) (ms : List Measure) (place : ℕ → ℕ) : Type 0 where
  pub equations_are : (c : ℕ) → P.equations c ≡ equations_at ms place c (P.setting.constructors c)
  pub names : NamesDiffer ms
  pub below : (c : ℕ) (k : Constructor) → P.setting.constructors c ≡ Some k → AskBelow ms k.datatype (place c) (count_types k.fields)

-- lengths and measures by the numbers of values
abbrev pub objects_of : {ms : List Measure} {place : ℕ → ℕ} → HasNumbers ms place → Objects
objects_of h = record { number_of = h.number_of; length = h.lengths_by; measured = h.measured_by }

-- numbers that know the lengths of arrays and the measures of values
pub record KnowsObjects (P : Basis) : Type 0 where
  pub objects : Objects
  pub lengths : KnowsLengths objects
  pub measures : KnowsMeasures P objects

abbrev pub MeasuresAreKnown : Type 0
MeasuresAreKnown = (P : Basis) (ms : List Measure) (place : ℕ → ℕ) → HasMeasures P ms place → KnowsObjects P
