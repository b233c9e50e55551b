-- When predicates read lengths and measures as they are, and terms stand for values.
use Rattle.std.specs.Prelude.{◌≡◌, ◌<◌, ℕ, zero, suc, ℤ, pos, List, length, Option, Some, None, slice_get}
use Rattle.lq_refined_measures.specs.Equations.Facts.{or_zero}
use Rattle.lq_meaning_steps.specs.Model.Core.{Value, v_whole, v_build, v_array, Values, no_values, more_values}
use Rattle.lq_base_names.specs.declared.name.Name.{Name}
use Rattle.lq_logic_predicates.specs.Sum.{Sum}
use Rattle.lq_logic_predicates.specs.Truth.{Meaning, object_of, term_value}
use Rattle.lq_text_qualifiers.specs.Sorting.Sorted.{Variable, value, field_at, placeholder_at, Term, literal, variable, length_of, measured, operation, negative, Measure}
use Rattle.lq_refined_measures.specs.Values.Values.{measure_of, seen}

-- the number that a value is, and 0 of any other and of none
abbrev pub number_in : Option Value → ℤ
number_in (Some (v_whole n)) = n
number_in _ = pos 0

-- the number of an array or a value of a datatype, and 0 of any other and of none
abbrev pub object_by : (Value → ℕ) → Option Value → ℕ
object_by number_of (Some (v_array r n)) = number_of (v_array r n)
object_by number_of (Some (v_build c vs)) = number_of (v_build c vs)
object_by number_of _ = 0

-- Of each number there is a length, and by the name of a measure what the measure is. These are as values have them.
pub record AreRead (ms : List Measure) (place : ℕ → ℕ) (number_of : Value → ℕ) (lengths_by : ℕ → ℤ) (measured_by : Name → ℕ → ℤ) : Type 0 where
  pub lengths : (v : Value) → lengths_by (object_by number_of (Some v)) ≡ (seen ms place v).length
  pub measures : (i : ℕ) (m : Measure) (v : Value) → slice_get ms i ≡ Some m → measured_by (record { 0 = m.name }) (object_by number_of (Some v)) ≡ measure_of ms place i v

-- predicates read them so
abbrev pub ReadsMeasures : List Measure → (ℕ → ℕ) → (Value → ℕ) → Meaning → Type 0
ReadsMeasures ms place number_of M = AreRead ms place number_of M.length M.measured

-- no two measures have one name
abbrev pub NamesDiffer : List Measure → Type 0
NamesDiffer ms = (i j : ℕ) (m k : Measure) → slice_get ms i ≡ Some m → slice_get ms j ≡ Some k → m.name ≡ k.name → i ≡ j

-- numbers for values, by which lengths and measures can be read
pub record HasNumbers (ms : List Measure) (place : ℕ → ℕ) : Type 0 where
  pub number_of : Value → ℕ
  pub lengths_by : ℕ → ℤ
  pub measured_by : Name → ℕ → ℤ
  pub are_read : AreRead ms place number_of lengths_by measured_by

-- ---- fields

abbrev pub value_at : Values → ℕ → Option Value
value_at no_values n = None
value_at (more_values v vs) zero = Some v
value_at (more_values v vs) (suc n) = value_at vs n

-- the term stands for the value, or for none
pub record StandsFor (number_of : Value → ℕ) (M : Meaning) (x : Sum) (o : Option Value) : Type 0 where
  pub number : term_value M x ≡ number_in o
  pub object : object_of M x ≡ object_by number_of o

abbrev pub FieldsStand : (Value → ℕ) → Meaning → List Sum → Values → Type 0
FieldsStand number_of M xs vs = (n : ℕ) → n < length xs → StandsFor number_of M (or_zero (slice_get xs n)) (value_at vs n)

-- a variable is none of the fields from this one on
abbrev pub IsBelow : ℕ → Variable → Type 0
IsBelow k (field_at n) = n < k
IsBelow k value = Unit {0}
IsBelow k (placeholder_at n) = Unit {0}

abbrev pub AsksBelow : ℕ → Term → Type 0
AsksBelow k (literal n) = Unit {0}
AsksBelow k (variable x) = IsBelow k x
AsksBelow k (length_of x) = IsBelow k x
AsksBelow k (measured n x) = IsBelow k x
AsksBelow k (operation o a b) = AsksBelow k a × AsksBelow k b
AsksBelow k (negative a) = AsksBelow k a

-- so is each term that a measure of the datatype has for the constructor at this place
abbrev pub AskBelow : List Measure → ℕ → ℕ → ℕ → Type 0
AskBelow ms d c k = (i : ℕ) (m : Measure) (t : Term) → slice_get ms i ≡ Some m → m.datatype ≡ d → slice_get m.terms c ≡ Some t → AsksBelow k t
