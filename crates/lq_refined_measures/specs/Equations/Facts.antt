-- The equations of measures at a value that a constructor makes. What an equation without complaints never has becomes 0: the value, a
-- placeholder, a field past the last one, and a measure past the last one.
use Rattle.std.specs.Prelude.{ℕ, pos, List, [], ◌∷◌, filter, map, slice_get, ◌==◌, Option, Some, None}
use Rattle.std.specs.List.{flat_map}
use Rattle.lq_base_names.specs.declared.operation.ArithOp.{ArithOp}
use Rattle.lq_base_names.specs.declared.operation.ArithOp.TheVariants as op
use Rattle.lq_base_names.specs.declared.operation.CompareOp.TheVariants.{Eq}
use Rattle.lq_logic_predicates.specs.Formula.{Formula, compare}
use Rattle.lq_logic_predicates.specs.Sum.{Sum, whole, neg, add, sub, mul, div, rem, len, measure}
use Rattle.lq_text_qualifiers.specs.Sorting.Sorted.{Variable, value, field_at, placeholder_at, Term, literal, variable, length_of, measured, operation, negative, Measure}

abbrev pub or_zero : Option Sum → Sum
or_zero (Some s) = s
or_zero None = whole (pos 0)

-- what a variable is, where these are the fields
abbrev pub field_by : List Sum → Variable → Sum
field_by xs (field_at n) = or_zero (slice_get xs n)
field_by xs value = whole (pos 0)
field_by xs (placeholder_at n) = whole (pos 0)

-- the measure of this name, if there is one
abbrev pub measured_by : Option ℕ → Sum → Sum
measured_by (Some f) s = measure (record { 0 = f }) s
measured_by None s = whole (pos 0)

abbrev pub operated : ArithOp → Sum → Sum → Sum
operated op.Add a b = add a b
operated op.Sub a b = sub a b
operated op.Mul a b = mul a b
operated op.Div a b = div a b
operated op.Mod a b = rem a b

-- a term with these fields, where measures have these names
abbrev pub with_fields : List ℕ → List Sum → Term → Sum
with_fields ms xs (literal n) = whole n
with_fields ms xs (variable x) = field_by xs x
with_fields ms xs (length_of x) = len (field_by xs x)
with_fields ms xs (measured n x) = measured_by (slice_get ms n) (field_by xs x)
with_fields ms xs (operation o a b) = operated o (with_fields ms xs a) (with_fields ms xs b)
with_fields ms xs (negative a) = neg (with_fields ms xs a)

-- the equation of a measure that is this term; there is none where there is no term
abbrev pub equation_of : List ℕ → List Sum → Sum → ℕ → Option Term → List Formula
equation_of ms xs v f None = []
equation_of ms xs v f (Some t) = compare Eq (measure (record { 0 = f }) v) (with_fields ms xs t) ∷ []

abbrev pub equation_at : List ℕ → List Sum → Sum → ℕ → Measure → List Formula
equation_at ms xs v c m = equation_of ms xs v m.name (slice_get m.terms c)

abbrev pub measure_name : Measure → ℕ
measure_name m = m.name

-- the measures of a datatype, in their order
abbrev pub measures_of : List Measure → ℕ → List Measure
measures_of ms d = filter (λ m. m.datatype == d) ms

-- an equation for each measure of the datatype, at a value that its constructor of this number makes of these fields
abbrev pub equations : List Measure → ℕ → ℕ → List Sum → Sum → List Formula
equations ms d c xs v = flat_map (equation_at (map measure_name ms) xs v c) (measures_of ms d)
