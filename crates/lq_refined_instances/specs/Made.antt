-- A qualifier's predicate with symbols put for its placeholders. What a qualifier without complaints never has becomes the value or 0: a
-- field, and a placeholder or a measure past the last one.
use Rattle.std.specs.Prelude.{ℕ, pos, Bool, true, false, List, slice_get, Option, Some, None}
use Rattle.lq_base_names.specs.declared.operation.ArithOp.{ArithOp}
use Rattle.lq_base_names.specs.declared.operation.ArithOp.TheVariants as op
use Rattle.lq_logic_predicates.specs.declared.symbol.Symbol.{Symbol}
use Rattle.lq_logic_predicates.specs.declared.symbol.Symbol.TheVariants.{Value}
use Rattle.lq_logic_predicates.specs.Sum.{Sum, whole, var, neg, add, sub, mul, div, rem, len, measure}
use Rattle.lq_logic_predicates.specs.Formula as formula
use Rattle.lq_logic_predicates.specs.Formula.{Formula}
use Rattle.lq_text_qualifiers.specs.Sorting.Sorted.{Variable, value, field_at, placeholder_at, Term, literal, variable, length_of, measured, operation, negative, Predicate, constant, holds, comparison, negation, conjunction, disjunction, equivalence}

abbrev pub or_value : Option Symbol → Symbol
or_value (Some x) = x
or_value None = Value

-- the symbol for a variable, where these stand for the placeholders
abbrev pub symbol_by : List Symbol → Variable → Symbol
symbol_by xs value = Value
symbol_by xs (field_at n) = Value
symbol_by xs (placeholder_at n) = or_value (slice_get xs n)

abbrev pub operated : ArithOp → Sum → Sum → Sum
operated op.Add a b = add a b
operated op.Sub a b = sub a b
operated op.Mul a b = mul a b
operated op.Div a b = div a b
operated op.Mod a b = rem a b

-- the measure of this name, if there is one
abbrev pub measure_by : Option ℕ → Symbol → Sum
measure_by (Some f) x = measure (record { 0 = f }) (var x)
measure_by None x = whole (pos 0)

-- a term, where measures have these names
abbrev pub term_by : List ℕ → List Symbol → Term → Sum
term_by ms xs (literal n) = whole n
term_by ms xs (variable x) = var (symbol_by xs x)
term_by ms xs (length_of x) = len (var (symbol_by xs x))
term_by ms xs (measured n x) = measure_by (slice_get ms n) (symbol_by xs x)
term_by ms xs (operation o a b) = operated o (term_by ms xs a) (term_by ms xs b)
term_by ms xs (negative a) = neg (term_by ms xs a)

abbrev pub constant_by : Bool → Formula
constant_by true = formula.truth
constant_by false = formula.falsity

abbrev pub instance_by : List ℕ → List Symbol → Predicate → Formula
instance_by ms xs (constant b) = constant_by b
instance_by ms xs (holds x) = formula.flag (symbol_by xs x)
instance_by ms xs (comparison o a b) = formula.compare o (term_by ms xs a) (term_by ms xs b)
instance_by ms xs (negation p) = formula.negation (instance_by ms xs p)
instance_by ms xs (conjunction p q) = formula.conjunction (instance_by ms xs p) (instance_by ms xs q)
instance_by ms xs (disjunction p q) = formula.disjunction (instance_by ms xs p) (instance_by ms xs q)
instance_by ms xs (equivalence p q) = formula.equivalence (instance_by ms xs p) (instance_by ms xs q)
