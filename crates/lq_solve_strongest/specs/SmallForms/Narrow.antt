-- Sums whose forms are small, and predicates of such sums.
use Rattle.std.specs.Prelude.{◌≤◌, ◌+◌, ◌*◌, ◌^◌, ℕ, ℤ, Option, Some, None, unsigned_abs}
use Rattle.lq_logic_predicates.specs.Formula.{Formula, truth, falsity, flag, compare, objects, negation, conjunction, disjunction, equivalence}
use Rattle.lq_logic_predicates.specs.Sum.{Sum, whole, var, neg, add, sub, mul, div, rem, len, measure}
use Rattle.lq_logic_predicates.specs.Table.{literal_of}

-- of a product, where one of its factors is a literal
abbrev pub product_size : Option ℤ → Option ℤ → ℕ → ℕ → ℕ
product_size (Some n) o left right = left + right + unsigned_abs n * right
product_size None (Some n) left right = left + right + unsigned_abs n * left
product_size None None left right = 1

-- a bound of the sizes of the coefficients and the constants of the form of a sum and of those of its operands
abbrev pub sum_size : Sum → ℕ
sum_size (whole n) = unsigned_abs n
sum_size (var x) = 1
sum_size (neg a) = sum_size a
sum_size (add a b) = sum_size a + sum_size b
sum_size (sub a b) = sum_size a + sum_size b
sum_size (mul a b) = product_size (literal_of a) (literal_of b) (sum_size a) (sum_size b)
sum_size (div a b) = 1
sum_size (rem a b) = 1
sum_size (len a) = 1
sum_size (measure f a) = 1

abbrev pub IsSmall : Sum → Type 0
IsSmall s = sum_size s ≤ 2 ^ 120

-- the arguments of each product, quotient and remainder in the sum are small; the argument of a length or of a measure is an object
abbrev pub HasSmallArguments : Sum → Type 0
HasSmallArguments (whole n) = Unit {0}
HasSmallArguments (var x) = Unit {0}
HasSmallArguments (neg a) = HasSmallArguments a
HasSmallArguments (add a b) = HasSmallArguments a × HasSmallArguments b
HasSmallArguments (sub a b) = HasSmallArguments a × HasSmallArguments b
HasSmallArguments (mul a b) = HasSmallArguments a × HasSmallArguments b × IsSmall a × IsSmall b
HasSmallArguments (div a b) = HasSmallArguments a × HasSmallArguments b × IsSmall a × IsSmall b
HasSmallArguments (rem a b) = HasSmallArguments a × HasSmallArguments b × IsSmall a × IsSmall b
HasSmallArguments (len a) = Unit {0}
HasSmallArguments (measure f a) = Unit {0}

-- the sides of each comparison, and the arguments in them, are small
abbrev pub IsNarrow : Formula → Type 0
IsNarrow truth = Unit {0}
IsNarrow falsity = Unit {0}
IsNarrow (flag x) = Unit {0}
IsNarrow (compare o a b) = HasSmallArguments a × HasSmallArguments b × IsSmall a × IsSmall b
IsNarrow (objects a b) = Unit {0}
IsNarrow (negation p) = IsNarrow p
IsNarrow (conjunction p q) = IsNarrow p × IsNarrow q
IsNarrow (disjunction p q) = IsNarrow p × IsNarrow q
IsNarrow (equivalence p q) = IsNarrow p × IsNarrow q
