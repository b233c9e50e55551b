-- The arguments of an application.
use Rattle.std.specs.Prelude.{◌≡◌, List}
use Rattle.lq_logic_predicates.specs.Sum.{Sum, whole, var, neg, add, sub, mul, div, rem, len, measure}
use Rattle.lq_logic_predicates.specs.Table.{numbered}

-- the list has every term of the arguments of an application of two numbers that a table numbers
abbrev pub HasArguments : List Sum → Sum → Type 0
HasArguments l (mul a b) = (numbered l a ≡ l) × (numbered l b ≡ l)
HasArguments l (div a b) = (numbered l a ≡ l) × (numbered l b ≡ l)
HasArguments l (rem a b) = (numbered l a ≡ l) × (numbered l b ≡ l)
HasArguments l (whole n) = Unit {0}
HasArguments l (var x) = Unit {0}
HasArguments l (neg a) = Unit {0}
HasArguments l (add a b) = Unit {0}
HasArguments l (sub a b) = Unit {0}
HasArguments l (len a) = Unit {0}
HasArguments l (measure f a) = Unit {0}
