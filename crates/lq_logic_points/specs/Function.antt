-- Which function a term applies.
use Rattle.std.specs.Prelude.{Option, Some, None}
use Rattle.lq_logic_predicates.specs.Sum.{Sum, whole, var, neg, add, sub, mul, div, rem, len, measure}
use Rattle.lq_logic_points.specs.declared.agreeing.Function.{Function}
use Rattle.lq_logic_points.specs.declared.agreeing.Function.TheVariants.{Product, Quotient, Remainder, Length, Measure}

abbrev pub applied : Sum → Option Function
applied (whole n) = None
applied (var x) = None
applied (neg a) = None
applied (add a b) = None
applied (sub a b) = None
applied (mul a b) = Some Product
applied (div a b) = Some Quotient
applied (rem a b) = Some Remainder
applied (len a) = Some Length
applied (measure f a) = Some (Measure f)
