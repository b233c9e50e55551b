-- Products, quotients and remainders by their arguments.
use Rattle.std.specs.Prelude.{Option, Some, None}
use Rattle.lq_logic_predicates.specs.Sum.{Sum, whole, var, neg, add, sub, mul, div, rem, len, measure}
use Rattle.lq_logic_predicates.specs.Table.{by_factors, literal_of}
use Rattle.lq_logic_predicates.specs.TermView.{sum_of}
use Rattle.lq_prover_search.specs.declared.search.applied.Operation.{Operation}
use Rattle.lq_prover_search.specs.declared.search.applied.Operator.{Operator}
use Rattle.lq_prover_search.specs.declared.search.applied.Operator.TheVariants.{Times, Over, Remainder}

-- the operator and the two arguments; a product with a literal is no operation
abbrev pub operation_of : Sum → Option (Operator × Sum × Sum)
operation_of (mul a b) = by_factors (literal_of a) (literal_of b) None (Some (Times, a, b))
operation_of (div a b) = Some (Over, a, b)
operation_of (rem a b) = Some (Remainder, a, b)
operation_of (whole n) = None
operation_of (var x) = None
operation_of (neg a) = None
operation_of (add a b) = None
operation_of (sub a b) = None
operation_of (len a) = None
operation_of (measure f a) = None

abbrev pub operation_view : Option Operation → Option (Operator × Sum × Sum)
operation_view None = None
operation_view (Some o) = Some (o.operator, sum_of o.left.now, sum_of o.right.now)
