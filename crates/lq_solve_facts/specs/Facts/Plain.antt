-- Predicates without quotients, remainders and products of two unknown factors.
use Rattle.std.specs.Prelude.{ℤ, Option, Some, None}
use Rattle.lq_logic_predicates.specs.Formula.{Formula, truth, falsity, flag, compare, objects, negation, conjunction, disjunction, equivalence}
use Rattle.lq_logic_predicates.specs.Sum.{Sum, whole, var, neg, add, sub, mul, div, rem, len, measure}
use Rattle.lq_logic_predicates.specs.Table.{literal_of}

-- one of two factors is a literal
abbrev pub HasLiteral : Option ℤ → Option ℤ → Type 0
HasLiteral (Some n) o = Unit {0}
HasLiteral None (Some n) = Unit {0}
HasLiteral None None = ⊥

abbrev pub IsPlainSum : Sum → Type 0
IsPlainSum (whole n) = Unit {0}
IsPlainSum (var x) = Unit {0}
IsPlainSum (neg a) = IsPlainSum a
IsPlainSum (add a b) = IsPlainSum a × IsPlainSum b
IsPlainSum (sub a b) = IsPlainSum a × IsPlainSum b
IsPlainSum (mul a b) = HasLiteral (literal_of a) (literal_of b) × (IsPlainSum a × IsPlainSum b)
IsPlainSum (div a b) = ⊥
IsPlainSum (rem a b) = ⊥
IsPlainSum (len a) = IsPlainSum a
IsPlainSum (measure f a) = IsPlainSum a

abbrev pub IsPlain : Formula → Type 0
IsPlain truth = Unit {0}
IsPlain falsity = Unit {0}
IsPlain (flag x) = Unit {0}
IsPlain (compare o a b) = IsPlainSum a × IsPlainSum b
IsPlain (objects a b) = IsPlainSum a × IsPlainSum b
IsPlain (negation p) = IsPlain p
IsPlain (conjunction p q) = IsPlain p × IsPlain q
IsPlain (disjunction p q) = IsPlain p × IsPlain q
IsPlain (equivalence p q) = IsPlain p × IsPlain q
