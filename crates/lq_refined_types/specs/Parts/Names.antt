-- The names that stand in a predicate.
use Rattle.std.specs.Prelude.{◌≡◌, true, List, [], ◌∷◌}
use Rattle.lq_logic_predicates.specs.declared.symbol.Symbol.{Symbol}
use Rattle.lq_logic_predicates.specs.Sum.{Sum, whole, var, neg, add, sub, mul, div, rem, len, measure}
use Rattle.lq_logic_predicates.specs.Formula.{Formula, truth, falsity, flag, compare, objects, negation, conjunction, disjunction, equivalence}
use Rattle.lq_refined_types.specs.Parts.Substitution.{is_in}

abbrev pub IsSumOver : List Symbol → Sum → Type 0
IsSumOver xs (whole n) = Unit {0}
IsSumOver xs (var x) = is_in xs x ≡ true
IsSumOver xs (neg a) = IsSumOver xs a
IsSumOver xs (add a b) = IsSumOver xs a × IsSumOver xs b
IsSumOver xs (sub a b) = IsSumOver xs a × IsSumOver xs b
IsSumOver xs (mul a b) = IsSumOver xs a × IsSumOver xs b
IsSumOver xs (div a b) = IsSumOver xs a × IsSumOver xs b
IsSumOver xs (rem a b) = IsSumOver xs a × IsSumOver xs b
IsSumOver xs (len a) = IsSumOver xs a
IsSumOver xs (measure f a) = IsSumOver xs a

-- each name in the predicate is one of these
abbrev pub IsOver : List Symbol → Formula → Type 0
IsOver xs truth = Unit {0}
IsOver xs falsity = Unit {0}
IsOver xs (flag x) = is_in xs x ≡ true
IsOver xs (compare o a b) = IsSumOver xs a × IsSumOver xs b
IsOver xs (objects a b) = IsSumOver xs a × IsSumOver xs b
IsOver xs (negation p) = IsOver xs p
IsOver xs (conjunction p q) = IsOver xs p × IsOver xs q
IsOver xs (disjunction p q) = IsOver xs p × IsOver xs q
IsOver xs (equivalence p q) = IsOver xs p × IsOver xs q

abbrev pub AreOver : List Symbol → List Formula → Type 0
AreOver xs [] = Unit {0}
AreOver xs (p ∷ ps) = IsOver xs p × AreOver xs ps
