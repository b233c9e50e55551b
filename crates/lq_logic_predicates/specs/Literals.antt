-- The literals of an implication, in their order.
use Rattle.std.specs.Prelude.{pos, true, false, ◌==◌, List, [], ◌∷◌, ◌++◌, if◌then◌else◌}
use Rattle.lq_logic_predicates.specs.Sum.{Sum, whole, var, neg, add, sub, mul, div, rem, len, measure}
use Rattle.lq_logic_predicates.specs.Comparison.{Comparison, comparison}
use Rattle.lq_logic_predicates.specs.Formula.{Formula, truth, falsity, flag, compare, objects, negation, conjunction, disjunction, equivalence}
use Rattle.lq_logic_predicates.specs.ClosedImplication.{ClosedImplication, terms_in}
use Rattle.lq_logic_predicates.specs.Reading.{Reading, yes, no, row, flag_is, objects_are, all_of, any_of, Readings, none, more, comparison_reading}

-- with which signs a predicate is read: under an equivalence with both
pub data Signs : Type 0 where
  positive : Signs
  negative : Signs
  both : Signs

abbrev pub opposite : Signs → Signs
opposite positive = negative
opposite negative = positive
opposite both = both

-- the comparisons of a reading from left to right
abbrev mutual
  pub comparisons_of : Reading Comparison → List Comparison
  comparisons_of yes = []
  comparisons_of no = []
  comparisons_of (row c) = c ∷ []
  comparisons_of (flag_is x sign) = []
  comparisons_of (objects_are a b sign) = []
  comparisons_of (all_of rs) = comparisons_in rs
  comparisons_of (any_of rs) = comparisons_in rs

  pub comparisons_in : Readings Comparison → List Comparison
  comparisons_in none = []
  comparisons_in (more r rs) = comparisons_of r ++ comparisons_in rs

-- the literals of a predicate from left to right, both signs of one comparison before the next
abbrev pub literals_of : Signs → Formula → List Comparison
literals_of s truth = []
literals_of s falsity = []
literals_of s (flag x) = []
literals_of positive (compare o a b) = comparisons_of (comparison_reading true o a b)
literals_of negative (compare o a b) = comparisons_of (comparison_reading false o a b)
literals_of both (compare o a b) = comparisons_of (comparison_reading true o a b) ++ comparisons_of (comparison_reading false o a b)
literals_of s (objects a b) = []
literals_of s (negation p) = literals_of (opposite s) p
literals_of s (conjunction p q) = literals_of s p ++ literals_of s q
literals_of s (disjunction p q) = literals_of s p ++ literals_of s q
literals_of s (equivalence p q) = literals_of both p ++ literals_of both q

abbrev pub equal_row : Sum → Sum → Comparison
equal_row a b = comparison a b (pos 0) true

abbrev pub below_row : Sum → Sum → Comparison
below_row a b = comparison a b (pos 1) false

-- the rows of the condition on two applications of a function of two numbers
abbrev pub condition_rows : Sum → Sum → Sum → Sum → Sum → Sum → List Comparison
condition_rows s a b t c d =
    equal_row a c ∷ (equal_row b d ∷ (equal_row s t ∷ (below_row a c ∷ (below_row c a ∷ (below_row b d ∷ (below_row d b ∷ []))))))

-- the rows of the condition on two terms
abbrev pub pair_rows : Sum → Sum → List Comparison
pair_rows (mul a b) (mul c d) = condition_rows (mul a b) a b (mul c d) c d
pair_rows (div a b) (div c d) = condition_rows (div a b) a b (div c d) c d
pair_rows (rem a b) (rem c d) = condition_rows (rem a b) a b (rem c d) c d
pair_rows (len a) (len b) = equal_row (len a) (len b) ∷ []
pair_rows (measure f a) (measure g b) = if f.0 == g.0 then equal_row (measure f a) (measure g b) ∷ [] else []
pair_rows (mul a b) _ = []
pair_rows (div a b) _ = []
pair_rows (rem a b) _ = []
pair_rows (len a) _ = []
pair_rows (measure f a) _ = []
pair_rows (whole n) _ = []
pair_rows (var x) _ = []
pair_rows (neg a) _ = []
pair_rows (add a b) _ = []
pair_rows (sub a b) _ = []

abbrev pub rows_with : Sum → List Sum → List Comparison
rows_with s [] = []
rows_with s (t ∷ ts) = pair_rows s t ++ rows_with s ts

-- pair by pair, by the smaller number and then by the greater one
abbrev pub all_pairs : List Sum → List Comparison
all_pairs [] = []
all_pairs (s ∷ ts) = rows_with s ts ++ all_pairs ts

abbrev pub each_literals : List Formula → List Comparison
each_literals [] = []
each_literals (p ∷ ps) = literals_of positive p ++ each_literals ps

-- the hypotheses in order, then the negated goal, then the rows for each two applications of one function
abbrev pub implication_literals : ClosedImplication → List Comparison
implication_literals i = each_literals i.hypotheses ++ literals_of negative i.goal ++ all_pairs (terms_in i)
