-- The leaves of an implication: its flags, comparisons and equalities of objects, each with the signs with which it is read.
use Rattle.std.specs.Prelude.{List, [], ◌∷◌, ◌++◌}
use Rattle.lq_logic_predicates.specs.Formula.{Formula, truth, falsity, flag, compare, objects, negation, conjunction, disjunction, equivalence}
use Rattle.lq_logic_predicates.specs.ClosedImplication.{ClosedImplication}
use Rattle.lq_logic_predicates.specs.Literals.{Signs, positive, negative, both, opposite}

pub record Leaf : Type 0 where
  pub signs : Signs
  pub formula : Formula

abbrev pub leaf : Signs → Formula → Leaf
leaf s p = record { signs = s; formula = p }

-- from left to right
abbrev pub leaves_of : Signs → Formula → List Leaf
leaves_of s truth = []
leaves_of s falsity = []
leaves_of s (flag x) = leaf s (flag x) ∷ []
leaves_of s (compare o a b) = leaf s (compare o a b) ∷ []
leaves_of s (objects a b) = leaf s (objects a b) ∷ []
leaves_of s (negation p) = leaves_of (opposite s) p
leaves_of s (conjunction p q) = leaves_of s p ++ leaves_of s q
leaves_of s (disjunction p q) = leaves_of s p ++ leaves_of s q
leaves_of s (equivalence p q) = leaves_of both p ++ leaves_of both q

abbrev pub each_leaves : List Formula → List Leaf
each_leaves [] = []
each_leaves (p ∷ ps) = leaves_of positive p ++ each_leaves ps

-- the hypotheses in order, then the negated goal
abbrev pub leaves_in : ClosedImplication → List Leaf
leaves_in i = each_leaves i.hypotheses ++ leaves_of negative i.goal
