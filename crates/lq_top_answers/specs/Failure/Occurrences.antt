-- What of an implication has a value at a point, in the order of first appearance.
use Rattle.std.specs.Prelude.{Bool, false, not, List, [], ◌∷◌, ◌++◌, filter}
use Rattle.lq_logic_predicates.specs.ClosedImplication.{ClosedImplication}
use Rattle.lq_logic_predicates.specs.Formula.{Formula, truth, falsity, flag, compare, objects, negation, conjunction, disjunction, equivalence}
use Rattle.lq_logic_predicates.specs.Sum.{Sum, whole, var, neg, add, sub, mul, div, rem, len, measure, same, same_symbol}
use Rattle.lq_logic_predicates.specs.Table.{literal_of, by_factors}
use Rattle.lq_logic_predicates.specs.declared.symbol.Symbol.{Symbol}

-- a term of whole numbers, a truth value, or a variable that is an object
pub data Valued : Type 0 where
  number : Sum → Valued
  truth_value : Symbol → Valued
  object : Symbol → Valued

-- whether the two are one
abbrev pub same_valued : Valued → Valued → Bool
same_valued (number a) (number b) = same a b
same_valued (truth_value x) (truth_value y) = same_symbol x y
same_valued (object x) (object y) = same_symbol x y
same_valued _ _ = false

-- of the argument of a length or of a measure, and of each side of an equality of objects
abbrev pub in_object : Sum → List Valued
in_object (var x) = object x ∷ []
in_object (whole n) = []
in_object (neg a) = []
in_object (add a b) = []
in_object (sub a b) = []
in_object (mul a b) = []
in_object (div a b) = []
in_object (rem a b) = []
in_object (len a) = []
in_object (measure f a) = []

-- All that stands in a term, an outer one behind what is in it. A literal, a sum, a difference, a negation and a product with a literal have
-- no values of their own.
abbrev pub in_term : Sum → List Valued
in_term (whole n) = []
in_term (var x) = number (var x) ∷ []
in_term (neg a) = in_term a
in_term (add a b) = in_term a ++ in_term b
in_term (sub a b) = in_term a ++ in_term b
in_term (mul a b) = in_term a ++ in_term b ++ by_factors (literal_of a) (literal_of b) [] (number (mul a b) ∷ [])
in_term (div a b) = in_term a ++ in_term b ++ number (div a b) ∷ []
in_term (rem a b) = in_term a ++ in_term b ++ number (rem a b) ∷ []
in_term (len a) = in_object a ++ number (len a) ∷ []
in_term (measure f a) = in_object a ++ number (measure f a) ∷ []

-- all that stands in a formula, from left to right
abbrev pub in_formula : Formula → List Valued
in_formula truth = []
in_formula falsity = []
in_formula (flag x) = truth_value x ∷ []
in_formula (compare o a b) = in_term a ++ in_term b
in_formula (objects a b) = in_object a ++ in_object b
in_formula (negation p) = in_formula p
in_formula (conjunction p q) = in_formula p ++ in_formula q
in_formula (disjunction p q) = in_formula p ++ in_formula q
in_formula (equivalence p q) = in_formula p ++ in_formula q

abbrev pub in_formulas : List Formula → List Valued
in_formulas [] = []
in_formulas (p ∷ ps) = in_formula p ++ in_formulas ps

-- through the hypotheses in their order, and then the goal
abbrev pub in_implication : ClosedImplication → List Valued
in_implication i = in_formulas i.hypotheses ++ in_formula i.goal

-- the first of each
abbrev pub firsts : {A : Type 0} → (A → A → Bool) → List A → List A
firsts same [] = []
firsts same (x ∷ xs) = x ∷ filter (λ y. not (same y x)) (firsts same xs)

-- what the implication speaks of, each once
abbrev pub shown : ClosedImplication → List Valued
shown i = firsts same_valued (in_implication i)
