-- What an implication is made of: its flags, its objects and its applications, each once, by first appearance.
use Rattle.std.specs.Prelude.{ℕ, suc, Bool, true, false, List, [], ◌∷◌, ◌++◌, if◌then◌else◌}
use Rattle.std.specs.List.{list_any, filter}
use Rattle.lq_logic_predicates.specs.ClosedImplication.{ClosedImplication, terms_in}
use Rattle.lq_logic_predicates.specs.Formula.{Formula, truth, falsity, flag, compare, objects, negation, conjunction, disjunction, equivalence}
use Rattle.lq_logic_predicates.specs.Sum.{Sum, whole, var, neg, add, sub, mul, div, rem, len, measure, same_symbol}
use Rattle.lq_logic_predicates.specs.Table.{with_term}
use Rattle.lq_logic_predicates.specs.declared.symbol.Symbol.{Symbol}
use Rattle.lq_prover_proof_tree.specs.Literals.Leaves.{Leaf, leaves_in}

-- the list with the flag at its end, unless it is there
abbrev pub with_flag : List Symbol → Symbol → List Symbol
with_flag xs x = if list_any (same_symbol x) xs then xs else xs ++ x ∷ []

abbrev pub flags_with : List Symbol → Formula → List Symbol
flags_with xs (flag x) = with_flag xs x
flags_with xs truth = xs
flags_with xs falsity = xs
flags_with xs (compare o a b) = xs
flags_with xs (objects a b) = xs
flags_with xs (negation p) = xs
flags_with xs (conjunction p q) = xs
flags_with xs (disjunction p q) = xs
flags_with xs (equivalence p q) = xs

abbrev pub flags_after : List Symbol → List Leaf → List Symbol
flags_after xs [] = xs
flags_after xs (l ∷ ls) = flags_after (flags_with xs l.formula) ls

abbrev pub flags_in : ClosedImplication → List Symbol
flags_in i = flags_after [] (leaves_in i)

-- the list with the objects in a term: the arguments of its lengths and measures
abbrev pub objects_of : List Sum → Sum → List Sum
objects_of os (whole n) = os
objects_of os (var x) = os
objects_of os (neg a) = objects_of os a
objects_of os (add a b) = objects_of (objects_of os a) b
objects_of os (sub a b) = objects_of (objects_of os a) b
objects_of os (mul a b) = objects_of (objects_of os a) b
objects_of os (div a b) = objects_of (objects_of os a) b
objects_of os (rem a b) = objects_of (objects_of os a) b
objects_of os (len a) = with_term os a
objects_of os (measure f a) = with_term os a

abbrev pub objects_with : List Sum → Formula → List Sum
objects_with os (compare o a b) = objects_of (objects_of os a) b
objects_with os (objects a b) = with_term (with_term os a) b
objects_with os truth = os
objects_with os falsity = os
objects_with os (flag x) = os
objects_with os (negation p) = os
objects_with os (conjunction p q) = os
objects_with os (disjunction p q) = os
objects_with os (equivalence p q) = os

abbrev pub objects_after : List Sum → List Leaf → List Sum
objects_after os [] = os
objects_after os (l ∷ ls) = objects_after (objects_with os l.formula) ls

abbrev pub objects_in : ClosedImplication → List Sum
objects_in i = objects_after [] (leaves_in i)

-- a product, a quotient, a remainder, a length or a measure
abbrev pub is_application : Sum → Bool
is_application (mul a b) = true
is_application (div a b) = true
is_application (rem a b) = true
is_application (len a) = true
is_application (measure f a) = true
is_application (whole n) = false
is_application (var x) = false
is_application (neg a) = false
is_application (add a b) = false
is_application (sub a b) = false

-- the numbers of the terms that are applications, where the first term has the number n
abbrev pub places_from : ℕ → List Sum → List ℕ
places_from n [] = []
places_from n (t ∷ ts) = if is_application t then n ∷ places_from (suc n) ts else places_from (suc n) ts

-- an inner one before the outer; a product with a literal has no number
abbrev pub applications_in : ClosedImplication → List Sum
applications_in i = filter is_application (terms_in i)
