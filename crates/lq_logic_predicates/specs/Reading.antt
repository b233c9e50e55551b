-- The tightened reading of a formula, as a tree of literals.
use Rattle.std.specs.Prelude.{pos, Bool, true, false, not, List}
use Rattle.lq_logic_predicates.specs.Sum.{Sum}
use Rattle.lq_logic_predicates.specs.Table.{numbered}
use Rattle.lq_logic_rows.specs.Row.{Row}
use Rattle.lq_logic_predicates.specs.Comparison.{Comparison, comparison, CanGather, IsRowOf}
use Rattle.lq_logic_predicates.specs.Formula.{Formula, truth, falsity, flag, compare, objects, negation, conjunction, disjunction, equivalence}
use Rattle.lq_logic_predicates.specs.declared.symbol.Symbol.{Symbol}
use Rattle.lq_base_names.specs.declared.operation.CompareOp.{CompareOp}
use Rattle.lq_base_names.specs.declared.operation.CompareOp.TheVariants as op

-- a reading over literals of the type L: `yes` and `no`, literals, flags and equalities of objects with their signs,
-- and all or any of a list of readings
mutual
  pub data Reading (L : Type 0) : Type 0 where
    yes : Reading L
    no : Reading L
    row : L → Reading L
    flag_is : Symbol → Bool → Reading L
    objects_are : Sum → Sum → Bool → Reading L
    all_of : Readings L → Reading L
    any_of : Readings L → Reading L

  pub data Readings (L : Type 0) : Type 0 where
    none : Readings L
    more : Reading L → Readings L → Readings L

abbrev pub pair_of : {L : Type 0} → Reading L → Reading L → Readings L
pair_of a b = more a (more b none)

-- a at most b, a + 1 at most b, a equal to b
abbrev pub at_most : Sum → Sum → Reading Comparison
at_most a b = row (comparison a b (pos 0) false)

abbrev pub below : Sum → Sum → Reading Comparison
below a b = row (comparison a b (pos 1) false)

abbrev pub equal_to : Sum → Sum → Reading Comparison
equal_to a b = row (comparison a b (pos 0) true)

-- apart by at least 1
abbrev pub apart : Sum → Sum → Reading Comparison
apart a b = any_of (pair_of (below a b) (below b a))

-- the reading of a comparison, or of its negation where the sign is false
abbrev pub comparison_reading : Bool → CompareOp → Sum → Sum → Reading Comparison
comparison_reading true op.Eq a b = equal_to a b
comparison_reading true op.Ne a b = apart a b
comparison_reading true op.Lt a b = below a b
comparison_reading true op.Le a b = at_most a b
comparison_reading true op.Gt a b = below b a
comparison_reading true op.Ge a b = at_most b a
comparison_reading false op.Eq a b = apart a b
comparison_reading false op.Ne a b = equal_to a b
comparison_reading false op.Lt a b = at_most b a
comparison_reading false op.Le a b = below b a
comparison_reading false op.Gt a b = at_most a b
comparison_reading false op.Ge a b = below a b

-- the reading of a formula, or of its negation where the sign is false
abbrev pub reading_of : Bool → Formula → Reading Comparison
reading_of true truth = yes
reading_of false truth = no
reading_of true falsity = no
reading_of false falsity = yes
reading_of sign (flag x) = flag_is x sign
reading_of sign (compare o a b) = comparison_reading sign o a b
reading_of sign (objects a b) = objects_are a b sign
reading_of sign (negation p) = reading_of (not sign) p
reading_of true (conjunction p q) = all_of (pair_of (reading_of true p) (reading_of true q))
reading_of false (conjunction p q) = any_of (pair_of (reading_of false p) (reading_of false q))
reading_of true (disjunction p q) = any_of (pair_of (reading_of true p) (reading_of true q))
reading_of false (disjunction p q) = all_of (pair_of (reading_of false p) (reading_of false q))
reading_of true (equivalence p q) =
    any_of (pair_of (all_of (pair_of (reading_of true p) (reading_of true q))) (all_of (pair_of (reading_of false p) (reading_of false q))))
reading_of false (equivalence p q) =
    any_of (pair_of (all_of (pair_of (reading_of true p) (reading_of false q))) (all_of (pair_of (reading_of false p) (reading_of true q))))

-- the list with every term of a formula that a table numbers, in the order of their first appearance
abbrev pub formula_numbered : List Sum → Formula → List Sum
formula_numbered terms truth = terms
formula_numbered terms falsity = terms
formula_numbered terms (flag x) = terms
formula_numbered terms (compare o a b) = numbered (numbered terms a) b
formula_numbered terms (objects a b) = terms
formula_numbered terms (negation p) = formula_numbered terms p
formula_numbered terms (conjunction p q) = formula_numbered (formula_numbered terms p) q
formula_numbered terms (disjunction p q) = formula_numbered (formula_numbered terms p) q
formula_numbered terms (equivalence p q) = formula_numbered (formula_numbered terms p) q

mutual
  -- A reading of rows gathers one of comparisons where it has the same form, and each row is that of its comparison.
  pub data Gathers (terms : List Sum) : Reading Comparison → Reading Row → Type 0 where
    gathers_yes : Gathers terms yes yes
    gathers_no : Gathers terms no no
    gathers_row : (c : Comparison) (r : Row) → IsRowOf terms c r → Gathers terms (row c) (row r)
    gathers_flag : (x : Symbol) (sign : Bool) → Gathers terms (flag_is x sign) (flag_is x sign)
    gathers_objects : (a b : Sum) (sign : Bool) → Gathers terms (objects_are a b sign) (objects_are a b sign)
    gathers_all : (cs : Readings Comparison) (rs : Readings Row) → AllGather terms cs rs → Gathers terms (all_of cs) (all_of rs)
    gathers_any : (cs : Readings Comparison) (rs : Readings Row) → AllGather terms cs rs → Gathers terms (any_of cs) (any_of rs)

  pub data AllGather (terms : List Sum) : Readings Comparison → Readings Row → Type 0 where
    gather_none : AllGather terms none none
    gather_more : (c : Reading Comparison) (cs : Readings Comparison) (r : Reading Row) (rs : Readings Row) → Gathers terms c r → AllGather terms cs rs
        → AllGather terms (more c cs) (more r rs)

-- every comparison in the reading can be gathered
abbrev mutual
  pub AllFitIn : Reading Comparison → Type 0
  AllFitIn yes = Unit {0}
  AllFitIn no = Unit {0}
  AllFitIn (row c) = CanGather c
  AllFitIn (flag_is x sign) = Unit {0}
  AllFitIn (objects_are a b sign) = Unit {0}
  AllFitIn (all_of rs) = EachFits rs
  AllFitIn (any_of rs) = EachFits rs

  pub EachFits : Readings Comparison → Type 0
  EachFits none = Unit {0}
  EachFits (more r rs) = AllFitIn r × EachFits rs
