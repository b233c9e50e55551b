-- Qualifiers in which each variable has the shape that its place asks for.
use Rattle.std.specs.Prelude.{◌≡◌, ℕ, List, [], ◌∷◌, Some, slice_get}
use Rattle.lq_text_qualifiers.specs.Faults.Shapes.{Shape, int, bool, array, data_of}
use Rattle.lq_text_qualifiers.specs.Sorting.Sorted.{Variable, value, field_at, placeholder_at, Term, literal, variable, length_of, measured, operation, negative, Predicate, constant, holds, comparison, negation, conjunction, disjunction, equivalence, Qualifier}

-- where the value and the placeholders have these shapes
module _ (own : Shape) (placeholders : List Shape) where
  -- a variable of this shape; there are no fields
  abbrev pub HasShape : Shape → Variable → Type 0
  HasShape g value = g ≡ own
  HasShape g (field_at n) = ⊥
  HasShape g (placeholder_at n) = slice_get placeholders n ≡ Some g

  abbrev pub IsSortedTerm : Term → Type 0
  IsSortedTerm (literal n) = Unit {0}
  IsSortedTerm (variable v) = HasShape int v
  IsSortedTerm (length_of v) = HasShape array v
  IsSortedTerm (measured n v) = (d : ℕ) × HasShape (data_of d) v
  IsSortedTerm (operation o a b) = IsSortedTerm a × IsSortedTerm b
  IsSortedTerm (negative a) = IsSortedTerm a

  abbrev pub IsSortedPredicate : Predicate → Type 0
  IsSortedPredicate (constant b) = Unit {0}
  IsSortedPredicate (holds v) = HasShape bool v
  IsSortedPredicate (comparison o a b) = IsSortedTerm a × IsSortedTerm b
  IsSortedPredicate (negation p) = IsSortedPredicate p
  IsSortedPredicate (conjunction p q) = IsSortedPredicate p × IsSortedPredicate q
  IsSortedPredicate (disjunction p q) = IsSortedPredicate p × IsSortedPredicate q
  IsSortedPredicate (equivalence p q) = IsSortedPredicate p × IsSortedPredicate q

abbrev pub IsSortedQualifier : Qualifier → Type 0
IsSortedQualifier q = IsSortedPredicate q.shape q.placeholders q.predicate

abbrev pub AreSortedQualifiers : List Qualifier → Type 0
AreSortedQualifiers [] = Unit {0}
AreSortedQualifiers (q ∷ qs) = IsSortedQualifier q × AreSortedQualifiers qs
