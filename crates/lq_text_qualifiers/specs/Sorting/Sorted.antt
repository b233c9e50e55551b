-- Measures and qualifiers whose names are bound, without the memory that holds them.
use Rattle.std.specs.Prelude.{ℕ, ℤ, Bool, List}
use Rattle.lq_base_names.specs.declared.operation.ArithOp.{ArithOp}
use Rattle.lq_base_names.specs.declared.operation.CompareOp.{CompareOp}
use Rattle.lq_base_names.specs.declared.place.Place.{Place}
use Rattle.lq_text_qualifiers.specs.Faults.Shapes.{Shape}

pub data Variable : Type 0 where
  -- the value of which a qualifier speaks
  value : Variable
  -- a field of a constructor in a measure's equation, numbered from 0
  field_at : ℕ → Variable
  -- a placeholder of a qualifier, numbered from 0 by first appearance
  placeholder_at : ℕ → Variable

-- A term is a whole number. Lengths and measures are taken of variables alone, since nothing else is an array or of a datatype.
pub data Term : Type 0 where
  literal : ℤ → Term
  variable : Variable → Term
  length_of : Variable → Term
  -- a measure by the number of those that are defined before it
  measured : ℕ → Variable → Term
  operation : ArithOp → Term → Term → Term
  negative : Term → Term

-- a predicate is a truth value
pub data Predicate : Type 0 where
  constant : Bool → Predicate
  holds : Variable → Predicate
  comparison : CompareOp → Term → Term → Predicate
  negation : Predicate → Predicate
  conjunction : Predicate → Predicate → Predicate
  disjunction : Predicate → Predicate → Predicate
  equivalence : Predicate → Predicate → Predicate

pub record Qualifier : Type 0 where
  pub name : ℕ
  pub place : Place
  -- what the value is, and the placeholders in the order of their numbers
  pub shape : Shape
  pub placeholders : List Shape
  pub predicate : Predicate

pub record Measure : Type 0 where
  pub name : ℕ
  pub datatype : ℕ
  -- what it is of a value of each constructor of the datatype, in the order of the datatype's definition
  pub terms : List Term
