-- Work at a configuration of small sizes, and a form to add: the second configuration of the chain of two terms and the row "minus the
-- first minus the second plus 1 is at most 0". The first term is 1 there, the second 0, and their sum 1. And a part of two rows.
use Rattle.std.specs.Prelude.{ℕ, zero, suc, pos, negsuc, true, false, List, [], ◌∷◌, Contains}
use Rattle.lq_logic_rows.specs.Difference.{TermsBelow}
use Rattle.lq_logic_rows.specs.Forms.{Parts}
use Rattle.lq_prover_pivots.specs.Work.Extension.{TermsFirst}
use Rattle.lq_base_numbers.specs.Rationals.Rational.{ℚ, whole}
use Rattle.lq_base_numbers.specs.declared.fractions.past.NumOp.TheVariants.{Add, Sub, Mul, Div, Neg}
use Rattle.lq_logic_rows.specs.Row.{Row, sum_at}
use Rattle.lq_prover_pivots.specs.Pivots.Rows.{Variables}
use Rattle.lq_prover_pivots.specs.Pivots.Configurations.{Configuration, IsConfiguration}
use Rattle.lq_prover_pivots.specs.Pivots.Example.{variables, row, rows, after}
use Rattle.lq_prover_pivots.specs.Work.Sizes.{AreSmall}
use Rattle.lq_prover_pivots.specs.Work.Part.{IsPart}
use Rattle.lq_prover_pivots.specs.Work.Work.{IsReading, IsForming, IsExchanging, IsMoving, IsSharing, IsLevel, IsWholeLevel}

-- one operation of each kind: the constant is negated, the first term's value is taken once, 1 is divided by the entry of the first term
-- at the sum, the second value is taken from the first, 1 is divided by the row's divisor, the constant is added to the row's sum, at these
-- values and at 0
pub record SomeWork : Type 0 where
  pub small : AreSmall rows variables
  pub configuration : IsConfiguration variables rows after
  pub reading : IsReading rows Neg (whole (pos 1)) (whole (pos 1))
  pub forming : IsForming variables after Mul (whole (pos 1)) (whole (pos 1))
  pub exchanging : IsExchanging variables after Div (whole (pos 1)) (whole (pos 1))
  pub moving : IsMoving variables rows after Sub (whole (pos 1)) (whole (pos 0))
  pub sharing : IsSharing variables rows after Div (whole (pos 1)) (whole (pos 1))
  pub level : IsLevel rows after Add (sum_at after.value row.parts) (whole (pos 1))
  pub whole_level : IsWholeLevel variables rows Add (sum_at (λ t. whole (pos 0)) row.parts) (whole (pos 1))

-- the first term minus the second
abbrev pub further : Parts
further = (0, pos 1) ∷ (1, negsuc 0) ∷ []

-- a form to add
pub record SomeForm : Type 0 where
  pub first : TermsFirst variables
  pub below : TermsBelow variables.terms further
  pub configuration : IsConfiguration variables rows after

-- minus the first plus 1 is at most 0
abbrev pub first_row : Row
first_row = record { parts = (0, negsuc 0) ∷ []; constant = pos 1; equal = false }

abbrev pub both : List Row
both = row ∷ first_row ∷ []

abbrev pub part : List Row
part = first_row ∷ []

-- the terms alone are the variables of the part
abbrev pub two_terms : Variables
two_terms = record { terms = 2; forms = ((0, pos 1) ∷ []) ∷ ((1, pos 1) ∷ []) ∷ [] }

-- both are free, the first at its bound and the second at 0
abbrev pub at_bound : ℕ → ℚ
at_bound zero = whole (pos 1)
at_bound (suc k) = whole (pos 0)

abbrev pub both_free : Configuration
both_free = record { is_free = λ k. true; entry = λ k j. whole (pos 0); value = at_bound }

-- the other row is none of the part, and its form no variable of it; an operation of each kind is there: the part's constant is negated,
-- and the constant of the other row is added to its sum, at the values of the configuration and at 0
pub record SomePart : Type 0 where
  pub small : AreSmall both variables
  pub is_part : IsPart both variables part two_terms
  pub proper : ¬ (Contains part row)
  pub configuration : IsConfiguration two_terms part both_free
  pub reading : IsReading part Neg (whole (pos 1)) (whole (pos 1))
  pub level : IsLevel both both_free Add (sum_at at_bound row.parts) (whole (pos 1))
  pub whole_level : IsWholeLevel variables both Add (sum_at (λ t. whole (pos 0)) row.parts) (whole (pos 1))
