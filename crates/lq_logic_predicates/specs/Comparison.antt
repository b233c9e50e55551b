-- Comparisons of two sums, and their rows.
use Rattle.std.specs.Prelude.{◌≡◌, ℕ, ℤ, pos, ◌+ℤ◌, ◌-ℤ◌, ◌≤◌, ◌==◌, Bool, List, [], ◌∷◌, if◌then◌else◌, FitsSigned, length}
use Rattle.std.specs.Int.{w128}
use Rattle.lq_logic_rows.specs.Row.{Row, IsRow}
use Rattle.lq_logic_predicates.specs.Sum.{Sum}
use Rattle.lq_logic_predicates.specs.Table.{index_of}
use Rattle.lq_logic_predicates.specs.LinearForm.{coefficient, constant_of, IsFit}

-- it is read "left - right + added is at most 0", or "is 0" where `equal` is set
pub record Comparison : Type 0 where
  pub left : Sum
  pub right : Sum
  pub added : ℤ
  pub equal : Bool

abbrev pub comparison : Sum → Sum → ℤ → Bool → Comparison
comparison a b n e = record { left = a; right = b; added = n; equal = e }

-- the coefficient of the term t in the row
abbrev pub row_coefficient : Comparison → Sum → ℤ
row_coefficient c t = coefficient c.left t -ℤ coefficient c.right t

abbrev pub row_constant : Comparison → ℤ
row_constant c = constant_of c.left -ℤ constant_of c.right +ℤ c.added

-- it can be gathered: the forms of its sides, of the operands that belong to them, and of the whole row are within 128 bits
pub record CanGather (c : Comparison) : Type 0 where
  pub left : IsFit c.left
  pub right : IsFit c.right
  pub constant : FitsSigned w128 (row_constant c)
  pub coefficients : (t : Sum) → FitsSigned w128 (row_coefficient c t)

-- the coefficient that stands at a term's number, and 0 where none stands
abbrev pub entry : List (ℕ × ℤ) → ℕ → ℤ
entry [] q = pos 0
entry (part ∷ parts) q = if part.0 == q then part.1 else entry parts q

-- the row of the comparison, its terms numbered by the list
pub record IsRowOf (terms : List Sum) (c : Comparison) (row : Row) : Type 0 where
  pub formed : IsRow row
  pub constant : row.constant ≡ row_constant c
  pub equal : row.equal ≡ c.equal
  pub coefficients : (t : Sum) → entry row.parts (index_of terms t) ≡ row_coefficient c t
  pub within : (q : ℕ) → length terms ≤ q → entry row.parts q ≡ pos 0
