-- Implications on which the prover never stops but for want of memory, where each literal can be gathered.
use Rattle.std.specs.Prelude.{◌≡◌, ◌^◌, ◌≤◌, ◌⊎◌, ℕ, [], All, unsigned_abs}
use Rattle.lq_solve_strongest.specs.Selections.Small.{chain_limit}
use Rattle.lq_logic_predicates.specs.ClosedImplication.{ClosedImplication, terms_in}
use Rattle.lq_logic_predicates.specs.Comparison.{row_constant}
use Rattle.lq_logic_predicates.specs.Literals.{implication_literals}
use Rattle.lq_prover_valid.specs.Small.{IsSmallImplication}
use Rattle.lq_prover_valid.specs.Stopping.{IsSmallDifference}

-- the sizes are small, and the limit on pivots is 3^n * C(m + n, n) or more, for n terms and m forms of two or more terms
pub record IsBounded (limit : ℕ) (i : ClosedImplication) : Type 0 where
  pub small : IsSmallImplication i
  pub enough : chain_limit small.variables ≤ limit

-- it has no terms, and constants of size at most 2^40
pub record IsBare (i : ClosedImplication) : Type 0 where
  pub terms : terms_in i ≡ []
  pub constants : All (λ c. unsigned_abs (row_constant c) ≤ 2 ^ 40) (implication_literals i)

abbrev pub IsSolvable : ℕ → ClosedImplication → Type 0
IsSolvable limit i = IsBounded limit i ⊎ IsBare i

-- it is of differences whose sizes sum to less than 2^126, or solvable
abbrev pub IsDecidable : ℕ → ClosedImplication → Type 0
IsDecidable limit i = IsSmallDifference i ⊎ IsSolvable limit i
