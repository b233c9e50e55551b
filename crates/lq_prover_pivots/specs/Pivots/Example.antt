-- A chain of one pivot: two terms at 0 and the row "minus the first minus the second plus 1 is at most 0".
use Rattle.std.specs.Prelude.{ℕ, zero, suc, pos, negsuc, Bool, true, false, List, [], ◌∷◌}
use Rattle.lq_base_numbers.specs.Rationals.Rational.{ℚ, whole}
use Rattle.lq_logic_rows.specs.Row.{Row}
use Rattle.lq_prover_pivots.specs.Pivots.Rows.{Variables}
use Rattle.lq_prover_pivots.specs.Pivots.Configurations.{Configuration}

abbrev pub variables : Variables
variables = record { terms = 2; forms = ((0, pos 1) ∷ []) ∷ ((1, pos 1) ∷ []) ∷ ((0, pos 1) ∷ (1, pos 1) ∷ []) ∷ [] }

abbrev pub row : Row
row = record { parts = (0, negsuc 0) ∷ (1, negsuc 0) ∷ []; constant = pos 1; equal = false }

abbrev pub rows : List Row
rows = row ∷ []

-- the two terms are free, and the form is their sum
abbrev pub free_before : ℕ → Bool
free_before zero = true
free_before (suc zero) = true
free_before (suc (suc k)) = false

abbrev pub before : Configuration
before = record { is_free = free_before; entry = λ k j. whole (pos 1); value = λ k. whole (pos 0) }

-- the second term and the form are free, and the first term is their difference
abbrev pub free_after : ℕ → Bool
free_after zero = false
free_after (suc zero) = true
free_after (suc (suc k)) = true

abbrev pub entry_after : ℕ → ℚ
entry_after zero = whole (pos 0)
entry_after (suc zero) = whole (negsuc 0)
entry_after (suc (suc k)) = whole (pos 1)

abbrev pub value_after : ℕ → ℚ
value_after zero = whole (pos 1)
value_after (suc zero) = whole (pos 0)
value_after (suc (suc k)) = whole (pos 1)

abbrev pub after : Configuration
after = record { is_free = free_after; entry = λ k j. entry_after j; value = value_after }

abbrev pub chain : ℕ → Configuration
chain zero = before
chain (suc k) = after
