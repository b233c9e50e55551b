-- The sizes of a list of rows over so many terms: how many forms there are, how large their coefficients and the constants are, and the
-- least common multiple of the divisors.
use Rattle.std.specs.Prelude.{◌≡◌, ℕ, zero, suc, ◌+◌, ◌-◌, ◌*◌, ◌^◌, ◌<◌, ◌≤◌, List, [], ◌∷◌, Contains, unsigned_abs}
use Rattle.std.specs.Int.{◌∣◌}
use Rattle.lq_logic_rows.specs.Difference.{TermsBelow}
use Rattle.lq_logic_rows.specs.Forms.{Parts, DividesAll}
use Rattle.lq_logic_rows.specs.Row.{Row, IsRow}
use Rattle.lq_prover_pivots.specs.Pivots.Rows.{Variables, size}
use Rattle.lq_prover_pivots.specs.Pivots.Variables.{AreVariables}
use Rattle.lq_prover_pivots.specs.Cramer.Entries.{smaller}
use Rattle.lq_prover_pivots.specs.Cramer.Sizes.{limit}

abbrev pub larger : ℕ → ℕ → ℕ
larger zero n = n
larger (suc m) zero = suc m
larger (suc m) (suc n) = suc (larger m n)

-- the largest size of a coefficient of a form
abbrev pub largest_part : Parts → ℕ
largest_part [] = 0
largest_part (part ∷ parts) = larger (unsigned_abs part.1) (largest_part parts)

abbrev pub largest_coefficient : List Parts → ℕ
largest_coefficient [] = 0
largest_coefficient (form ∷ forms) = larger (largest_part form) (largest_coefficient forms)

-- the largest size of a constant, at least 1
abbrev pub largest_constant : List Row → ℕ
largest_constant [] = 1
largest_constant (row ∷ rows) = larger (unsigned_abs row.constant) (largest_constant rows)

-- what the sizes of the constants sum to
abbrev pub sum_of_constants : List Row → ℕ
sum_of_constants [] = 0
sum_of_constants (row ∷ rows) = unsigned_abs row.constant + sum_of_constants rows

-- k! * c^k, for the smaller k of the number of terms and the number of forms of two or more terms, and the largest coefficient c of a form
abbrev pub entry_limit : Variables → ℕ
entry_limit vs = limit (smaller (size vs - vs.terms) vs.terms) (largest_coefficient vs.forms)

-- (m + n) * k! * c^k * K, for n terms, m forms of two or more terms and the largest constant K
abbrev pub value_limit : Variables → List Row → ℕ
value_limit vs rows = size vs * entry_limit vs * largest_constant rows

-- the greatest common divisor of the coefficients
pub record IsGreatestDivisor (parts : Parts) (g : ℕ) : Type 0 where
  pub divides : DividesAll g parts
  pub greatest : (d : ℕ) → DividesAll d parts → d ∣ g

-- the divisor of a row: 1 for a row without terms
abbrev pub IsDivisor : Parts → ℕ → Type 0
IsDivisor [] g = g ≡ 1
IsDivisor (part ∷ parts) g = IsGreatestDivisor (part ∷ parts) g

abbrev pub AreDivisorsOf : List Row → ℕ → Type 0
AreDivisorsOf rows k = (row : Row) (g : ℕ) → Contains rows row → IsDivisor row.parts g → g ∣ k

-- the least common multiple of the rows' divisors
pub record IsLeastMultiple (rows : List Row) (m : ℕ) : Type 0 where
  pub positive : 0 < m
  pub multiple : AreDivisorsOf rows m
  pub least : (k : ℕ) → AreDivisorsOf rows k → m ∣ k

-- the variables are those of rows over so many terms, at least one
pub record AreSized (rows : List Row) (vs : Variables) : Type 0 where
  pub variables : AreVariables rows vs
  pub each : (row : Row) → Contains rows row → IsRow row × TermsBelow vs.terms row.parts
  pub some : 1 ≤ vs.terms
  pub multiple : ℕ
  pub least : IsLeastMultiple rows multiple

-- with m, n, k, c and K as above and the least common multiple G of the divisors, (m + n) * k! * c^k * K * G is at most 2^40
pub record AreSmall (rows : List Row) (vs : Variables) : Type 0 where
  pub sized : AreSized rows vs
  pub small : value_limit vs rows * sized.multiple ≤ 2 ^ 40
