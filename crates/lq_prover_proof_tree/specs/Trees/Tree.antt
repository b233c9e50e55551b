-- What a proof tree is, without the memory that holds it.
use Rattle.std.specs.Prelude.{ℕ, List}
use Rattle.lq_base_numbers.specs.Rationals.Rational.{ℚ}

-- why a case has no point
pub data Clash : Type 0 where
  rows : List (ℕ × ℚ) → Clash
  flags : ℕ → ℕ → Clash
  merges : ℕ → List ℕ → Clash

mutual
  pub data Tree : Type 0 where
    any : ℕ → Trees → Tree
    apart : ℕ → ℕ → Trees → Tree
    equal : ℕ → ℕ → List ℕ → Tree → Tree
    absurdity : ℕ → Tree
    leaf : Clash → Tree

  pub data Trees : Type 0 where
    none : Trees
    more : Tree → Trees → Trees
