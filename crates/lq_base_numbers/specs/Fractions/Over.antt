-- Two fractions over the least common multiple of their denominators.
use Rattle.std.specs.Prelude.{◌≡◌, ℕ, ℤ, pos, ◌<◌, ◌^◌, ◌/◌, ◌*ℤ◌, FitsSigned}
use Rattle.std.specs.Int.{w128}
use Rattle.lq_base_numbers.specs.Rationals.Lcm.{IsLcm}

-- a / b is n / m and c / d is k / m
pub record IsOver (a c : ℤ) (b d : ℕ) (n k : ℤ) (m : ℕ) : Type 0 where
  pub positive : 0 < m
  pub least : IsLcm b d m
  pub small : m < 2 ^ 127
  pub first : n ≡ a *ℤ pos (m / b)
  pub second : k ≡ c *ℤ pos (m / d)
  pub first_fits : FitsSigned w128 (a *ℤ pos (m / b))
  pub second_fits : FitsSigned w128 (c *ℤ pos (m / d))
