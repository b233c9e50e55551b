-- Rows over the terms below a number.
use Rattle.std.specs.Prelude.{◌≡◌, ◌≢◌, ◌≤◌, ℕ, ℤ, pos, Bool, IsTrue, IsNone, List, All, length, take}
use Rattle.lq_logic_rows.specs.Contradiction.{Tagged, tagged}
use Rattle.lq_logic_rows.specs.Difference as linear
use Rattle.lq_logic_rows.specs.Row.{AscendsFrom, Row}
use Rattle.lq_prover_differences.specs.Table as diff

-- the parts of a row over the terms below n, as both engines ask for it
pub record IsBelow (n : ℕ) (parts : List (ℕ × ℤ)) : Type 0 where
  pub ascending : AscendsFrom 0 parts
  pub nonzero : All (λ part. part.1 ≢ pos 0) parts
  pub simplex_below : linear.TermsBelow n parts
  pub diff_below : diff.TermsBelow n parts

-- a row that an engine is asked of: over 64 terms, and a difference row where it is to be one
pub record IsAsked (differences : Bool) (r : Row) : Type 0 where
  pub below : IsBelow 64 r.parts
  pub difference : IsTrue differences → diff.IsDifference r.parts

-- no row has a tag behind the places
abbrev pub AreByPlace : Tagged → Type 0
AreByPlace rows = (t : ℕ) → length rows ≤ t → IsNone (tagged rows t)

-- these stand, and others behind them
pub record StandBehind (before after : Tagged) : Type 0 where
  pub front : take (length before) after ≡ before
  pub more : length before ≤ length after
