-- Rows over the terms below a number.
use Rattle.std.specs.Prelude.{◌≢◌, ℕ, pos, All}
use Rattle.lq_logic_rows.specs.Difference.{TermsBelow}
use Rattle.lq_logic_rows.specs.Forms.{Parts}
use Rattle.lq_logic_rows.specs.Row.{AscendsFrom}

-- the parts of a row over the terms below n
pub record IsRowBelow (n : ℕ) (parts : Parts) : Type 0 where
  pub ascending : AscendsFrom 0 parts
  pub nonzero : All (λ part. part.1 ≢ pos 0) parts
  pub below : TermsBelow n parts
