-- Readings over the terms of a table.
use Rattle.std.specs.Prelude.{ℕ}
use Rattle.lq_logic_rows.specs.Difference.{TermsBelow}
use Rattle.lq_logic_rows.specs.Row.{Row}
use Rattle.lq_logic_predicates.specs.Reading.{Reading, yes, no, row, flag_is, objects_are, all_of, any_of, Readings, none, more}

-- each row is over the terms below n
abbrev mutual
  pub IsRowBelow : ℕ → Reading Row → Type 0
  IsRowBelow n yes = Unit {0}
  IsRowBelow n no = Unit {0}
  IsRowBelow n (row r) = TermsBelow n r.parts
  IsRowBelow n (flag_is x sign) = Unit {0}
  IsRowBelow n (objects_are a b sign) = Unit {0}
  IsRowBelow n (all_of rs) = AreRowsBelow n rs
  IsRowBelow n (any_of rs) = AreRowsBelow n rs

  pub AreRowsBelow : ℕ → Readings Row → Type 0
  AreRowsBelow n none = Unit {0}
  AreRowsBelow n (more r rs) = IsRowBelow n r × AreRowsBelow n rs
