-- Of which objects and terms readings speak.
use Rattle.std.specs.Prelude.{◌≡◌, ℕ, true, List}
use Rattle.lq_logic_rows.specs.Difference.{TermsBelow}
use Rattle.lq_logic_rows.specs.Row.{Row}
use Rattle.lq_logic_predicates.specs.Reading.{Reading, yes, no, row, flag_is, objects_are, all_of, any_of, Readings, none, more}
use Rattle.lq_logic_predicates.specs.Sum.{Sum}
use Rattle.lq_logic_predicates.specs.Table.{has_term}

-- each row is over the terms below n, and each object is in the list
abbrev mutual
  pub IsOver : ℕ → List Sum → Reading Row → Type 0
  IsOver n objects yes = Unit {0}
  IsOver n objects no = Unit {0}
  IsOver n objects (row r) = TermsBelow n r.parts
  IsOver n objects (flag_is x sign) = Unit {0}
  IsOver n objects (objects_are a b sign) = (has_term objects a ≡ true) × (has_term objects b ≡ true)
  IsOver n objects (all_of rs) = AreOver n objects rs
  IsOver n objects (any_of rs) = AreOver n objects rs

  pub AreOver : ℕ → List Sum → Readings Row → Type 0
  AreOver n objects none = Unit {0}
  AreOver n objects (more r rs) = IsOver n objects r × AreOver n objects rs
