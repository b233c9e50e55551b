-- Of which terms, objects and flags readings and facts speak.
use Rattle.std.specs.Prelude.{◌≡◌, true, Bool, List, [], ◌∷◌, length}
use Rattle.std.specs.List.{list_any}
use Rattle.lq_prover_proof_tree.specs.Trees.Path.{Fact, row_fact, flag_fact, objects_fact, never}
use Rattle.lq_logic_rows.specs.Difference.{TermsBelow}
use Rattle.lq_logic_rows.specs.Row.{Row}
use Rattle.lq_logic_predicates.specs.Reading.{Reading, yes, no, row, flag_is, objects_are, all_of, any_of, Readings, none, more}
use Rattle.lq_logic_predicates.specs.Sum.{Sum, same_symbol}
use Rattle.lq_logic_predicates.specs.Table.{has_term}
use Rattle.lq_logic_predicates.specs.declared.symbol.Symbol.{Symbol}

-- the terms that rows number, the objects and the flags
pub record Scope : Type 0 where
  pub terms : List Sum
  pub objects : List Sum
  pub flags : List Symbol

-- whether the flag is in the list
abbrev pub has_flag : List Symbol → Symbol → Bool
has_flag flags x = list_any (same_symbol x) flags

-- each row is over the terms, and each flag and each object is there
abbrev mutual
  pub IsWithin : Scope → Reading Row → Type 0
  IsWithin s yes = Unit {0}
  IsWithin s no = Unit {0}
  IsWithin s (row r) = TermsBelow (length s.terms) r.parts
  IsWithin s (flag_is x sign) = has_flag s.flags x ≡ true
  IsWithin s (objects_are a b sign) = (has_term s.objects a ≡ true) × (has_term s.objects b ≡ true)
  IsWithin s (all_of rs) = AreWithin s rs
  IsWithin s (any_of rs) = AreWithin s rs

  pub AreWithin : Scope → Readings Row → Type 0
  AreWithin s none = Unit {0}
  AreWithin s (more r rs) = IsWithin s r × AreWithin s rs

abbrev pub IsFactWithin : Scope → Fact → Type 0
IsFactWithin s (row_fact r) = TermsBelow (length s.terms) r.parts
IsFactWithin s (flag_fact x value) = has_flag s.flags x ≡ true
IsFactWithin s (objects_fact a b one) = (has_term s.objects a ≡ true) × (has_term s.objects b ≡ true)
IsFactWithin s never = Unit {0}

abbrev pub AllWithin : Scope → List Fact → Type 0
AllWithin s [] = Unit {0}
AllWithin s (f ∷ fs) = IsFactWithin s f × AllWithin s fs

-- a fact that may hold
abbrev pub MayHold : Fact → Type 0
MayHold (row_fact r) = Unit {0}
MayHold (flag_fact x value) = Unit {0}
MayHold (objects_fact a b one) = Unit {0}
MayHold never = ⊥

abbrev pub AllMayHold : List Fact → Type 0
AllMayHold [] = Unit {0}
AllMayHold (f ∷ fs) = MayHold f × AllMayHold fs
