-- What is wrong with a text of measures or of qualifiers and where, and which of several is told.
use Rattle.std.specs.Prelude.{ℕ, Bool, ◌&&◌, ◌||◌, ◌==◌, nat_lt, List, [], ◌∷◌, Option, Some, None, if◌then◌else◌}
use Rattle.lq_base_names.specs.declared.place.Place.{Place}
use Rattle.lq_text_walk.specs.Walk.Visits.{is_before}

pub data Cause : Type 0 where
  -- a name, or an upper and a lower name with a dot between them, has no definition
  unknown : ℕ → Cause
  unknown_in : ℕ → ℕ → Cause
  -- a measure is defined again, a constructor has a second equation, or a pattern binds a name twice
  twice : ℕ → Cause
  -- so many arguments or equations are wanted, and so many found
  arity : ℕ → ℕ → Cause
  -- a measure is applied to something other than a field, or is defined later
  not_structural : Cause
  -- a shape is none that may stand there, or not the one that is asked for, or a pattern is no constructor of the datatype
  bad_sort : Cause

pub record Complaint : Type 0 where
  pub place : Place
  pub cause : Cause

abbrev pub at : Place → Cause → Complaint
at p c = record { place = p; cause = c }

abbrev pub code_of : Cause → ℕ
code_of (unknown x) = 6
code_of (unknown_in m x) = 6
code_of (twice x) = 7
code_of (arity wanted found) = 8
code_of not_structural = 10
code_of bad_sort = 11

-- what lies before in the text, and at one place what has the lower code
abbrev pub is_less : Complaint → Complaint → Bool
is_less c d =
    is_before c.place d.place
    || (c.place.line == d.place.line && c.place.column == d.place.column && nat_lt (code_of c.cause) (code_of d.cause))

abbrev pub lesser : Option Complaint → Complaint → Option Complaint
lesser None c = Some c
lesser (Some b) c = if is_less c b then Some c else Some b

-- the least of one and of a list
abbrev pub least_with : Option Complaint → List Complaint → Option Complaint
least_with best [] = best
least_with best (c ∷ cs) = least_with (lesser best c) cs

-- the least of a list, if any: the first of those than which none is less
abbrev pub least : List Complaint → Option Complaint
least = least_with None
