-- Where a pass over a program stands.
use Rattle.std.specs.Prelude.{◌≡◌, ℕ, List, [], map, length, Option}
use Rattle.lq_text_scope.specs.Complaints.{Complaint, least_with}
use Rattle.lq_text_scope.specs.Datatypes.{name_of}
use Rattle.lq_text_walk.specs.Walk.Visits.{Visit}
use Rattle.lq_text_scope.specs.Known.{Known}
use Rattle.lq_text_scope.specs.Passing.{found_at, known_behind, open_after}
use Rattle.lq_text_scope.specs.Views.{found_view}
use Rattle.lq_text_scope.specs.declared.checker.Checker.{Checker}

abbrev pub known_of : Checker → Known
known_of c = record { variables = map name_of c.variables; constructors = c.constructors; types = c.types }

abbrev pub open_of : Checker → ℕ
open_of c = length c.open.items

abbrev pub best_of : Checker → Option Complaint
best_of c = found_view c.least.found

-- One checker has found these complaints more than another, knows this, and has so many arguments open.
pub record HasFound (old new : Checker) (complaints : List Complaint) (k : Known) (n : ℕ) : Type 0 where
  pub names : new.names.now ≡ old.names.now
  pub known : known_of new ≡ k
  pub open_ : open_of new ≡ n
  pub best : best_of new ≡ least_with (best_of old) complaints
  pub seen : new.seen ≡ []

-- One checker has made this visit more than another.
abbrev pub HasVisited : Checker → Checker → Visit → Type 0
HasVisited old new v =
    HasFound old new (found_at old.names.now (known_of old) (open_of old) v) (known_behind (known_of old) v) (open_after (open_of old) v)

-- One checker has these complaints more than another, and is else as it was.
abbrev pub Adds : Checker → Checker → List Complaint → Type 0
Adds old new complaints = HasFound old new complaints (known_of old) (open_of old)
