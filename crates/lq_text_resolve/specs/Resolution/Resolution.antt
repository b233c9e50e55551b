-- What a program resolves to: its definitions with their names bound and its datatypes, or the first thing that is wrong with its names.
use Rattle.std.specs.Prelude.{◌≡◌, ℕ, List, [], Some}
use Rattle.lq_text_tree.specs.Items.{ItemTree}
use Rattle.lq_text_scope.specs.Complaints.{Complaint, least}
use Rattle.lq_text_scope.specs.Uses.{of_program}
use Rattle.lq_text_walk.specs.Scoped.Scoping.{Scoping, scoping}
use Rattle.lq_text_datatypes.specs.Datatypes.{datatypes_in}
use Rattle.lq_text_resolve.specs.Binding.Making.{program_made}

-- a scoped program, or the complaint that is told
pub data Resolution : Type 0 where
  resolved : Scoping → Resolution
  refused : Complaint → Resolution

-- the definitions, datatypes and source names of a program whose names are bound
abbrev pub scoping_of : List (List ℕ) → List ItemTree → Scoping
scoping_of names is = scoping (program_made names is).items (datatypes_in is) (program_made names is).sources

-- A program resolves to its definitions where nothing is wrong with its names, and else is refused for the least complaint.
abbrev pub IsResolution : List (List ℕ) → List ItemTree → Resolution → Type 0
IsResolution names is (resolved s) = (of_program names is ≡ []) × (s ≡ scoping_of names is)
IsResolution names is (refused c) = least (of_program names is) ≡ Some c

-- at most one
abbrev pub OneResolution : Type 0
OneResolution = (names : List (List ℕ)) (is : List ItemTree) (a b : Resolution) → IsResolution names is a → IsResolution names is b → a ≡ b
