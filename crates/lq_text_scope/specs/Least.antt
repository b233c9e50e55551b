-- The least of a list of complaints, as a relation.
use Rattle.std.specs.Prelude.{◌≡◌, ◌⊎◌, false, List, [], ◌∷◌, Option, Some, None}
use Rattle.lq_text_scope.specs.Complaints.{Complaint, is_less, least}

-- a complaint is one of these
abbrev pub IsAmong : Complaint → List Complaint → Type 0
IsAmong c [] = ⊥
IsAmong c (d ∷ ds) = (c ≡ d) ⊎ IsAmong c ds

-- it is one of these, and none of them is less
pub record IsLeast (cs : List Complaint) (c : Complaint) : Type 0 where
  pub among : IsAmong c cs
  pub least_of : (d : Complaint) → IsAmong d cs → is_less d c ≡ false

-- what is told of a list
abbrev pub IsTold : List Complaint → Option Complaint → Type 0
IsTold cs None = cs ≡ []
IsTold cs (Some c) = IsLeast cs c

abbrev pub LeastIsLeast : Type 0
LeastIsLeast = (cs : List Complaint) → IsTold cs (least cs)
