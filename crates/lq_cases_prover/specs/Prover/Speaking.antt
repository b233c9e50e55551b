-- Of which terms, flags and objects the readings of an implication speak.
use Rattle.std.specs.Prelude.{◌≡◌, All, List}
use Rattle.lq_prover_case.specs.Equations.Naming.{Keeps}
use Rattle.lq_prover_proof_tree.specs.Literals.Parts.{flags_in, objects_in}
use Rattle.lq_logic_predicates.specs.ClosedImplication.{ClosedImplication, terms_in}
use Rattle.lq_logic_predicates.specs.NnfView.{nnf_view}
use Rattle.lq_logic_predicates.specs.declared.nnf.Nnf.{Nnf}
use Rattle.lq_prover_search.specs.Search.Scope.{IsWithin, Scope}

-- each reading speaks of what the scope has alone
abbrev pub AllWithin : Scope → List Nnf → Type 0
AllWithin s readings = All (λ reading. IsWithin s (nnf_view reading)) readings

-- the terms and flags of an implication, and its objects and maybe more
pub record IsScopeOf (s : Scope) (i : ClosedImplication) : Type 0 where
  pub terms : s.terms ≡ terms_in i
  pub flags : s.flags ≡ flags_in i
  pub objects : Keeps (objects_in i) s.objects

-- they speak of these alone
abbrev pub SpeakOf : ClosedImplication → List Nnf → Type 0
SpeakOf i readings = (s : Scope) → IsScopeOf s i → AllWithin s readings
