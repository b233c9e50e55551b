-- A walk over a program that finds what instantiates its uses.
use Rattle.std.specs.Prelude.{◌≡◌, ℕ, ◌+◌, ◌<◌, List, [], ◌++◌, Option, Some, None, All, length}
use Rattle.lq_text_tree.specs.MlType.{MlType}
use Rattle.lq_text_tree.specs.Types.{put}
use Rattle.lq_types_rules.specs.Equations.Gathered.{VisitIn}
use Rattle.lq_text_walk.specs.Walk.Visits.{Visit}
use Rattle.lq_text_walk.specs.Scoped.Numbers.{from_on}
use Rattle.lq_text_walk.specs.Scoped.Scoping.{Scoping}
use Rattle.lq_text_walk.specs.Scoped.Signature.{signature_in}
use Rattle.lq_types_rules.specs.Visits.Laws.{slot_count}
use Rattle.lq_types_rules.specs.Typings.Fronts.{left_in}
use Rattle.lq_types_rules.specs.Typings.Principal.{node_count}
use Rattle.lq_types_rules.specs.Typings.Uses.{Known, GeneralUse, ObeysFrom}
use Rattle.lq_types_infer.specs.declared.annotation.annotated.Annotated.{Annotated}
use Rattle.lq_types_infer.specs.Annotation.Whole.{program_of, table_of, types_of}
use Rattle.lq_types_infer.specs.declared.instantiation.visiting.Pass.{Pass}
use Rattle.lq_types_infer.specs.Instantiation.General.{HasGeneral}
use Rattle.lq_types_infer.specs.Instantiation.Instances.{AreFound}
use Rattle.lq_types_infer.specs.Instantiation.Matching.{IsMatching}
use Rattle.lq_types_infer.specs.Instantiation.Uses.{IsCounted, Instantiates, uses_from, uses_of}

-- the node's type is that of the binder with other types for its variables
abbrev pub IsCopy : ℕ → (ℕ → MlType) → ℕ → ℕ → Type 0
IsCopy nodes types node binder = (by : ℕ → MlType) × (types node ≡ put by (types (nodes + binder)))

-- the use names a node and a binder, and its type is an instance of that of the binder
pub record IsUse (s : Scoping) (types : ℕ → MlType) (node binder : ℕ) : Type 0 where
  pub node_low : node < node_count s
  pub binder_low : binder < length s.sources
  pub copied : IsCopy (node_count s) types node binder

abbrev pub IsUseIf : Scoping → (ℕ → MlType) → Option GeneralUse → Type 0
IsUseIf s types None = Unit {0}
IsUseIf s types (Some u) = IsUse s types u.node u.binder

-- these numbers instantiate what is left, where it is a use; else there are none
abbrev pub InstantiatesIf : List MlType → ℕ → (ℕ → MlType) → Option GeneralUse → List ℕ → Type 0
InstantiatesIf all nodes types None rows = rows ≡ []
InstantiatesIf all nodes types (Some u) rows = IsCounted nodes types u rows × Instantiates all nodes types u rows

-- what holds of the visits that are left, where so many nodes came before
pub record IsAhead (s : Scoping) (types : ℕ → MlType) (k : Known) (visits : List Visit) (count : ℕ) : Type 0 where
  pub obeys : ObeysFrom (signature_in s.datatypes) (node_count s) k visits types
  pub within : All (VisitIn (node_count s) (slot_count s)) visits
  pub numbers : left_in visits ≡ from_on count (length (left_in visits))
  pub total : count + length (left_in visits) ≡ node_count s

-- the walk has these visits before it, and has found what instantiates the uses that it has left
pub record IsAt (a : Annotated) (k : Known) (visits : List Visit) (p : Pass) : Type 0 where
  pub matching : IsMatching (table_of a) p.matching
  pub general : HasGeneral p.definitions k
  pub count : ℕ
  pub ahead : IsAhead (program_of a) (types_of a) k visits count
  pub done : List GeneralUse
  pub whole : done ++ uses_from k visits ≡ uses_of (program_of a)
  pub found : AreFound (table_of a) (node_count (program_of a)) (types_of a) done p.rows.items p.starts.items count
