-- What an annotation says of a scoped program whose types are known, and by which types the uses of its definitions are instantiated.
use Rattle.std.specs.Prelude.{◌≡◌, ℕ, ◌+◌, ◌<◌, true, List, [], ◌∷◌, All, length, Option, Some, None}
use Rattle.std.specs.Option.{is_some}
use Rattle.lq_text_tree.specs.MlType.{MlType, MlTypes}
use Rattle.lq_types_table.specs.Heads.{each}
use Rattle.lq_types_table.specs.Nodes.{at}
use Rattle.lq_text_walk.specs.Scoped.Scoping.{Scoping}
use Rattle.lq_types_rules.specs.Typings.Principal.{node_count}
use Rattle.lq_types_infer.specs.Instantiation.Uses.{IsCounted, Instantiates, uses_of}
use Rattle.lq_refined_templates.specs.Points.Annotation.{Annotation}

-- These numbers of a table's types instantiate each use of a generalised definition at the node, and there are none where it is no such use.
pub record IsInstanceAt (s : Scoping) (types : ℕ → MlType) (table : List MlType) (i : ℕ) (row : List ℕ) : Type 0 where
  pub counted : All (λ u. u.node ≡ i → IsCounted (node_count s) types u row) (uses_of s)
  pub instance : All (λ u. u.node ≡ i → Instantiates table (node_count s) types u row) (uses_of s)
  pub unused : All (λ u. u.node ≡ i → ⊥) (uses_of s) → row ≡ []

-- so do those of each node
abbrev pub AreInstances : Scoping → (ℕ → MlType) → List MlType → (ℕ → List ℕ) → Type 0
AreInstances s types table numbers = (i : ℕ) → i < node_count s → IsInstanceAt s types table i (numbers i)

-- the types of these numbers, if there are some
abbrev pub types_if : List MlType → List ℕ → Option MlTypes
types_if table [] = None
types_if table (r ∷ rs) = Some (each (at table) (r ∷ rs))

-- The annotation has these types of nodes, and of binders behind them, and at nodes the types of these numbers. A generalised definition that is
-- used has a name in the source.
pub record Annotates (s : Scoping) (types : ℕ → MlType) (table : List MlType) (numbers : ℕ → List ℕ) (n : Annotation) : Type 0 where
  pub nodes : (i : ℕ) → i < node_count s → n.types i ≡ types i
  pub binders : (x : ℕ) → x < length s.sources → n.names x ≡ types (node_count s + x)
  pub arguments : (i : ℕ) → i < node_count s → n.arguments i ≡ types_if table (numbers i)
  pub texts : All (λ u. is_some (n.text u.binder) ≡ true) (uses_of s)
