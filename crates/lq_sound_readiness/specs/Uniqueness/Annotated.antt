-- When an annotation is that of a scoped program: it has the principal types, and the arguments of uses.
use Rattle.std.specs.Prelude.{◌≡◌, ℕ, ◌+◌, ◌<◌, ◌≤◌, All, Option, Some, None}
use Rattle.lq_types_infer.specs.Annotation.Bounds.{bound_of}
use Rattle.lq_types_rules.specs.Visits.Laws.{slot_count}
use Rattle.lq_types_infer.specs.Instantiation.Uses.{uses_of}
use Rattle.lq_refined_templates.specs.Points.Annotation.{Annotation}
use Rattle.lq_text_walk.specs.Scoped.Scoping.{Scoping}
use Rattle.lq_generate_reading.specs.SourceNames.Texts.{text_in}
use Rattle.lq_text_tree.specs.MlType.{MlType, unit, MlTypes, no_types, more_types}
use Rattle.lq_text_tree.specs.Types.{count_types, put, type_at}
use Rattle.lq_types_rules.specs.Typings.Inference.{typed, IsInference}
use Rattle.lq_types_rules.specs.Typings.Principal.{node_count}
use Rattle.lq_types_rules.specs.Typings.Uses.{GeneralUse}

-- There are as many types as the type of the used definition has variables, and with them in place of these it is the type of the use.
pub record AreArguments (n : Annotation) (u : GeneralUse) (ts : MlTypes) : Type 0 where
  pub counted : count_types ts ≡ bound_of (n.names u.binder)
  pub instance : n.types u.node ≡ put (type_at ts) (n.names u.binder)

-- types, where there are any
abbrev pub if_any : MlTypes → Option MlTypes
if_any no_types = None
if_any (more_types t ts) = Some (more_types t ts)

-- at the node of a use the annotation has these types, where there are any
abbrev pub HasArguments : Annotation → GeneralUse → Type 0
HasArguments n u = (ts : MlTypes) × AreArguments n u ts × (n.arguments u.node ≡ if_any ts)

-- The annotation has these types of the program's nodes, and of its binders behind them; what is no slot of it has the type unit. It has the
-- arguments of each use of a generalised definition, and none of other nodes, and the names of the source.
pub record Annotates (s : Scoping) (types : ℕ → MlType) (n : Annotation) : Type 0 where
  pub slots : (k : ℕ) → k < slot_count s → n.types k ≡ types k
  pub past : (k : ℕ) → slot_count s ≤ k → n.types k ≡ unit
  pub binders : (x : ℕ) → n.names x ≡ n.types (node_count s + x)
  pub used : All (HasArguments n) (uses_of s)
  pub unused : (k : ℕ) → All (λ u. u.node ≡ k → ⊥) (uses_of s) → n.arguments k ≡ None
  pub texts : (x : ℕ) → n.text x ≡ text_in s.sources x

-- It does so by principal types of the program. Of the name of the value nothing is said.
abbrev pub IsAnnotationOf : Scoping → Annotation → Type 0
IsAnnotationOf s n = ∥ ((types : ℕ → MlType) × IsInference s (typed types) × Annotates s types n) ∥₁
