-- One visit more.
use Rattle.std.specs.Prelude.{◌≡◌, ℕ, ◌<◌, ◌≤◌, take, length, All}
use Rattle.lq_text_tree.specs.Types.{Signature}
use Rattle.lq_types_unify.specs.Knowing.{Knows}
use Rattle.lq_types_unify.specs.Solution.{HasNoSolution}
use Rattle.lq_text_walk.specs.Walk.Visits.{Visit}
use Rattle.lq_types_rules.specs.declared.equations.system.System.{System}
use Rattle.lq_types_rules.specs.declared.equations.template.Constructors.{Constructors}
use Rattle.lq_types_rules.specs.Equations.Adding.{IsSystem, count_of, forms_of}
use Rattle.lq_types_rules.specs.Equations.Templates.{HasSignature}
use Rattle.lq_types_rules.specs.Visits.Owning.{slots_at}
use Rattle.lq_types_rules.specs.Typings.Uses.{Known, behind}
use Rattle.lq_types_infer.specs.declared.inference.definitions.Definitions.{Definitions}
use Rattle.lq_types_infer.specs.declared.inference.equations.Equations.{Equations}
use Rattle.lq_types_infer.specs.Inference.Copying.{AreClear}
use Rattle.lq_types_infer.specs.Inference.Defining.{HasKnown}
use Rattle.lq_types_infer.specs.Inference.Gathering.{IsStep}
use Rattle.lq_types_infer.specs.Inference.Opening.{AreTold}

-- the classes are those of the equations, no class is marked, and the definitions whose types may have variables are told
pub record IsKept (nodes : ℕ) (s : Equations) : Type 0 where
  pub system : IsSystem s.system
  pub knows : Knows s.system.arena s.system.equations.items s.solver
  pub clear : AreClear s.weak.items
  pub told : AreTold nodes s.system s.definitions.plain.items s.opened.told s.opened.places.items

-- more equations behind those that there were, of which alone the classes are
pub record IsAdded (nodes : ℕ) (old new : Equations) : Type 0 where
  pub system : IsSystem new.system
  pub longer : count_of old.system ≤ count_of new.system
  pub room : length old.system.equations.items ≤ length new.system.equations.items
  pub front : take (length old.system.equations.items) new.system.equations.items ≡ old.system.equations.items
  pub knows : Knows new.system.arena old.system.equations.items new.solver
  pub clear : AreClear new.weak.items
  pub told : AreTold nodes new.system new.definitions.plain.items new.opened.told new.opened.places.items
  pub same : new.definitions ≡ old.definitions

-- what is known at a visit, whose rule names slots that are nodes
abbrev pub IsAtVisit : ℕ → Equations → Visit → Type 0
IsAtVisit nodes s v = (k : Known) × HasKnown s.definitions k × All (λ i. i < count_of s.system) (slots_at nodes k v)

-- the system with what the visit adds
abbrev pub IsStepOf : Constructors → ℕ → Equations → Visit → System → Type 0
IsStepOf cs nodes s v next = (g : Signature) (k : Known) → HasSignature cs g → HasKnown s.definitions k → IsStep g nodes k v s.system next

-- what is known behind the visit
abbrev pub IsBehind : Visit → Definitions → Definitions → Type 0
IsBehind v old new = (k : Known) → HasKnown old k → HasKnown new (behind k v)

-- no types meet the equations with what the visit adds
pub record HasClash (cs : Constructors) (nodes : ℕ) (s : Equations) (v : Visit) : Type 0 where
  pub next : System
  pub system : IsSystem next
  pub step : IsStepOf cs nodes s v next
  pub fails : HasNoSolution (forms_of next) next.equations.items
