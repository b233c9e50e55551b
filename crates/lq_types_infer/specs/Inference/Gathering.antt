-- The equations of a front of a program's visits.
use Rattle.std.specs.Prelude.{◌≡◌, ℕ, ◌+◌, List, [], ◌∷◌, Option, Some, None}
use Rattle.lq_text_tree.specs.MlType.{MlType}
use Rattle.lq_text_tree.specs.Types.{Signature}
use Rattle.lq_text_walk.specs.Walk.Visits.{Visit}
use Rattle.lq_types_rules.specs.declared.equations.system.System.{System}
use Rattle.lq_types_rules.specs.Equations.Adding.{IsFresh, Agree, Adds}
use Rattle.lq_types_rules.specs.Equations.Gathered.{VisitRule}
use Rattle.lq_types_rules.specs.Equations.Solved.{Solves, IsPrincipal}
use Rattle.lq_types_infer.specs.Inference.Copying.{AddsUse}
use Rattle.lq_types_rules.specs.Visits.Owning.{binder_slots, AreApart}
use Rattle.lq_types_rules.specs.Typings.Uses.{Known, GeneralUse, none_known, behind, use_at, ObeysUses}

-- what a visit adds: for a use of a generalised definition a copy or the definition's type, else its rule
abbrev pub StepBy : Signature → ℕ → Option GeneralUse → Visit → System → System → Type 0
StepBy g nodes None v old new = Adds old new (VisitRule g nodes v)
StepBy g nodes (Some u) v old new = AddsUse old new (binder_slots nodes u.before) (nodes + u.binder) u.node

abbrev pub IsStep : Signature → ℕ → Known → Visit → System → System → Type 0
IsStep g nodes k v old new = StepBy g nodes (use_at k v) v old new

-- types by which the visits' rules are obeyed are, with types for the other nodes, a solution of the equations
abbrev pub IsComplete : Signature → ℕ → ℕ → List Visit → System → Type 0
IsComplete g nodes slots visits s = (types : ℕ → MlType) → ObeysUses g nodes visits types
    → (later : ℕ → MlType) × Agree slots types later × Solves s s.equations.items later

-- the most general solution of the equations obeys the visits' rules
abbrev pub IsSound : Signature → ℕ → List Visit → System → Type 0
IsSound g nodes visits s = (types : ℕ → MlType) → IsPrincipal s types → ObeysUses g nodes visits types

-- from the first equations to the last ones by a step a visit, where this is known before them
abbrev pub AreSteps : Signature → ℕ → Known → List Visit → System → System → Type 0
AreSteps g nodes k [] first last = last ≡ first
AreSteps g nodes k (v ∷ vs) first last = (next : System) × IsStep g nodes k v first next × AreSteps g nodes (behind k v) vs next last

-- Steps from none on say the visits' rules, where each slot is of one item.
abbrev pub StepsSayRules : Type 0
StepsSayRules = (g : Signature) (nodes slots : ℕ) (visits : List Visit) (first last : System) → IsFresh slots first → AreApart nodes slots visits → AreSteps g nodes none_known visits first last
    → IsComplete g nodes slots visits last × IsSound g nodes visits last
