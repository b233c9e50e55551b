-- The first visits of a program: their equations, or that their rules can't hold together.
use Rattle.std.specs.Prelude.{ℕ, suc, ◌<◌, ◌≤◌, List, take, length, All}
use Rattle.lq_base_names.specs.declared.name.Binder.{Binder}
use Rattle.lq_text_tree.specs.Items.{items_view}
use Rattle.lq_text_tree.specs.MlType.{MlType}
use Rattle.lq_text_tree.specs.Types.{Signature}
use Rattle.lq_types_unify.specs.Solved.{HasOrder}
use Rattle.lq_text_walk.specs.Walk.Visits.{Visit, visits_of_items}
use Rattle.lq_types_rules.specs.Equations.Adding.{IsSystem, count_of}
use Rattle.lq_types_rules.specs.Equations.Gathered.{VisitIn}
use Rattle.lq_types_rules.specs.Equations.Solved.{IsPrincipal, types_in}
use Rattle.lq_types_rules.specs.Equations.Templates.{AreWhole, HasSignature}
use Rattle.lq_types_rules.specs.Visits.Owning.{AreApart}
use Rattle.lq_types_rules.specs.Typings.Uses.{ObeysUses}
use Rattle.lq_types_infer.specs.declared.inference.equations.Inferred.{Inferred}
use Rattle.lq_types_infer.specs.declared.inference.program.Attempt.{Attempt}
use Rattle.lq_types_infer.specs.declared.inference.program.Attempt.TheVariants.{Solved, Failed}
use Rattle.lq_types_infer.specs.declared.inference.program.Program.{Program}
use Rattle.lq_types_infer.specs.Inference.Gathering.{IsComplete, IsSound}

abbrev pub visits_in : Program → List Visit
visits_in p = visits_of_items (items_view Binder (λ b. b.0) p.items.now)

-- the constructors have a signature, and each slot that a rule names is a node's or a binder's, and of one item
pub record IsReady (p : Program) : Type 0 where
  pub whole : AreWhole p.constructors
  pub signature : (g : Signature) × HasSignature p.constructors g
  pub apart : AreApart p.nodes p.slots (visits_in p)
  pub within : All (VisitIn p.nodes p.slots) (visits_in p)

-- types obey the rules of the first n visits
abbrev pub Can : Program → ℕ → Type 0
Can p n = (g : Signature) → HasSignature p.constructors g → (types : ℕ → MlType) × ObeysUses g p.nodes (take n (visits_in p)) types

-- no types do
abbrev pub Cannot : Program → ℕ → Type 0
Cannot p n = (g : Signature) → HasSignature p.constructors g → (types : ℕ → MlType) → ObeysUses g p.nodes (take n (visits_in p)) types → ⊥

-- the equations say the rules of the first n visits, and the types are their most general solution
pub record IsFrontSolved (p : Program) (n : ℕ) (i : Inferred) : Type 0 where
  pub system : IsSystem i.system
  pub principal : IsPrincipal i.system (types_in i.system i.solution)
  pub ordered : HasOrder i.system.arena i.solution
  pub longer : p.slots ≤ count_of i.system
  pub complete : (g : Signature) → HasSignature p.constructors g → IsComplete g p.nodes p.slots (take n (visits_in p)) i.system
  pub sound : (g : Signature) → HasSignature p.constructors g → IsSound g p.nodes (take n (visits_in p)) i.system

-- the first n visits' equations, or so many of them whose rules can't hold together
abbrev pub IsAttempt : Program → ℕ → Attempt → Type 0
IsAttempt p n (Solved i) = IsFrontSolved p n i
IsAttempt p n (Failed m) = (m ≤ n) × Cannot p m

-- with the visit behind the first n their rules can't hold together any more
pub record IsFailing (p : Program) (n : ℕ) : Type 0 where
  pub within : n < length (visits_in p)
  pub can : Can p n
  pub cannot : Cannot p (suc n)
