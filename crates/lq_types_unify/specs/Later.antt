-- What stays true of a definition that was generalised, when more nodes and more equations come.
use Rattle.std.specs.Prelude.{◌≡◌, ℕ, ◌<◌, ◌≤◌, Bool, false, List, ◌++◌, Option, Some, All}
use Rattle.lq_types_unify.specs.declared.arena.Equation.{Equation}
use Rattle.lq_types_unify.specs.Simple.{Simple, variable, replaced}
use Rattle.lq_types_unify.specs.Nodes.{Form}
use Rattle.lq_types_unify.specs.Solution.{AreNodes, IsPrincipal}
use Rattle.lq_types_unify.specs.Variables.{Each}

-- a node that what comes later may name: a later one, or one whose type has no variable that was generalised
abbrev pub IsPublic : ℕ → (ℕ → Bool) → (ℕ → Simple) → ℕ → Type 0
IsPublic n general types i = i < n → Each (λ v. general v ≡ false) (types i)

-- `first` are the types when the definition was generalised, with `count` nodes; `last` those of all that came since. `bound` is above
-- the variables of these
pub record IsLater (old new : ℕ → Option Form) (count : ℕ) (before since : List Equation) (first last : ℕ → Simple) (general : ℕ → Bool) (bound : ℕ) : Type 0 where
  pub kept : (i : ℕ) → i < count → new i ≡ old i
  pub inside : (i : ℕ) (f : Form) → old i ≡ Some f → (i < count) × All (λ p. p < count) f.parts
  pub nodes : AreNodes count before
  pub first_principal : IsPrincipal old before first
  pub last_principal : IsPrincipal new (before ++ since) last
  pub forms_public : (i : ℕ) (f : Form) → count ≤ i → new i ≡ Some f → All (IsPublic count general first) f.parts
  pub equations_public : All (λ e. IsPublic count general first e.left × IsPublic count general first e.right) since
  pub below : (i : ℕ) → Each (λ v. v < bound) (last i)

-- the type of a use: the type that the definition had, with other types for the variables that were generalised
pub record IsCopied (first last : ℕ → Simple) (general : ℕ → Bool) (definition used : ℕ) : Type 0 where
  pub by : ℕ → Simple
  pub node : ℕ → ℕ
  pub copied : last used ≡ replaced by (first definition)
  -- a variable that wasn't generalised is that of a node, whose type it has by now
  pub shared : Each (λ v. general v ≡ false → (first (node v) ≡ variable v) × (by v ≡ last (node v))) (first definition)

-- the type of the use is an instance of the type that the definition has now, and the variables of what is public stay
pub record IsUse (count : ℕ) (first last : ℕ → Simple) (general : ℕ → Bool) (definition used : ℕ) : Type 0 where
  pub by : ℕ → Simple
  pub instance : last used ≡ replaced by (last definition)
  pub fixed : (i : ℕ) → IsPublic count general first i → Each (λ v. by v ≡ variable v) (last i)

abbrev pub UsesAreInstances : Type 0
UsesAreInstances = (old new : ℕ → Option Form) (count : ℕ) (before since : List Equation) (first last : ℕ → Simple) (general : ℕ → Bool) (bound definition used : ℕ)
    → IsLater old new count before since first last general bound → definition < count → IsCopied first last general definition used → IsUse count first last general definition used
