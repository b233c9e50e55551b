-- Chains of merges between names.
use Rattle.std.specs.Prelude.{◌≡◌, ◌⊎◌, ℕ, List, [], ◌∷◌}
use Rattle.lq_prover_congruence.specs.Classes.Terms.{Term, term_in}
use Rattle.lq_prover_congruence.specs.Classes.Steps.{IsMerge, IsNamed, IsTerm}
use Rattle.lq_prover_congruence.specs.declared.classes.head.Head.{Head}
use Rattle.lq_prover_congruence.specs.declared.classes.steps.Step.{Step}

-- a term that is a name
abbrev pub IsName : List Step → ℕ → Type 0
IsName steps i = (h : Head) × IsNamed h × IsTerm steps i (h, [])

-- every merge is of two names
abbrev pub AllNamed : List Step → Type 0
AllNamed steps = (a b r : ℕ) → IsMerge steps a b r → IsName steps a × IsName steps b

-- the reasons of merges that lead from one term to another, each merge read either way
abbrev pub IsChain : List Step → ℕ → ℕ → List ℕ → Type 0
IsChain steps a b [] = a ≡ b
IsChain steps a b (r ∷ rs) = (m : ℕ) × (IsMerge steps a m r ⊎ IsMerge steps m a r) × IsChain steps m b rs

-- a name among the terms with their numbers
abbrev pub IsNameIn : List (Term × ℕ) → ℕ → Type 0
IsNameIn known i = (h : Head) × IsNamed h × (term_in known i ≡ (h, []))
