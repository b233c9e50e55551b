-- Numbers past the unknowns of which environments and implications speak.
use Rattle.std.specs.Prelude.{ℕ, ◌<◌, ◌≤◌, List}
use Rattle.lq_refined_substitution.specs.Implications.Views.{environment_in}
use Rattle.lq_refined_substitution.specs.declared.implications.implication.Implication.{Implication}
use Rattle.lq_refined_types.specs.Parts.Part.{Parts}
use Rattle.lq_refined_types.specs.Parts.Refuting.{Speak}
use Rattle.lq_solve_fixpoint.specs.Questions.Covering.{SpeaksItself}

-- no less than the one number, and past each unknown of which P holds
pub record IsPast (count : ℕ) (P : ℕ → Type 0) (n : ℕ) : Type 0 where
  pub kept : count ≤ n
  pub past : (u : ℕ) → P u → u < n

-- past each unknown among the hypotheses of the first so many environments
abbrev pub IsPastEnvironments : List Parts → ℕ → ℕ → Type 0
IsPastEnvironments es count n = (e u : ℕ) → e < count → Speak u (environment_in es e) → u < n

-- past each unknown of which the first so many implications speak, but for the hypotheses of their environments
abbrev pub IsPastImplications : List Implication → ℕ → ℕ → Type 0
IsPastImplications is count n = (at u : ℕ) → at < count → SpeaksItself is u at → u < n
