-- Runs of implications: what they hold, and for which unknowns they are added.
use Rattle.std.specs.Prelude.{◌≡◌, ◌⊎◌, ◌<◌, ◌≤◌, ℕ, List, length, Some, slice_get, slice_index_or}
use Rattle.std.specs.Global.{Vec}
use Rattle.lq_refined_substitution.specs.Implications.Views.{environment_in}
use Rattle.lq_refined_substitution.specs.declared.implications.implication.Implication.{Implication}
use Rattle.lq_refined_types.specs.Parts.Constraint.{Constraint}
use Rattle.lq_refined_types.specs.Parts.Part.{Parts}
use Rattle.lq_refined_types.specs.Parts.Refuting.{IsUnknown, Speak, SpeaksOf}
use Rattle.lq_refined_substitution.specs.Substitution.Views.{part_view, parts_view}
use Rattle.lq_solve_fixpoint.specs.Weakening.Index.{IsWithinOne, spans_at}
use Rattle.lq_solve_fixpoint.specs.declared.weakening.span.Span.{Span}

-- each unknown of which an implication speaks is one of so many
abbrev pub AreBelow : ℕ → List Constraint → Type 0
AreBelow n cs = (u at : ℕ) (k : Constraint) → slice_get cs at ≡ Some k → SpeaksOf u k → u < n

-- the number is within the run
abbrev pub Holds : Span → ℕ → Type 0
Holds s k = (s.start ≤ k) × (k < s.end)

-- the run of an environment; an empty one of one that isn't there
abbrev pub range_at : List Span → ℕ → Span
range_at ranges e = slice_index_or ranges e (record { start = 0; end = 0 })

-- each implication is within the run of its environment
abbrev pub AreRanges : List Implication → List Span → Type 0
AreRanges is ranges = (at : ℕ) (i : Implication) → slice_get is at ≡ Some i → i.env < length ranges → Holds (range_at ranges i.env) at

-- the runs of each unknown hold what they held and, where P holds of an unknown and a number, that number
pub record Adds (P : ℕ → ℕ → Type 0) (before after : List (Vec Span)) : Type 0 where
  pub len : length after ≡ length before
  pub kept : (u k : ℕ) → IsWithinOne (spans_at before u) k → IsWithinOne (spans_at after u) k
  pub added : (u k : ℕ) → u < length before → P u k → IsWithinOne (spans_at after u) k

-- the implication of the number speaks of the unknown, not among the hypotheses of its environment
pub record SpeaksItself (is : List Implication) (u at : ℕ) : Type 0 where
  pub implication : Implication
  pub here : slice_get is at ≡ Some implication
  pub speaks : Speak u (parts_view implication.left) ⊎ IsUnknown u (part_view implication.goal)

-- the unknown stands in one of the first so many environments, whose run holds the number
pub record IsInherited (es : List Parts) (n : ℕ) (ranges : List Span) (u at : ℕ) : Type 0 where
  pub env : ℕ
  pub below : env < n
  pub speaks : Speak u (environment_in es env)
  pub holds : Holds (range_at ranges env) at

-- An environment is left: what it has of the unknown is added to the unknown's runs, or inherited from an earlier one.
pub record IsLeft (es : List Parts) (e : ℕ) (before after : List Span) (spans spans_after : List (Vec Span)) : Type 0 where
  pub len : length spans_after ≡ length spans
  pub kept : (u k : ℕ) → IsWithinOne (spans_at spans u) k → IsWithinOne (spans_at spans_after u) k
  pub widened : (i k : ℕ) → Holds (range_at before i) k → Holds (range_at after i) k
  pub left : (u k : ℕ) → u < length spans → Speak u (environment_in es e) → Holds (range_at before e) k → IsWithinOne (spans_at spans_after u) k ⊎ IsInherited es e after u k
