-- Which implications are flows, and where those stand that speak of an unknown.
use Rattle.std.specs.Prelude.{◌≡◌, ◌<◌, ◌≤◌, ℕ, List, [], ◌∷◌, Option, Some, None, slice_get}
use Rattle.std.specs.Global.{Vec}
use Rattle.lq_refined_types.specs.Parts.Constraint.{Constraint}
use Rattle.lq_refined_types.specs.Parts.Part.{Part, known, unknown}
use Rattle.lq_refined_types.specs.Parts.Refuting.{SpeaksOf}
use Rattle.lq_solve_fixpoint.specs.Weakening.Among.{IsAmong}
use Rattle.lq_solve_fixpoint.specs.declared.weakening.span.Span.{Span}

-- the unknown that a goal is, where it is one
abbrev pub goal_unknown : Part → Option ℕ
goal_unknown (known p) = None
goal_unknown (unknown u σ) = Some u

abbrev pub AreGoals : List Constraint → List (Option ℕ) → Type 0
AreGoals [] [] = Unit {0}
AreGoals (k ∷ ks) (g ∷ gs) = (goal_unknown k.goal ≡ g) × AreGoals ks gs
AreGoals [] (g ∷ gs) = ⊥
AreGoals (k ∷ ks) [] = ⊥

-- the number is within one of these runs
pub record IsWithinOne (spans : List Span) (at : ℕ) : Type 0 where
  pub span : Span
  pub among : IsAmong spans span
  pub from : span.start ≤ at
  pub before : at < span.end

abbrev pub row_spans : Option (Vec Span) → List Span
row_spans None = []
row_spans (Some row) = row.items

abbrev pub spans_at : List (Vec Span) → ℕ → List Span
spans_at spans u = row_spans (slice_get spans u)

-- each implication that speaks of an unknown is within one of the unknown's runs
abbrev pub AreCovered : List Constraint → List (Vec Span) → Type 0
AreCovered cs spans = (u at : ℕ) (k : Constraint) → slice_get cs at ≡ Some k → SpeaksOf u k → IsWithinOne (spans_at spans u) at

abbrev pub count_or_zero : Option ℕ → ℕ
count_or_zero None = 0
count_or_zero (Some n) = n
