-- Points at which an implication fails under an assignment, and the instances of its goal that they refute.
use Rattle.std.specs.Prelude.{◌≡◌, ◌⊎◌, ℕ, ◌<◌, Bool, true, false, List, [], ◌∷◌, length, Some, slice_get}
use Rattle.lq_logic_predicates.specs.ClosedImplication.{IsPoint, MeetsEach}
use Rattle.lq_logic_predicates.specs.Formula.{Formula}
use Rattle.lq_logic_predicates.specs.Points.{Point, Meets}
use Rattle.lq_logic_predicates.specs.Reading.{reading_of}
use Rattle.lq_refined_types.specs.Parts.Assignment.{Assignment, goal_under, parts_under}
use Rattle.lq_refined_types.specs.Parts.Constraint.{Constraint, IsMet}
use Rattle.lq_refined_types.specs.Parts.Flowing.{Selection, IsWithin, assigned}
use Rattle.lq_refined_types.specs.Parts.Part.{Part, known, unknown, Parts}
use Rattle.lq_refined_types.specs.Parts.Substitution.{Subst, formula_by}

-- a point of the whole implication that meets its hypotheses and its negated goal
pub record FailsAt (A : Assignment) (c : Constraint) (p : Point) : Type 0 where
  pub point : IsPoint record { hypotheses = parts_under A c.hypotheses; goal = goal_under A c.goal } p
  pub meets : MeetsEach p (parts_under A c.hypotheses)
  pub against : Meets p (reading_of false (goal_under A c.goal))

-- the negated reading of the instance of this number, with what is put for its names, is met
pub record IsRefuted (p : Point) (σ : Subst) (instances : List Formula) (k : ℕ) : Type 0 where
  pub instance : Formula
  pub here : slice_get instances k ≡ Some instance
  pub against : Meets p (reading_of false (formula_by σ instance))

-- an instance that is chosen and refuted
pub record HasRefuted (chosen : ℕ → Bool) (p : Point) (σ : Subst) (instances : List Formula) : Type 0 where
  pub number : ℕ
  pub is_chosen : chosen number ≡ true
  pub refuted : IsRefuted p σ instances number

-- whether a part is the unknown
abbrev pub IsUnknown : ℕ → Part → Type 0
IsUnknown u (known p) = ⊥
IsUnknown u (unknown w σ) = u ≡ w

abbrev pub Speak : ℕ → Parts → Type 0
Speak u [] = ⊥
Speak u (q ∷ qs) = IsUnknown u q ⊎ Speak u qs

-- the unknown stands among the hypotheses or as the goal
abbrev pub SpeaksOf : ℕ → Constraint → Type 0
SpeaksOf u c = Speak u c.hypotheses ⊎ IsUnknown u c.goal

-- the instances of a flow's goal that are refuted at a point of the whole flow belong to no fewer selection that meets it
abbrev pub RefutedGo : Type 0
RefutedGo =
    (I : ℕ → List Formula) (c d : Selection) (hs : Parts) (u : ℕ) (σ : Subst) (p : Point) (k : ℕ)
    → FailsAt (assigned I c) (record { hypotheses = hs; goal = unknown u σ }) p → IsRefuted p σ (I u) k → IsWithin I d c
    → IsMet (assigned I d) (record { hypotheses = hs; goal = unknown u σ }) → d u k ≡ true → ⊥

-- at such a point one that is chosen is refuted
abbrev pub OneIsRefuted : Type 0
OneIsRefuted =
    (I : ℕ → List Formula) (c : Selection) (hs : Parts) (u : ℕ) (σ : Subst) (p : Point)
    → FailsAt (assigned I c) (record { hypotheses = hs; goal = unknown u σ }) p → HasRefuted (c u) p σ (I u)

-- an implication that is met stays so where only unknowns of which it doesn't speak change
abbrev pub OthersStay : Type 0
OthersStay =
    (I : ℕ → List Formula) (c d : Selection) (k : Constraint)
    → ((u : ℕ) → SpeaksOf u k → (i : ℕ) → i < length (I u) → c u i ≡ d u i) → IsMet (assigned I c) k → IsMet (assigned I d) k
