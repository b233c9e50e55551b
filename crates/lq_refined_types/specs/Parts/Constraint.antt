-- Lists of implications between parts: demands and flows, and when an assignment meets them.
use Rattle.std.specs.Prelude.{◌≡◌, ℕ, ◌<◌, List, [], ◌∷◌, Some, slice_get}
use Rattle.lq_refined_types.specs.Parts.Assignment.{Assignment, Implied}
use Rattle.lq_refined_types.specs.Parts.Part.{Part, known, unknown, Parts}

-- hypotheses and a goal
pub record Constraint : Type 0 where
  pub hypotheses : Parts
  pub goal : Part

-- it is valid under the assignment
abbrev pub IsMet : Assignment → Constraint → Type 0
IsMet A c = Implied A c.hypotheses c.goal

abbrev pub AllMet : Assignment → List Constraint → Type 0
AllMet A [] = Unit {0}
AllMet A (c ∷ cs) = IsMet A c × AllMet A cs

-- a demand has a known goal, a flow an unknown one
abbrev pub IsDemand : Part → Type 0
IsDemand (known p) = Unit {0}
IsDemand (unknown u σ) = ⊥

abbrev pub IfFlow : Part → Type 0 → Type 0
IfFlow (known p) M = Unit {0}
IfFlow (unknown u σ) M = M

-- all flows are valid
abbrev pub FlowsMet : Assignment → List Constraint → Type 0
FlowsMet A [] = Unit {0}
FlowsMet A (c ∷ cs) = IfFlow c.goal (IsMet A c) × FlowsMet A cs

-- the demand at this place of the list isn't valid, and each demand before it is
pub record IsFirstFailing (A : Assignment) (cs : List Constraint) (at : ℕ) : Type 0 where
  pub constraint : Constraint
  pub is : slice_get cs at ≡ Some constraint
  pub demand : IsDemand constraint.goal
  pub fails : IsMet A constraint → ⊥
  pub before : (i : ℕ) (c : Constraint) → i < at → slice_get cs i ≡ Some c → IsDemand c.goal → IsMet A c
