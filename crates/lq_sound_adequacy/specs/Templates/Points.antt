-- Points whose scopes, and whose names of arguments, have their sorts among those of names.
use Rattle.std.specs.Prelude.{◌≡◌, ℕ, true, List, [], ◌∷◌, Option, Some, None}
use Rattle.lq_sound_scope.specs.Scopes.Over.{kind_of}
use Rattle.lq_refined_templates.specs.Points.Point.{Point, whole, inner, constant, empty, each, idle}
use Rattle.lq_refined_types.specs.Types.Operations.{symbol_of}
use Rattle.lq_text_qualifiers.specs.Faults.Shapes.{shape_of}
use Rattle.lq_text_tree.specs.MlType as ml
use Rattle.lq_text_tree.specs.MlType.{MlType}
use Rattle.lq_sound_scope.specs.Sorts.Sorts.{ScopeStands, Sorts}

module _ (N : Sorts) where
  -- each name of an argument has the kind of the argument's type
  abbrev pub NamesFit : List (Option ℕ) → MlType → Type 0
  NamesFit [] t = Unit {0}
  NamesFit (None ∷ xs) (ml.arrow a b) = NamesFit xs b
  NamesFit (Some x ∷ xs) (ml.arrow a b) = (N (kind_of (shape_of a)) (symbol_of x) ≡ true) × NamesFit xs b
  NamesFit (x ∷ xs) _ = Unit {0}

  abbrev pub PointSorted : Point → Type 0
  PointSorted (whole Γ xs t) = ScopeStands N [] Γ × NamesFit xs t
  PointSorted (inner Γ t) = ScopeStands N [] Γ
  PointSorted (constant Γ t) = ScopeStands N [] Γ
  PointSorted (empty Γ t) = ScopeStands N [] Γ
  PointSorted (each Γ ts) = ScopeStands N [] Γ
  PointSorted (idle ts) = Unit {0}

  abbrev pub PointsSorted : List Point → Type 0
  PointsSorted [] = Unit {0}
  PointsSorted (q ∷ qs) = PointSorted q × PointsSorted qs
