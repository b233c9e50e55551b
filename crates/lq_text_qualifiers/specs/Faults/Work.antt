-- The subtrees of a predicate that are still to be looked at.
use Rattle.std.specs.Prelude.{ℕ, suc, ◌+◌, List, [], ◌∷◌, ◌++◌, map, reverse, Some}
use Rattle.lq_text_tree.specs.PredTree.{PredTree, pred_tree, PredForm, flag, whole, use_of, placeholder, applied, qualified, arithmetic, negated, compare, not_of, and_of, or_of, iff}
use Rattle.lq_text_tree.specs.PredView.{pred_view}
use Rattle.lq_text_qualifiers.specs.Faults.Predicates as plain
use Rattle.lq_text_qualifiers.specs.Faults.Predicates.{Setting, spot, spots, taken, length_takes, is_length}
use Rattle.lq_text_qualifiers.specs.Faults.Shapes.{int, bool}
use Rattle.lq_text_qualifiers.specs.Faults.Views.{asked_view}
use Rattle.lq_text_qualifiers.specs.declared.faults.predicate.Spot.{Spot}

abbrev pub spot_view : Spot → plain.Spot
spot_view s = spot (asked_view s.asked) (pred_view s.tree.now)

-- what is left of a stack, the next first
abbrev pub pending : List Spot → List plain.Spot
pending ss = map spot_view (reverse ss)

-- the parts of a subtree
abbrev pub parts_in : Setting → PredForm → List plain.Spot
parts_in s (flag b) = []
parts_in s (whole n) = []
parts_in s (use_of x) = []
parts_in s (placeholder x) = []
parts_in s (applied m e) = spot (taken (s.measures m)) e ∷ []
parts_in s (qualified m x e) = spot (length_takes (is_length s.texts m x)) e ∷ []
parts_in s (arithmetic o a b) = spot (Some int) a ∷ spot (Some int) b ∷ []
parts_in s (negated e) = spot (Some int) e ∷ []
parts_in s (compare o a b) = spot (Some int) a ∷ spot (Some int) b ∷ []
parts_in s (not_of e) = spot (Some bool) e ∷ []
parts_in s (and_of a b) = spot (Some bool) a ∷ spot (Some bool) b ∷ []
parts_in s (or_of a b) = spot (Some bool) a ∷ spot (Some bool) b ∷ []
parts_in s (iff a b) = spot (Some bool) a ∷ spot (Some bool) b ∷ []

-- the subtrees of these
abbrev pub spots_of_all : Setting → List plain.Spot → List plain.Spot
spots_of_all s [] = []
spots_of_all s (x ∷ xs) = spots s x.asked x.tree ++ spots_of_all s xs

-- how many subtrees a tree has
abbrev mutual
  pub size_of : PredTree → ℕ
  size_of (pred_tree p f) = suc (size_of_form f)

  pub size_of_form : PredForm → ℕ
  size_of_form (flag b) = 0
  size_of_form (whole n) = 0
  size_of_form (use_of x) = 0
  size_of_form (placeholder x) = 0
  size_of_form (applied m e) = size_of e
  size_of_form (qualified m x e) = size_of e
  size_of_form (arithmetic o a b) = size_of a + size_of b
  size_of_form (negated e) = size_of e
  size_of_form (compare o a b) = size_of a + size_of b
  size_of_form (not_of e) = size_of e
  size_of_form (and_of a b) = size_of a + size_of b
  size_of_form (or_of a b) = size_of a + size_of b
  size_of_form (iff a b) = size_of a + size_of b

abbrev pub total : List plain.Spot → ℕ
total [] = 0
total (x ∷ xs) = size_of x.tree + total xs
