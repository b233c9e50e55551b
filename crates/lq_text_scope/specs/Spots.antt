-- The types of a definition that are still to be looked at.
use Rattle.std.specs.Prelude.{ℕ, suc, ◌+◌, ◌==◌, ◌||◌, Bool, true, List, [], ◌∷◌, ◌++◌, map, reverse}
use Rattle.lq_text_tree.specs.TypeTree.{TypeTree, type_tree, TypeForm, variable, apply, product, arrow, TypeTrees, no_type_trees, more_type_trees}
use Rattle.lq_text_tree.specs.TypeView.{type_view}
use Rattle.lq_text_scope.specs.Complaints.{Complaint}
use Rattle.lq_text_scope.specs.Datatypes as plain
use Rattle.lq_text_scope.specs.Datatypes.{name_of, of_type, of_name, of_variable, count_of}
use Rattle.lq_text_scope.specs.Known.{array_name}
use Rattle.lq_text_scope.specs.declared.datatypes.Frame.{Frame}
use Rattle.lq_text_scope.specs.declared.datatypes.Spot.{Spot}

abbrev pub frame_view : Frame → plain.Frame
frame_view f = record { types = f.types.now; parameters = map name_of f.parameters.now; itself = f.itself.0 }

-- a type, and whether it stands left of an arrow or under `array`
pub record TypeAt : Type 0 where
  pub wrongly : Bool
  pub written : TypeTree

abbrev pub spot_view : Spot → TypeAt
spot_view s = record { wrongly = s.wrongly; written = type_view s.written.now }

-- what is left of a stack, the next first
abbrev pub pending : List Spot → List TypeAt
pending ss = map spot_view (reverse ss)

abbrev pub spots_in : Bool → TypeTrees → List TypeAt
spots_in w no_type_trees = []
spots_in w (more_type_trees t ts) = (record { wrongly = w; written = t }) ∷ spots_in w ts

-- what there is to say of a type itself, and the parts that are left then
abbrev pub own_of : plain.Frame → Bool → TypeTree → List Complaint
own_of r w (type_tree p (variable a)) = of_variable r w p a
own_of r w (type_tree p (apply ts x q)) = of_name r w q x (count_of ts)
own_of r w (type_tree p (product ts)) = []
own_of r w (type_tree p (arrow a b)) = []

abbrev pub type_at : Bool → TypeTree → TypeAt
type_at w t = record { wrongly = w; written = t }

abbrev pub parts_in : Bool → TypeTree → List TypeAt
parts_in w (type_tree p (variable a)) = []
parts_in w (type_tree p (apply ts x q)) = spots_in (w || (x == array_name)) ts
parts_in w (type_tree p (product ts)) = spots_in w ts
parts_in w (type_tree p (arrow a b)) = type_at true a ∷ type_at w b ∷ []

abbrev pub of_spot : plain.Frame → TypeAt → List Complaint
of_spot r s = of_type r s.wrongly s.written

abbrev pub of_spots : plain.Frame → List TypeAt → List Complaint
of_spots r [] = []
of_spots r (s ∷ ss) = of_spot r s ++ of_spots r ss

-- how many types stand in a type, itself among them
abbrev mutual
  pub size_of : TypeTree → ℕ
  size_of (type_tree p f) = suc (size_of_form f)

  pub size_of_form : TypeForm → ℕ
  size_of_form (variable a) = 0
  size_of_form (apply ts x q) = size_of_all ts
  size_of_form (product ts) = size_of_all ts
  size_of_form (arrow a b) = size_of a + size_of b

  pub size_of_all : TypeTrees → ℕ
  size_of_all no_type_trees = 0
  size_of_all (more_type_trees t ts) = size_of t + size_of_all ts

abbrev pub size_of_spot : TypeAt → ℕ
size_of_spot s = size_of s.written

abbrev pub total : List TypeAt → ℕ
total [] = 0
total (s ∷ ss) = size_of_spot s + total ss
