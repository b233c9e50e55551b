-- A written type taken apart by a list of work, and put together on a stack.
use Rattle.std.specs.Prelude.{ℕ, zero, suc, ◌+◌, List, [], ◌∷◌, ◌++◌, length}
use Rattle.lq_text_tree.specs.Items.{Named}
use Rattle.lq_text_tree.specs.MlType as ml
use Rattle.lq_text_tree.specs.MlType.{MlType, MlTypes}
use Rattle.lq_text_tree.specs.Signatures.{place_of, type_named, written}
use Rattle.lq_text_tree.specs.SimpleTypeView.{types_of}
use Rattle.lq_text_tree.specs.TypeTree.{TypeTree, type_tree, TypeForm, variable, apply, product, arrow, TypeTrees, no_type_trees, more_type_trees}

-- a type that is still to be entered, and one whose parts are on the stack
pub data Task : Type 0 where
  enter : TypeTree → Task
  make : TypeTree → Task

abbrev pub listed : TypeTrees → List TypeTree
listed no_type_trees = []
listed (more_type_trees t ts) = t ∷ listed ts

abbrev pub parts_of : TypeTree → List TypeTree
parts_of (type_tree p (variable x)) = []
parts_of (type_tree p (apply ts d q)) = listed ts
parts_of (type_tree p (product ts)) = listed ts
parts_of (type_tree p (arrow a b)) = a ∷ b ∷ []

-- the stack has what was put there last first
abbrev pub top : List MlType → MlType
top [] = ml.unit
top (t ∷ ts) = t

abbrev pub below : List MlType → List MlType
below [] = []
below (t ∷ ts) = ts

abbrev pub last_types : ℕ → List MlType → List MlType
last_types zero ts = []
last_types (suc n) ts = last_types n (below ts) ++ top ts ∷ []

abbrev pub types_below : ℕ → List MlType → List MlType
types_below zero ts = ts
types_below (suc n) ts = types_below n (below ts)

-- a type of its parts
abbrev pub made_of : List Named → TypeTree → List MlType → MlType
made_of ps (type_tree p (variable x)) us = ml.var (place_of ps x)
made_of ps (type_tree p (apply ts d q)) us = type_named d (types_of us)
made_of ps (type_tree p (product ts)) us = ml.tuple (types_of us)
made_of ps (type_tree p (arrow a b)) us = ml.arrow (top us) (top (below us))

abbrev pub made : List Named → TypeTree → List MlType → List MlType
made ps t vs = let n = length (parts_of t) in made_of ps t (last_types n vs) ∷ types_below n vs

-- what is on the stack once the tasks are done, the first first
abbrev pub done : List Named → List Task → List MlType → List MlType
done ps [] vs = vs
done ps (enter t ∷ ts) vs = done ps ts (written ps t ∷ vs)
done ps (make t ∷ ts) vs = done ps ts (made ps t vs)

-- how many types stand in a type, itself among them
abbrev mutual
  pub size_of : TypeTree → ℕ
  size_of (type_tree p f) = suc (size_of_form f)

  pub size_of_form : TypeForm → ℕ
  size_of_form (variable x) = 0
  size_of_form (apply ts d q) = size_of_all ts
  size_of_form (product ts) = size_of_all ts
  size_of_form (arrow a b) = size_of a + size_of b

  pub size_of_all : TypeTrees → ℕ
  size_of_all no_type_trees = 0
  size_of_all (more_type_trees t ts) = size_of t + size_of_all ts

-- how much is left to do
abbrev pub work_of : Task → ℕ
work_of (enter t) = size_of t + size_of t
work_of (make t) = 1

abbrev pub work : List Task → ℕ
work [] = 0
work (t ∷ ts) = work_of t + work ts
