-- A type taken apart by a list of work, and put together again on a stack.
use Rattle.std.specs.Prelude.{ℕ, suc, ◌+◌, ◌-◌, ◌≤◌, List, [], ◌∷◌, ◌++◌, take, drop, length}
use Rattle.lq_text_tree.specs.MlType as ml
use Rattle.lq_text_tree.specs.MlType.{MlType, MlTypes}
use Rattle.lq_text_tree.specs.SimpleTypeView.{types_of}
use Rattle.lq_text_tree.specs.Types.{put, type_at}

-- a type that is still to be entered, and one whose parts are on the stack
pub data Task : Type 0 where
  enter : MlType → Task
  make : MlType → Task

abbrev pub listed : MlTypes → List MlType
listed ml.no_types = []
listed (ml.more_types t ts) = t ∷ listed ts

abbrev pub parts_of : MlType → List MlType
parts_of ml.int = []
parts_of ml.bool = []
parts_of ml.unit = []
parts_of (ml.var i) = []
parts_of (ml.arrow a b) = a ∷ b ∷ []
parts_of (ml.tuple ts) = listed ts
parts_of (ml.array a) = a ∷ []
parts_of (ml.named d ts) = listed ts
parts_of (ml.map_of a) = a ∷ []

-- a type of this form over these parts, with types in place of variables
abbrev pub made_of : (ℕ → MlType) → MlType → List MlType → MlType
made_of by ml.int us = ml.int
made_of by ml.bool us = ml.bool
made_of by ml.unit us = ml.unit
made_of by (ml.var i) us = by i
made_of by (ml.arrow a b) us = ml.arrow (type_at (types_of us) 0) (type_at (types_of us) 1)
made_of by (ml.tuple ts) us = ml.tuple (types_of us)
made_of by (ml.array a) us = ml.array (type_at (types_of us) 0)
made_of by (ml.named d ts) us = ml.named d (types_of us)
made_of by (ml.map_of a) us = ml.map_of (type_at (types_of us) 0)

-- the last so many of a stack, and the others
abbrev pub last_of : ℕ → List MlType → List MlType
last_of n vs = drop (length vs - n) vs

abbrev pub rest_of : ℕ → List MlType → List MlType
rest_of n vs = take (length vs - n) vs

-- a type of its parts, which are the last of a stack
abbrev pub made : (ℕ → MlType) → MlType → List MlType → List MlType
made by t vs = let n = length (parts_of t) in rest_of n vs ++ made_of by t (last_of n vs) ∷ []

-- what is on the stack once the tasks are done
abbrev pub done : (ℕ → MlType) → List Task → List MlType → List MlType
done by [] vs = vs
done by (enter t ∷ ts) vs = done by ts (vs ++ put by t ∷ [])
done by (make t ∷ ts) vs = done by ts (made by t vs)

-- a stack of so many has the parts that tasks take
abbrev pub Suffices : List Task → ℕ → Type 0
Suffices [] n = Unit {0}
Suffices (enter t ∷ ts) n = Suffices ts (n + 1)
Suffices (make t ∷ ts) n = (length (parts_of t) ≤ n) × Suffices ts (n - length (parts_of t) + 1)

-- how many types stand in a type, itself among them
abbrev mutual
  pub size_of : MlType → ℕ
  size_of ml.int = 1
  size_of ml.bool = 1
  size_of ml.unit = 1
  size_of (ml.var i) = 1
  size_of (ml.arrow a b) = suc (size_of a + size_of b)
  size_of (ml.tuple ts) = suc (size_of_all ts)
  size_of (ml.array a) = suc (size_of a)
  size_of (ml.named d ts) = suc (size_of_all ts)
  size_of (ml.map_of a) = suc (size_of a)

  pub size_of_all : MlTypes → ℕ
  size_of_all ml.no_types = 0
  size_of_all (ml.more_types t ts) = size_of t + size_of_all ts

-- how much is left to do
abbrev pub work_of : Task → ℕ
work_of (enter t) = size_of t + size_of t
work_of (make t) = 1

abbrev pub work : List Task → ℕ
work [] = 0
work (t ∷ ts) = work_of t + work ts
