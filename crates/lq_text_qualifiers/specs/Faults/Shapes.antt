-- The shapes of values, by which qualifiers and measures speak of them.
use Rattle.std.specs.Prelude.{ℕ, Bool, true, false, ◌==◌}
use Rattle.lq_text_tree.specs.MlType as ml
use Rattle.lq_text_tree.specs.MlType.{MlType}

pub data Shape : Type 0 where
  int : Shape
  bool : Shape
  array : Shape
  -- a datatype, by its name
  data_of : ℕ → Shape
  -- what no predicate speaks of: unit, maps, tuples, functions, and what a type variable stands for
  other : Shape

abbrev pub shape_of : MlType → Shape
shape_of ml.int = int
shape_of ml.bool = bool
shape_of ml.unit = other
shape_of (ml.var i) = other
shape_of (ml.arrow a b) = other
shape_of (ml.tuple ts) = other
shape_of (ml.array a) = array
shape_of (ml.named d ts) = data_of d
shape_of (ml.map_of a) = other

abbrev pub is_same : Shape → Shape → Bool
is_same int int = true
is_same int bool = false
is_same int array = false
is_same int (data_of e) = false
is_same int other = false
is_same bool int = false
is_same bool bool = true
is_same bool array = false
is_same bool (data_of e) = false
is_same bool other = false
is_same array int = false
is_same array bool = false
is_same array array = true
is_same array (data_of e) = false
is_same array other = false
is_same (data_of d) int = false
is_same (data_of d) bool = false
is_same (data_of d) array = false
is_same (data_of d) (data_of e) = d == e
is_same (data_of d) other = false
is_same other int = false
is_same other bool = false
is_same other array = false
is_same other (data_of e) = false
is_same other other = true
