-- A form as a head and a few shapes of parts, and the way back: what is said of every form is said of nine shapes.
use Rattle.std.specs.Prelude.{ℕ, ℤ, Bool, List, [], ◌∷◌}
use Rattle.lq_base_names.specs.declared.operation.ArithOp.{ArithOp}
use Rattle.lq_base_names.specs.declared.operation.CompareOp.{CompareOp}
use Rattle.lq_base_names.specs.declared.place.Place.{Place}
use Rattle.lq_text_tree.specs.declared.expr.Arguments.{Arguments}
use Rattle.lq_text_tree.specs.Pattern.{Pattern}
use Rattle.lq_text_tree.specs.Tree as form
use Rattle.lq_text_tree.specs.Tree.{Tree, tree, Form, Trees, no_trees, more_trees, Cases, no_cases, more_cases}
use Rattle.lq_text_tree.specs.TreeView.{Case}

-- what a node without parts is
pub data Leaf : Type 0 where
  whole : ℤ → Leaf
  flag : Bool → Leaf
  unit : Leaf
  use_of : ℕ → Leaf
  qualified : ℕ → ℕ → Leaf
  assert_false : Leaf
  map_empty : Leaf

-- what a node does with one part, with two, three, or a row of parts
pub data One : Type 0 where
  negated : One
  not_of : One
  assert : One
  length_of : One
  print : One
  read : One

pub data Two : Type 0 where
  call : Two
  arithmetic : ArithOp → Two
  compare : CompareOp → Two
  and_of : Two
  or_of : Two
  make : Two
  fetch : Two
  map_find : Two

pub data Three : Type 0 where
  if_else : Three
  store : Three
  map_add : Three

pub data Row : Type 0 where
  tuple : Row
  build : ℕ → Arguments → Row
  list_of : Row
  chain : Row

-- a head with its parts; a parameter, a bound pattern and a recursive function stand with what they are visible in
pub data Shape : Type 0 where
  leaf : Leaf → Shape
  one : One → Tree → Shape
  two : Two → Tree → Tree → Shape
  three : Three → Tree → Tree → Tree → Shape
  row : Row → List Tree → Shape
  function : Pattern → Tree → Shape
  let_in : Pattern → Tree → Tree → Shape
  -- the name, the function's number, place, parameter and body, and what follows
  let_rec : ℕ → ℕ → Place → Pattern → Tree → Tree → Shape
  match_on : Tree → List Case → Shape

-- the trees of a row, and the arms of a match
abbrev pub listed : Trees → List Tree
listed no_trees = []
listed (more_trees t ts) = t ∷ listed ts

abbrev pub listed_cases : Cases → List Case
listed_cases no_cases = []
listed_cases (more_cases p b cs) = (record { pattern = p; body = b }) ∷ listed_cases cs

abbrev pub shape_of : Form → Shape
shape_of (form.whole n) = leaf (whole n)
shape_of (form.flag b) = leaf (flag b)
shape_of form.unit = leaf unit
shape_of (form.use_of x) = leaf (use_of x)
shape_of (form.qualified m x) = leaf (qualified m x)
shape_of (form.fun p b) = function p b
shape_of (form.tuple es) = row tuple (listed es)
shape_of (form.build c w es) = row (build c w) (listed es)
shape_of (form.list_of es) = row list_of (listed es)
shape_of (form.let_in p e b) = let_in p e b
shape_of (form.let_rec f i q p e b) = let_rec f i q p e b
shape_of (form.call a b) = two call a b
shape_of (form.arithmetic o a b) = two (arithmetic o) a b
shape_of (form.negated e) = one negated e
shape_of (form.compare o a b) = two (compare o) a b
shape_of (form.not_of e) = one not_of e
shape_of (form.and_of a b) = two and_of a b
shape_of (form.or_of a b) = two or_of a b
shape_of (form.if_else c a b) = three if_else c a b
shape_of (form.match_on e cs) = match_on e (listed_cases cs)
shape_of (form.chain es) = row chain (listed es)
shape_of (form.assert e) = one assert e
shape_of form.assert_false = leaf assert_false
shape_of (form.make a b) = two make a b
shape_of (form.length_of e) = one length_of e
shape_of (form.fetch a b) = two fetch a b
shape_of (form.store a b c) = three store a b c
shape_of (form.print e) = one print e
shape_of (form.read e) = one read e
shape_of form.map_empty = leaf map_empty
shape_of (form.map_add a b c) = three map_add a b c
shape_of (form.map_find a b) = two map_find a b
