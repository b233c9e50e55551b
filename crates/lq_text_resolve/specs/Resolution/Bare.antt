-- Trees without the numbers of their nodes: each node has the number 0.
use Rattle.std.specs.Prelude.{List, [], ◌∷◌, map}
use Rattle.lq_text_tree.specs.Items.{ItemTree, ItemForm, type_of, let_of, let_rec_of}
use Rattle.lq_text_tree.specs.Tree as form
use Rattle.lq_text_tree.specs.Tree.{Tree, tree, Form, Cases, no_cases, more_cases}
use Rattle.lq_text_tree.specs.TreeView.{Recursive, trees_of}
use Rattle.lq_text_walk.specs.Walk.Fold.{Arm, Algebra, fold}
use Rattle.lq_text_walk.specs.Walk.Shape as shape
use Rattle.lq_text_walk.specs.Walk.Shape.{Leaf, Row}
use Rattle.lq_text_walk.specs.Walk.Visits.{place_of}
use Rattle.lq_text_resolve.specs.Binding.Heads.{Head, read, print, length_of, make, make_of, find, find_of, add, add_of, add_to}
use Rattle.lq_text_resolve.specs.Binding.Making.{Value, whole, partly, one_form, two_form, three_form}

-- the form of a leaf, of a row and of arms
abbrev pub leaf_form : Leaf → Form
leaf_form (shape.whole m) = form.whole m
leaf_form (shape.flag b) = form.flag b
leaf_form shape.unit = form.unit
leaf_form (shape.use_of x) = form.use_of x
leaf_form (shape.qualified m x) = form.qualified m x
leaf_form shape.assert_false = form.assert_false
leaf_form shape.map_empty = form.map_empty

abbrev pub row_form : Row → List Tree → Form
row_form shape.tuple ts = form.tuple (trees_of ts)
row_form (shape.build c w) ts = form.build c w (trees_of ts)
row_form shape.list_of ts = form.list_of (trees_of ts)
row_form shape.chain ts = form.chain (trees_of ts)

abbrev pub cases_in : List (Arm Tree) → Cases
cases_in [] = no_cases
cases_in (a ∷ as_) = more_cases a.pattern a.body (cases_in as_)

-- a node at the place of another, without a number
abbrev pub bare_at : Tree → Form → Tree
bare_at t f = tree 0 (place_of t) f

-- what becomes of a node of each shape
abbrev pub baring : Algebra Tree
baring = record {
  leaf = λ t h. bare_at t (leaf_form h);
  one = λ t h a. bare_at t (one_form h a);
  two = λ t h a b. bare_at t (two_form h a b);
  three = λ t h a b c. bare_at t (three_form h a b c);
  row = λ t h as_. bare_at t (row_form h as_);
  function = λ t q b. bare_at t (form.fun q b);
  let_in = λ t q e b. bare_at t (form.let_in q e b);
  let_rec = λ t f i r q e b. bare_at t (form.let_rec f 0 r q e b);
  match_on = λ t e as_. bare_at t (form.match_on e (cases_in as_));
}

-- a tree in which each node has the number 0
abbrev pub bare : Tree → Tree
bare = fold baring

-- of a function, a primitive with a part of its arguments, a value, and an item
abbrev pub bare_function : Recursive → Recursive
bare_function r = record { id = 0; place = r.place; parameter = r.parameter; body = bare r.body }

abbrev pub bare_head : Head → Head
bare_head read = read
bare_head print = print
bare_head length_of = length_of
bare_head make = make
bare_head (make_of n) = make_of (bare n)
bare_head find = find
bare_head (find_of k) = find_of (bare k)
bare_head add = add
bare_head (add_of k) = add_of (bare k)
bare_head (add_to k e) = add_to (bare k) (bare e)

abbrev pub bare_value : Value → Value
bare_value (whole t) = whole (bare t)
bare_value (partly h) = partly (bare_head h)

abbrev pub bare_form : ItemForm → ItemForm
bare_form (type_of d) = type_of d
bare_form (let_of q e) = let_of q (bare e)
bare_form (let_rec_of f r) = let_rec_of f (bare_function r)

abbrev pub bare_item : ItemTree → ItemTree
bare_item i = record { place = i.place; form = bare_form i.form }

abbrev pub bare_items : List ItemTree → List ItemTree
bare_items = map bare_item
