-- A pass over the visits of a program: what it keeps, and what each visit does.
use Rattle.std.specs.Prelude.{ℕ, zero, suc, ◌+◌, ◌-◌, Bool, true, false, ◌&&◌, List, [], ◌∷◌, ◌++◌, length, drop, Option, Some, None}
use Rattle.lq_base_names.specs.declared.place.Place.{Place}
use Rattle.lq_text_tree.specs.Items.{ItemTree, ItemForm, type_of, let_of, let_rec_of}
use Rattle.lq_text_tree.specs.Pattern.{Pattern, bound_in}
use Rattle.lq_text_tree.specs.Tree as form
use Rattle.lq_text_tree.specs.Tree.{Tree, tree, Form, Cases}
use Rattle.lq_text_tree.specs.TreeView.{Case, Recursive, cases_of, trees_of}
use Rattle.lq_text_tree.specs.declared.expr.Arguments.TheVariants.{Apart}
use Rattle.lq_text_walk.specs.Walk.Shape as shape
use Rattle.lq_text_walk.specs.Walk.Shape.{Leaf, One, Two, Three, Row, Shape, shape_of}
use Rattle.lq_text_walk.specs.Walk.Visits.{Visit, enter_item, leave_item, enter, leave, leave_function, declare, show, hide, show_name, hide_name}
use Rattle.lq_text_scope.specs.Datatypes.{with_constructors}
use Rattle.lq_text_scope.specs.Known.{Arity, arity_in, text_of}
use Rattle.lq_text_resolve.specs.Binding.Binding.{is_tuple, numbered, sources_of}
use Rattle.lq_text_resolve.specs.Binding.Heads.{read, Given, primitive_named}
use Rattle.lq_text_resolve.specs.Binding.Making.{Frame, first_frame, frame_with, Value, whole, partly, part, Made, node, one_form, three_form, called, joined, of_primitive, of_tuple, of_use, with_given, row_of, shown, named, next_before, taken_pattern, taken_body, matched, leaf_made}

-- Stacks have what was put there last first.
pub record Machine : Type 0 where
  pub frame : Frame
  pub next : ℕ
  pub sources : List (Option ℕ)
  -- the first binders of the patterns and names that are open, and the numbers of functions
  pub starts : List ℕ
  pub values : List Value
  -- the next pattern is a parameter
  pub taking : Bool
  pub items : List ItemTree

abbrev pub machine_with : Frame → ℕ → List (Option ℕ) → List ℕ → List Value → Bool → List ItemTree → Machine
machine_with k n s ns vs t is = record { frame = k; next = n; sources = s; starts = ns; values = vs; taking = t; items = is }

abbrev pub first_machine : Machine
first_machine = machine_with first_frame 0 [] [] [] false []

abbrev pub top : List Value → Value
top [] = partly read
top (v ∷ vs) = v

abbrev pub below : List Value → List Value
below [] = []
below (v ∷ vs) = vs

abbrev pub first : List ℕ → ℕ
first [] = 0
first (n ∷ ns) = n

abbrev pub rest : List ℕ → List ℕ
rest [] = []
rest (n ∷ ns) = ns

-- what is left of the values of a function, without what a tuple of a parameter is matched by
abbrev pub without_matched : Bool → List Value → List Value
without_matched true vs = below vs
without_matched false vs = vs

-- the last values, so many, as trees in their order, and what is below them; the same of numbers
abbrev pub last_trees : Place → ℕ → List Value → List Tree
last_trees p zero vs = []
last_trees p (suc n) vs = last_trees p n (below vs) ++ part p (top vs) ∷ []

abbrev pub values_below : ℕ → List Value → List Value
values_below zero vs = vs
values_below (suc n) vs = values_below n (below vs)

abbrev pub last_starts : ℕ → List ℕ → List ℕ
last_starts zero ns = []
last_starts (suc n) ns = last_starts n (rest ns) ++ first ns ∷ []

abbrev pub starts_below : ℕ → List ℕ → List ℕ
starts_below zero ns = ns
starts_below (suc n) ns = starts_below n (rest ns)

-- arms with the first binders of their patterns and their bodies
abbrev pub arm_with : Case → ℕ → Tree → Case
arm_with a n b = record { pattern = numbered n a.pattern; body = b }

abbrev pub first_tree : Place → List Tree → Tree
first_tree p [] = tree 0 p form.unit
first_tree p (t ∷ ts) = t

abbrev pub rest_trees : List Tree → List Tree
rest_trees [] = []
rest_trees (t ∷ ts) = ts

abbrev pub arms_from : Place → List Case → List ℕ → List Tree → List Case
arms_from p [] ns bs = []
arms_from p (a ∷ as_) ns bs = arm_with a (first ns) (first_tree p bs) ∷ arms_from p as_ (rest ns) (rest_trees bs)

abbrev pub cases_with : Place → List Case → List ℕ → List Tree → Cases
cases_with p as_ ns bs = cases_of (arms_from p as_ ns bs)

-- the machine with this made, behind these values and numbers
abbrev pub finish : Machine → List Value → List ℕ → Made → Machine
finish m vs ns x = machine_with m.frame x.next x.sources ns (x.value ∷ vs) m.taking m.items

-- the next node, without a part of the values
abbrev pub put_in : Place → Form → Machine → Machine
put_in p f m = finish m m.values m.starts (node p f m.next m.sources)

abbrev pub given_in : Place → Given → Machine → Machine
given_in p g m = finish m m.values m.starts (with_given g p m.next m.sources)

abbrev pub primitive_in : Place → Option Given → Machine → Machine
primitive_in p g m = finish m m.values m.starts (of_primitive g p m.next m.sources)

abbrev pub numbers_taken : ℕ → Machine → Machine
numbers_taken n m = machine_with m.frame (m.next + n) m.sources m.starts m.values m.taking m.items

-- a function of a parameter and the tree on top of the values
abbrev pub parameter_in : Pattern → ℕ → Pattern
parameter_in q start = taken_pattern (is_tuple q) start q

abbrev pub body_in : Place → Pattern → ℕ → List Value → ℕ → Tree
body_in p q start vs n = taken_body (is_tuple q) start q (part p (top (below vs))) (part p (top vs)) n

abbrev pub values_under : Pattern → List Value → List Value
values_under q vs = without_matched (is_tuple q) (below vs)

-- the next pattern is the parameter of what is entered
abbrev pub takes : Shape → Bool
takes (shape.function q b) = true
takes (shape.let_rec f i r q e b) = true
takes (shape.leaf h) = false
takes (shape.one h a) = false
takes (shape.two h a b) = false
takes (shape.three h a b c) = false
takes (shape.row h ts) = false
takes (shape.let_in q e b) = false
takes (shape.match_on e cs) = false

abbrev pub taking_in : Tree → Bool
taking_in (tree i p f) = takes (shape_of f)

abbrev pub takes_item : ItemForm → Bool
takes_item (type_of d) = false
takes_item (let_of q e) = false
takes_item (let_rec_of f r) = true

abbrev pub constructors_behind : List Arity → ItemForm → List Arity
constructors_behind cs (type_of d) = with_constructors cs d.constructors
constructors_behind cs (let_of q e) = cs
constructors_behind cs (let_rec_of f r) = cs

abbrev pub with_taking : Bool → Machine → Machine
with_taking t m = machine_with m.frame m.next m.sources m.starts m.values t m.items

abbrev pub with_frame : Frame → Machine → Machine
with_frame k m = machine_with k m.next m.sources m.starts m.values m.taking m.items

abbrev pub fewer : ℕ → Frame → Frame
fewer n k = frame_with (drop n k.variables) k.constructors

-- the tuple of a parameter has a binder of its own, and what is matched is the next node
abbrev pub matching : Pattern → Machine → Machine
matching q m =
    machine_with m.frame (suc m.next) (m.sources ++ None ∷ []) m.starts (whole (matched (length m.sources) q m.next) ∷ m.values) m.taking m.items

-- the binders of a pattern's names
abbrev pub binding : Pattern → Machine → Machine
binding q m = machine_with m.frame m.next (m.sources ++ sources_of (bound_in q)) (length m.sources ∷ m.starts) m.values m.taking m.items

abbrev pub declared : Bool → Pattern → Machine → Machine
declared true q m = with_taking false (binding q (matching q m))
declared false q m = with_taking false (binding q m)

abbrev pub named_machine : ℕ → Machine → Machine
named_machine f m =
    machine_with (named (length m.sources) f m.frame) m.next (m.sources ++ Some f ∷ []) (length m.sources ∷ m.starts) m.values m.taking m.items

-- a function's number, behind that of the match on its parameter
abbrev pub with_function : Pattern → Machine → Machine
with_function q m =
    let n = next_before (is_tuple q) m.next in machine_with m.frame (suc n) m.sources (n ∷ m.starts) m.values m.taking m.items

-- a node, from what its parts became
abbrev pub one_left : Place → One → Machine → Machine
one_left p h m = finish m (below m.values) m.starts (node p (one_form h (part p (top m.values))) m.next m.sources)

abbrev pub two_left : Place → Two → Machine → Machine
two_left p h m = finish m (below (below m.values)) m.starts (joined h (top (below m.values)) (part p (top m.values)) p m.next m.sources)

abbrev pub call_left : Place → Tree → Machine → Machine
call_left p b m = finish m (below m.values) m.starts (called (top m.values) b p m.next m.sources)

abbrev pub three_left : Place → Three → Machine → Machine
three_left p h m =
    finish m (below (below (below m.values))) m.starts
    (node p (three_form h (part p (top (below (below m.values)))) (part p (top (below m.values))) (part p (top m.values))) m.next m.sources)

abbrev pub row_left : Place → Row → ℕ → Machine → Machine
row_left p h n m = finish m (values_below n m.values) m.starts (row_of h m.frame.constructors (last_trees p n m.values) p m.next m.sources)

abbrev pub apart_left : Place → ℕ → ℕ → Machine → Machine
apart_left p c n m = finish m (values_below n m.values) m.starts (node p (form.build c Apart (trees_of (last_trees p n m.values))) m.next m.sources)

abbrev pub listed_left : Place → ℕ → Machine → Machine
listed_left p c m = finish m (below m.values) m.starts (of_tuple p c (part p (top m.values)) m.next m.sources)

abbrev pub function_left : Place → Pattern → Machine → Machine
function_left p q m =
    finish m (values_under q m.values) (rest m.starts)
    (node p (form.fun (parameter_in q (first m.starts)) (body_in p q (first m.starts) m.values m.next)) (next_before (is_tuple q) m.next) m.sources)

abbrev pub let_left : Place → Pattern → Machine → Machine
let_left p q m =
    finish m (below (below m.values)) (rest m.starts)
    (node p (form.let_in (numbered (first m.starts) q) (part p (top (below m.values))) (part p (top m.values))) m.next m.sources)

-- the function of a recursive definition, and what is left without it
abbrev pub recursive_in : Recursive → Machine → Recursive
recursive_in r m =
    record {
      id = first m.starts;
      place = r.place;
      parameter = parameter_in r.parameter (first (rest m.starts));
      body = body_in r.place r.parameter (first (rest m.starts)) m.values (first m.starts - 1);
    }

abbrev pub with_stacks : List ℕ → List Value → Machine → Machine
with_stacks ns vs m = machine_with m.frame m.next m.sources ns vs m.taking m.items

abbrev pub recursive_left : Recursive → Machine → Machine
recursive_left r m = with_stacks (rest (rest m.starts)) (values_under r.parameter m.values) m

abbrev pub let_rec_form : ℕ → Recursive → Tree → Form
let_rec_form f r b = form.let_rec f r.id r.place r.parameter r.body b

abbrev pub let_rec_left : Place → Recursive → Machine → Machine
let_rec_left p r m =
    finish m (values_under r.parameter (below m.values)) (rest (rest (rest m.starts)))
    (node p (let_rec_form (first (rest (rest m.starts))) (recursive_in r (with_stacks m.starts (below m.values) m)) (part p (top m.values))) m.next m.sources)

abbrev pub match_left : Place → List Case → Machine → Machine
match_left p as_ m =
    let n = length as_ in
    finish m (below (values_below n m.values)) (starts_below n m.starts)
    (node p (form.match_on (part p (top (values_below n m.values))) (cases_with p as_ (last_starts n m.starts) (last_trees p n m.values))) m.next m.sources)

-- an item of what is on top
abbrev pub with_item : ItemTree → Machine → Machine
with_item i m = machine_with m.frame m.next m.sources m.starts m.values m.taking (m.items ++ i ∷ [])

abbrev pub let_item_left : Place → Pattern → Machine → Machine
let_item_left p q m =
    with_item (record { place = p; form = let_of (numbered (first m.starts) q) (part p (top m.values)) }) (with_stacks (rest m.starts) (below m.values) m)

abbrev pub let_rec_item_left : Place → Recursive → Machine → Machine
let_rec_item_left p r m =
    with_item (record { place = p; form = let_rec_of (first (rest (rest m.starts))) (recursive_in r m) })
    (with_stacks (rest (rest (rest m.starts))) (values_under r.parameter m.values) m)

abbrev pub item_left : Place → ItemForm → Machine → Machine
item_left p (type_of d) m = m
item_left p (let_of q e) m = let_item_left p q m
item_left p (let_rec_of f r) m = let_rec_item_left p r m

module _ (names : List (List ℕ)) where
  abbrev pub use_in : Place → ℕ → Machine → Machine
  use_in p x m = finish m m.values m.starts (of_use (arity_in m.frame.variables x) (primitive_named (text_of names x)) p m.next m.sources)

  abbrev pub leaf_left : Place → Leaf → Machine → Machine
  leaf_left p h m = finish m m.values m.starts (leaf_made names p h m.frame m.next m.sources)

  abbrev pub left_shape : Place → Shape → Machine → Machine
  left_shape p (shape.leaf h) m = leaf_left p h m
  left_shape p (shape.one h a) m = one_left p h m
  left_shape p (shape.two h a b) m = two_left p h m
  left_shape p (shape.three h a b c) m = three_left p h m
  left_shape p (shape.row h ts) m = row_left p h (length ts) m
  left_shape p (shape.function q b) m = function_left p q m
  left_shape p (shape.let_in q e b) m = let_left p q m
  left_shape p (shape.let_rec f i r q e b) m = let_rec_left p (record { id = i; place = r; parameter = q; body = e }) m
  left_shape p (shape.match_on e as_) m = match_left p as_ m

  abbrev pub left : Tree → Machine → Machine
  left (tree i p f) m = left_shape p (shape_of f) m

  abbrev pub step : Machine → Visit → Machine
  step m (enter t) = with_taking (taking_in t) m
  step m (leave t) = left t m
  step m (enter_item i) = with_taking (takes_item i.form) (with_frame (frame_with m.frame.variables (constructors_behind m.frame.constructors i.form)) m)
  step m (leave_item i) = item_left i.place i.form m
  step m (leave_function r) = with_function r.parameter m
  step m (declare q) = declared (m.taking && is_tuple q) q m
  step m (show q) = with_frame (shown (first m.starts) q m.frame) m
  step m (hide q) = with_frame (fewer (length (bound_in q)) m.frame) m
  step m (show_name f) = named_machine f m
  step m (hide_name f) = with_frame (fewer 1 m.frame) m

  -- the machine behind all visits
  abbrev pub run : Machine → List Visit → Machine
  run m [] = m
  run m (v ∷ vs) = run (step m v) vs
