-- The scoped tree of a parsed tree: nodes are numbered as they end, binders as they stand in the text.
use Rattle.std.specs.Prelude.{ℕ, zero, suc, ◌&&◌, ◌-◌, Bool, true, false, List, [], ◌∷◌, ◌++◌, length, Option, Some, None, nat_lt}
use Rattle.lq_base_names.specs.declared.place.Place.{Place}
use Rattle.lq_text_tree.specs.declared.expr.Arguments.{Arguments}
use Rattle.lq_text_tree.specs.declared.expr.Arguments.TheVariants.{Apart, Listed}
use Rattle.lq_text_tree.specs.Items.{ItemTree, ItemForm, type_of, let_of, let_rec_of}
use Rattle.lq_text_tree.specs.Pattern.{Pattern, pattern, bind, bound_in}
use Rattle.lq_text_tree.specs.Tree as form
use Rattle.lq_text_tree.specs.Tree.{Tree, tree, Form, Trees, no_trees, more_trees, Cases, no_cases, more_cases}
use Rattle.lq_text_tree.specs.TreeView.{trees_of, Recursive}
use Rattle.lq_text_walk.specs.Walk.Fold.{Arm, Algebra, fold}
use Rattle.lq_text_walk.specs.Walk.Shape as shape
use Rattle.lq_text_walk.specs.Walk.Shape.{Leaf, One, Two, Three, Row, listed}
use Rattle.lq_text_walk.specs.Walk.Visits.{is_let, place_of}
use Rattle.lq_text_scope.specs.Datatypes.{with_constructors}
use Rattle.lq_text_scope.specs.Known.{Arity, arity_in, defined, predeclared_constructors, text_of}
use Rattle.lq_text_resolve.specs.Binding.Binding.{bound_from, is_tuple, numbered, place_of_pattern, sources_of}
use Rattle.lq_text_resolve.specs.Binding.Heads.{Head, Given, done, lacking, given, primitive_in, primitive_named}

-- the variables that are visible, each with its binder, and the constructors, each with the number of its fields; the last first
pub record Frame : Type 0 where
  pub variables : List Arity
  pub constructors : List Arity

abbrev pub frame_with : List Arity → List Arity → Frame
frame_with vs cs = record { variables = vs; constructors = cs }

-- what a tree becomes: a tree, or a primitive that lacks arguments
pub data Value : Type 0 where
  whole : Tree → Value
  partly : Head → Value

-- a value, the number of the next node, and the source names of the binders so far
pub record Made : Type 0 where
  pub value : Value
  pub next : ℕ
  pub sources : List (Option ℕ)

abbrev pub made_with : Value → ℕ → List (Option ℕ) → Made
made_with v n s = record { value = v; next = n; sources = s }

-- the next node
abbrev pub node : Place → Form → ℕ → List (Option ℕ) → Made
node p f n s = made_with (whole (tree n p f)) (suc n) s

-- The tree that a value is, as a part of what stands at this place. Each part of a text without complaints is a tree.
abbrev pub part : Place → Value → Tree
part p (whole t) = t
part p (partly h) = tree 0 p form.unit

-- ---- leaves

abbrev pub with_given : Given → Place → ℕ → List (Option ℕ) → Made
with_given (done f) p n s = node p f n s
with_given (lacking h) p n s = made_with (partly h) n s

abbrev pub of_primitive : Option Given → Place → ℕ → List (Option ℕ) → Made
of_primitive None p n s = node p form.unit n s
of_primitive (Some g) p n s = with_given g p n s

abbrev pub of_use : Option ℕ → Option Given → Place → ℕ → List (Option ℕ) → Made
of_use (Some b) g p n s = node p (form.use_of b) n s
of_use None g p n s = of_primitive g p n s

-- ---- one, two and three parts

abbrev pub one_form : One → Tree → Form
one_form shape.negated a = form.negated a
one_form shape.not_of a = form.not_of a
one_form shape.assert a = form.assert a
one_form shape.length_of a = form.length_of a
one_form shape.print a = form.print a
one_form shape.read a = form.read a

abbrev pub three_form : Three → Tree → Tree → Tree → Form
three_form shape.if_else a b c = form.if_else a b c
three_form shape.store a b c = form.store a b c
three_form shape.map_add a b c = form.map_add a b c

-- a call of a value
abbrev pub called : Value → Tree → Place → ℕ → List (Option ℕ) → Made
called (whole f) a p n s = node p (form.call f a) n s
called (partly h) a p n s = with_given (given h a) p n s

abbrev pub two_form : Two → Tree → Tree → Form
two_form shape.call a b = form.call a b
two_form (shape.arithmetic o) a b = form.arithmetic o a b
two_form (shape.compare o) a b = form.compare o a b
two_form shape.and_of a b = form.and_of a b
two_form shape.or_of a b = form.or_of a b
two_form shape.make a b = form.make a b
two_form shape.fetch a b = form.fetch a b
two_form shape.map_find a b = form.map_find a b

abbrev pub is_call : Two → Bool
is_call shape.call = true
is_call (shape.arithmetic o) = false
is_call (shape.compare o) = false
is_call shape.and_of = false
is_call shape.or_of = false
is_call shape.make = false
is_call shape.fetch = false
is_call shape.map_find = false

abbrev pub joined_by : Bool → Two → Value → Tree → Place → ℕ → List (Option ℕ) → Made
joined_by true h v b p n s = called v b p n s
joined_by false h v b p n s = node p (two_form h (part p v) b) n s

abbrev pub joined : Two → Value → Tree → Place → ℕ → List (Option ℕ) → Made
joined h v b p n s = joined_by (is_call h) h v b p n s

-- ---- rows

-- a tuple's number and parts, or the tree itself
pub data Spread : Type 0 where
  parts_of : ℕ → Trees → Spread
  itself : Tree → Spread

abbrev pub spread : Tree → Spread
spread (tree i q (form.tuple us)) = parts_of i us
spread t = itself t

-- The arguments of a constructor that wants more than one, where they stand as a tuple in its parentheses: the tuple is no node.
abbrev pub of_spread : Place → ℕ → Spread → ℕ → List (Option ℕ) → Made
of_spread p c (parts_of i us) n s = made_with (whole (tree i p (form.build c Apart us))) n s
of_spread p c (itself t) n s = node p (form.build c Apart (more_trees t no_trees)) n s

abbrev pub of_tuple : Place → ℕ → Tree → ℕ → List (Option ℕ) → Made
of_tuple p c t n s = of_spread p c (spread t) n s

abbrev pub takes_more : Option ℕ → Bool
takes_more None = false
takes_more (Some wanted) = nat_lt 1 wanted

abbrev pub of_listed : Bool → Place → ℕ → List Tree → ℕ → List (Option ℕ) → Made
of_listed true p c (t ∷ []) n s = of_tuple p c t n s
of_listed true p c [] n s = node p (form.build c Apart no_trees) n s
of_listed true p c (t ∷ (u ∷ ts)) n s = node p (form.build c Apart (trees_of (t ∷ u ∷ ts))) n s
of_listed false p c ts n s = node p (form.build c Apart (trees_of ts)) n s

abbrev pub built_of : Arguments → Option ℕ → Place → ℕ → List Tree → ℕ → List (Option ℕ) → Made
built_of Apart wanted p c ts n s = node p (form.build c Apart (trees_of ts)) n s
built_of Listed wanted p c ts n s = of_listed (takes_more wanted) p c ts n s

abbrev pub is_one : ℕ → Bool
is_one zero = false
is_one (suc zero) = true
is_one (suc (suc n)) = false

-- the one part of a constructor is spread, where it is a tuple
abbrev pub spreads : Arguments → Bool → ℕ → Bool
spreads Apart more n = false
spreads Listed more n = is_one n && more

abbrev pub row_of : Row → List Arity → List Tree → Place → ℕ → List (Option ℕ) → Made
row_of shape.tuple cs ts p n s = node p (form.tuple (trees_of ts)) n s
row_of (shape.build c w) cs ts p n s = built_of w (arity_in cs c) p c ts n s
row_of shape.list_of cs ts p n s = node p (form.list_of (trees_of ts)) n s
row_of shape.chain cs ts p n s = node p (form.chain (trees_of ts)) n s

-- ---- patterns

-- the frame where a pattern's names are bound to the binders from this one on
abbrev pub shown : ℕ → Pattern → Frame → Frame
shown n q k = frame_with (bound_from n (bound_in q) k.variables) k.constructors

abbrev pub named : ℕ → ℕ → Frame → Frame
named n x k = frame_with (defined x n ∷ k.variables) k.constructors

-- A parameter: a tuple has a binder of its own before its names, and a match on it has what it matches for its first node.
abbrev pub source_before : Bool → List (Option ℕ) → List (Option ℕ)
source_before true s = s ++ None ∷ []
source_before false s = s

abbrev pub next_before : Bool → ℕ → ℕ
next_before true n = suc n
next_before false n = n

abbrev pub taken_pattern : Bool → ℕ → Pattern → Pattern
taken_pattern true start q = pattern (place_of_pattern q) (bind (start - 1))
taken_pattern false start q = numbered start q

-- what a function's body is once its parameter is taken, from the first binder of the parameter, what is matched, and the body
abbrev pub match_one : ℕ → Pattern → Tree → Tree → Tree
match_one n q e b = tree n (place_of_pattern q) (form.match_on e (more_cases q b no_cases))

abbrev pub taken_body : Bool → ℕ → Pattern → Tree → Tree → ℕ → Tree
taken_body true start q e b n = match_one n (numbered start q) e b
taken_body false start q e b n = b

-- what the match on a parameter matches: a use of this binder
abbrev pub matched : ℕ → Pattern → ℕ → Tree
matched b q n = tree n (place_of_pattern q) (form.use_of b)

-- ---- folding

abbrev pub Making : Type 0
Making = Frame → ℕ → List (Option ℕ) → Made

-- a function's parameter and body, and what is next
pub record Taken : Type 0 where
  pub parameter : Pattern
  pub body : Tree
  pub next : ℕ
  pub sources : List (Option ℕ)

abbrev pub start_of : Pattern → List (Option ℕ) → ℕ
start_of q s = length (source_before (is_tuple q) s)

abbrev pub taken : Place → Pattern → Making → Frame → ℕ → List (Option ℕ) → Taken
taken p q b k n s =
    let start = start_of q s in
    let body = b (shown start q k) (next_before (is_tuple q) n) (source_before (is_tuple q) s ++ sources_of (bound_in q)) in
    record {
      parameter = taken_pattern (is_tuple q) start q;
      body = taken_body (is_tuple q) start q (matched (length s) q n) (part p body.value) body.next;
      next = next_before (is_tuple q) body.next;
      sources = body.sources;
    }

-- parts in a row
pub record Row_made : Type 0 where
  pub trees : List Tree
  pub next : ℕ
  pub sources : List (Option ℕ)

abbrev pub row_with : List Tree → ℕ → List (Option ℕ) → Row_made
row_with ts n s = record { trees = ts; next = n; sources = s }

abbrev pub all_made : Place → List Making → Frame → ℕ → List (Option ℕ) → Row_made
all_made p [] k n s = row_with [] n s
all_made p (a ∷ as_) k n s =
    let first = a k n s in
    let rest = all_made p as_ k first.next first.sources in
    row_with (part p first.value ∷ rest.trees) rest.next rest.sources

-- the body of an arm whose pattern's binders begin with this one
abbrev pub body_made : Making → Pattern → ℕ → Frame → ℕ → List (Option ℕ) → Made
body_made b q start k n s = b (shown start q k) n s

pub record Arms_made : Type 0 where
  pub cases : Cases
  pub next : ℕ
  pub sources : List (Option ℕ)

abbrev pub arms_with : Cases → ℕ → List (Option ℕ) → Arms_made
arms_with cs n s = record { cases = cs; next = n; sources = s }

abbrev pub arms_made : Place → List (Arm Making) → Frame → ℕ → List (Option ℕ) → Arms_made
arms_made p [] k n s = arms_with no_cases n s
arms_made p (a ∷ as_) k n s =
    let body = body_made a.body a.pattern (length s) k n (s ++ sources_of (bound_in a.pattern)) in
    let rest = arms_made p as_ k body.next body.sources in
    arms_with (more_cases (numbered (length s) a.pattern) (part p body.value) rest.cases) rest.next rest.sources

-- a match; one that was written as a `let` has its first pattern before what is matched
abbrev pub match_made : Bool → Place → Making → List (Arm Making) → Making
match_made false p e as_ k n s =
    let scrutinee = e k n s in
    let arms = arms_made p as_ k scrutinee.next scrutinee.sources in
    node p (form.match_on (part p scrutinee.value) arms.cases) arms.next arms.sources
match_made true p e [] k n s =
    let scrutinee = e k n s in
    node p (form.match_on (part p scrutinee.value) no_cases) scrutinee.next scrutinee.sources
match_made true p e (a ∷ as_) k n s =
    let scrutinee = e k n (s ++ sources_of (bound_in a.pattern)) in
    let body = body_made a.body a.pattern (length s) k scrutinee.next scrutinee.sources in
    let rest = arms_made p as_ k body.next body.sources in
    node p (form.match_on (part p scrutinee.value) (more_cases (numbered (length s) a.pattern) (part p body.value) rest.cases)) rest.next rest.sources

-- ---- programs

pub record Items_made : Type 0 where
  pub items : List ItemTree
  pub next : ℕ
  pub sources : List (Option ℕ)

abbrev pub items_with : List ItemTree → ℕ → List (Option ℕ) → Items_made
items_with is n s = record { items = is; next = n; sources = s }

pub record Bound_tree : Type 0 where
  pub items : List ItemTree
  pub sources : List (Option ℕ)

abbrev pub item_before : ItemTree → Items_made → Items_made
item_before i x = items_with (i ∷ x.items) x.next x.sources

abbrev pub recursive_with : ℕ → Place → Pattern → Tree → Recursive
recursive_with n p q b = record { id = n; place = p; parameter = q; body = b }

-- what is known before a program begins
abbrev pub first_frame : Frame
first_frame = frame_with [] predeclared_constructors

module _ (names : List (List ℕ)) where
  abbrev pub leaf_made : Place → Leaf → Making
  leaf_made p (shape.use_of x) k n s = of_use (arity_in k.variables x) (primitive_named (text_of names x)) p n s
  leaf_made p (shape.qualified m x) k n s = of_primitive (primitive_in (text_of names m) (text_of names x)) p n s
  leaf_made p (shape.whole m) k n s = node p (form.whole m) n s
  leaf_made p (shape.flag b) k n s = node p (form.flag b) n s
  leaf_made p shape.unit k n s = node p form.unit n s
  leaf_made p shape.assert_false k n s = node p form.assert_false n s
  leaf_made p shape.map_empty k n s = node p form.map_empty n s

  abbrev pub making : Algebra Making
  making = record {
    leaf = λ t h. leaf_made (place_of t) h;
    one = λ t h a k n s. let x = a k n s in node (place_of t) (one_form h (part (place_of t) x.value)) x.next x.sources;
    two = λ t h a b k n s. let x = a k n s in let y = b k x.next x.sources in joined h x.value (part (place_of t) y.value) (place_of t) y.next y.sources;
    three = λ t h a b c k n s.
        let x = a k n s in let y = b k x.next x.sources in let z = c k y.next y.sources in
        node (place_of t) (three_form h (part (place_of t) x.value) (part (place_of t) y.value) (part (place_of t) z.value)) z.next z.sources;
    row = λ t h as_ k n s. let x = all_made (place_of t) as_ k n s in row_of h k.constructors x.trees (place_of t) x.next x.sources;
    function = λ t q b k n s. let x = taken (place_of t) q b k n s in node (place_of t) (form.fun x.parameter x.body) x.next x.sources;
    let_in = λ t q e b k n s.
        let x = e k n (s ++ sources_of (bound_in q)) in let y = body_made b q (length s) k x.next x.sources in
        node (place_of t) (form.let_in (numbered (length s) q) (part (place_of t) x.value) (part (place_of t) y.value)) y.next y.sources;
    let_rec = λ t f i r q e b k n s.
        let x = taken r q e (named (length s) f k) n (s ++ Some f ∷ []) in let y = b (named (length s) f k) (suc x.next) x.sources in
        node (place_of t) (form.let_rec (length s) x.next r x.parameter x.body (part (place_of t) y.value)) y.next y.sources;
    match_on = λ t e as_. match_made (is_let t) (place_of t) e as_;
  }

  -- what a tree becomes
  abbrev pub made : Tree → Making
  made = fold making

  -- ---- items

  -- the items that a program has once its names are bound, and the source names of its binders
  abbrev pub item_made : Place → ItemForm → Frame → ℕ → List (Option ℕ) → (Frame → ℕ → List (Option ℕ) → Items_made) → Items_made
  item_made p (type_of d) k n s rest = rest (frame_with k.variables (with_constructors k.constructors d.constructors)) n s
  item_made p (let_of q e) k n s rest =
      let x = made e k n (s ++ sources_of (bound_in q)) in
      item_before (record { place = p; form = let_of (numbered (length s) q) (part p x.value) }) (rest (shown (length s) q k) x.next x.sources)
  item_made p (let_rec_of f r) k n s rest =
      let l = named (length s) f k in let x = taken r.place r.parameter (made r.body) l n (s ++ Some f ∷ []) in
      item_before (record { place = p; form = let_rec_of (length s) (recursive_with x.next r.place x.parameter x.body) }) (rest l (suc x.next) x.sources)

  abbrev pub items_made : Frame → ℕ → List (Option ℕ) → List ItemTree → Items_made
  items_made k n s [] = items_with [] n s
  items_made k n s (i ∷ is) = item_made i.place i.form k n s (λ l m r. items_made l m r is)

  -- a program's definitions and the source names of its binders
  abbrev pub program_made : List ItemTree → Bound_tree
  program_made is = let x = items_made first_frame 0 [] is in record { items = x.items; sources = x.sources }
