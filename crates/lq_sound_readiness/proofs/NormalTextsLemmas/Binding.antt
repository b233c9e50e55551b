-- Once names are bound, a tree as texts have it is one still.
use Rattle.std.proofs.Common.{ℕ, suc, Bool, true, false, List, [], ◌∷◌, ◌++◌, length, Option, Some, None, refl, if◌then◌else◌, codes}
use Rattle.std.specs.Str.{bytes_eq}
use Rattle.lq_base_names.specs.declared.place.Place.{Place}
use Rattle.lq_text_tree.specs.declared.expr.Arguments.{Arguments}
use Rattle.lq_text_tree.specs.declared.expr.Arguments.TheVariants.{Apart, Listed}
use Rattle.lq_text_tree.specs.Items.{ItemTree, ItemForm, type_of, let_of, let_rec_of}
use Rattle.lq_text_tree.specs.Pattern.{Pattern, pattern, any, bind, nothing, tuple_of, build_of, bound_in}
use Rattle.lq_text_tree.specs.Tree as form
use Rattle.lq_text_tree.specs.Tree.{Tree, tree, Form, Trees, no_trees, more_trees, Cases, no_cases, more_cases}
use Rattle.lq_text_tree.specs.TreeView.{trees_of}
use Rattle.lq_text_walk.specs.Walk.Fold.{fold_all, fold_cases}
use Rattle.lq_text_walk.specs.Walk.Shape as shape
use Rattle.lq_text_walk.specs.Walk.Visits.{is_let, place_of}
use Rattle.lq_text_scope.specs.Datatypes.{with_constructors}
use Rattle.lq_text_scope.specs.Known.{Arity, arity_in, text_of}
use Rattle.lq_text_resolve.specs.Binding.Binding.{is_tuple, numbered, sources_of}
use Rattle.lq_text_resolve.specs.Binding.Heads as head
use Rattle.lq_text_resolve.specs.Binding.Heads.{Head, Given, done, lacking, given, primitive_in, primitive_named, array_primitive, map_primitive}
use Rattle.lq_text_resolve.specs.Binding.Making.{Frame, frame_with, part, Value, whole, partly, Making, Items_made, Spread, parts_of, itself, spread, of_spread, of_listed, takes_more, built_of, row_of, with_given, of_primitive, of_use, leaf_made, called, joined_by, is_call, two_form, next_before, source_before, start_of, taken, taken_body, matched, all_made, arms_made, match_made, shown, named, made, making, item_made, items_made}
use Rattle.lq_meaning_normal_form.specs.Types.Written.{HasPart, Each, EachBody, IsWritten, Takes, being_written, ItemsAreWritten}
use Rattle.lq_sound_readiness.proofs.NormalTextsLemmas.Reading.{EachTree, TextIsWritten, TextsAreWritten}

-- ---- values

abbrev HeadIsWritten : Head → Type 0
HeadIsWritten head.read = Unit {0}
HeadIsWritten head.print = Unit {0}
HeadIsWritten head.length_of = Unit {0}
HeadIsWritten head.make = Unit {0}
HeadIsWritten (head.make_of n) = IsWritten n
HeadIsWritten head.find = Unit {0}
HeadIsWritten (head.find_of k) = IsWritten k
HeadIsWritten head.add = Unit {0}
HeadIsWritten (head.add_of k) = IsWritten k
HeadIsWritten (head.add_to k e) = IsWritten k × IsWritten e

abbrev ValueIsWritten : Value → Type 0
ValueIsWritten (whole t) = IsWritten t
ValueIsWritten (partly h) = HeadIsWritten h

abbrev GivenIsWritten : Given → Type 0
GivenIsWritten (done f) = (n : ℕ) (p : Place) → IsWritten (tree n p f)
GivenIsWritten (lacking h) = HeadIsWritten h

-- what is made has its parts
abbrev Makes : Making → Type 0
Makes f = (k : Frame) (n : ℕ) (s : List (Option ℕ)) → ValueIsWritten (f k n s).value

part-kept : (p : Place) (v : Value) → ValueIsWritten v → IsWritten (part p v)
part-kept p (whole t) g = g
part-kept p (partly h) g = tt

given-kept : (h : Head) (a : Tree) → HeadIsWritten h → IsWritten a → GivenIsWritten (given h a)
given-kept head.read a g x = λ n p. x
given-kept head.print a g x = λ n p. x
given-kept head.length_of a g x = λ n p. x
given-kept head.make a g x = x
given-kept (head.make_of m) a g x = λ n p. (g, x)
given-kept head.find a g x = x
given-kept (head.find_of k) a g x = λ n p. (g, x)
given-kept head.add a g x = x
given-kept (head.add_of k) a g x = (g, x)
given-kept (head.add_to k e) a g x = λ n p. (g.0, g.1, x)

with-given : (g : Given) → GivenIsWritten g → (p : Place) (n : ℕ) (s : List (Option ℕ)) → ValueIsWritten (with_given g p n s).value
with-given (done f) g p n s = g n p
with-given (lacking h) g p n s = g

called-kept : (v : Value) (a : Tree) → ValueIsWritten v → IsWritten a → (p : Place) (n : ℕ) (s : List (Option ℕ)) → ValueIsWritten (called v a p n s).value
called-kept (whole f) a g x p n s = (g, x)
called-kept (partly h) a g x p n s = with-given (given h a) (given-kept h a g x) p n s

-- a primitive without arguments
abbrev FoundIsWritten : Option Given → Type 0
FoundIsWritten None = Unit {0}
FoundIsWritten (Some g) = GivenIsWritten g

of-primitive : (g : Option Given) → FoundIsWritten g → (p : Place) (n : ℕ) (s : List (Option ℕ)) → ValueIsWritten (of_primitive g p n s).value
of-primitive None g p n s = tt
of-primitive (Some h) g p n s = with-given h g p n s

of-use : (b : Option ℕ) (g : Option Given) → FoundIsWritten g → (p : Place) (n : ℕ) (s : List (Option ℕ)) → ValueIsWritten (of_use b g p n s).value
of-use (Some b) g h p n s = tt
of-use None g h p n s = of-primitive g h p n s

-- ---- nodes of two parts

two-kept : (h : shape.Two) (i : ℕ) (p : Place) (a b : Tree) → IsWritten a → IsWritten b → IsWritten (tree i p (two_form h a b))
two-kept shape.call i p a b g x = (g, x)
two-kept (shape.arithmetic o) i p a b g x = (g, x)
two-kept (shape.compare o) i p a b g x = (g, x)
two-kept shape.and_of i p a b g x = (g, x)
two-kept shape.or_of i p a b g x = (g, x)
two-kept shape.make i p a b g x = (g, x)
two-kept shape.fetch i p a b g x = (g, x)
two-kept shape.map_find i p a b g x = (g, x)

joined-kept : (call : Bool) (h : shape.Two) (v : Value) (b : Tree) → ValueIsWritten v → IsWritten b → (p : Place) (n : ℕ) (s : List (Option ℕ))
    → ValueIsWritten (joined_by call h v b p n s).value
joined-kept true h v b g x p n s = called-kept v b g x p n s
joined-kept false h v b g x p n s = two-kept h n p (part p v) b (part-kept p v g) x

-- ---- rows

abbrev SpreadIsWritten : Spread → Type 0
SpreadIsWritten (parts_of i us) = Each (fold_all being_written us)
SpreadIsWritten (itself t) = IsWritten t

spread-kept : (t : Tree) → IsWritten t → SpreadIsWritten (spread t)
spread-kept (tree h z (form.whole n)) g = g
spread-kept (tree h z (form.flag b)) g = g
spread-kept (tree h z form.unit) g = g
spread-kept (tree h z (form.use_of x)) g = g
spread-kept (tree h z (form.qualified m x)) g = g
spread-kept (tree h z (form.fun q b)) g = g
spread-kept (tree h z (form.tuple es)) g = g.1
spread-kept (tree h z (form.build c w es)) g = g
spread-kept (tree h z (form.list_of es)) g = g
spread-kept (tree h z (form.let_in q e b)) g = g
spread-kept (tree h z (form.let_rec f j r q b e)) g = g
spread-kept (tree h z (form.call a b)) g = g
spread-kept (tree h z (form.arithmetic o a b)) g = g
spread-kept (tree h z (form.negated e)) g = g
spread-kept (tree h z (form.compare o a b)) g = g
spread-kept (tree h z (form.not_of e)) g = g
spread-kept (tree h z (form.and_of a b)) g = g
spread-kept (tree h z (form.or_of a b)) g = g
spread-kept (tree h z (form.if_else c a b)) g = g
spread-kept (tree h z (form.match_on e cs)) g = g
spread-kept (tree h z (form.chain es)) g = g
spread-kept (tree h z (form.assert e)) g = g
spread-kept (tree h z form.assert_false) g = g
spread-kept (tree h z (form.make a b)) g = g
spread-kept (tree h z (form.length_of e)) g = g
spread-kept (tree h z (form.fetch a b)) g = g
spread-kept (tree h z (form.store a b c)) g = g
spread-kept (tree h z (form.print e)) g = g
spread-kept (tree h z (form.read e)) g = g
spread-kept (tree h z form.map_empty) g = g
spread-kept (tree h z (form.map_add a b c)) g = g
spread-kept (tree h z (form.map_find a b)) g = g

of-spread : (p : Place) (c : ℕ) (x : Spread) → SpreadIsWritten x → (n : ℕ) (s : List (Option ℕ)) → ValueIsWritten (of_spread p c x n s).value
of-spread p c (parts_of i us) g n s = (tt, g)
of-spread p c (itself t) g n s = (tt, (g, tt))

of-listed : (more : Bool) (p : Place) (c : ℕ) (ts : List Tree) → EachTree ts → (n : ℕ) (s : List (Option ℕ)) → ValueIsWritten (of_listed more p c ts n s).value
of-listed true p c (t ∷ []) g n s = of-spread p c (spread t) (spread-kept t g.0) n s
of-listed true p c [] g n s = (tt, g)
of-listed true p c (t ∷ (u ∷ ts)) g n s = (tt, g)
of-listed false p c ts g n s = (tt, g)

built-kept : (w : Arguments) (wanted : Option ℕ) (p : Place) (c : ℕ) (ts : List Tree) → EachTree ts → (n : ℕ) (s : List (Option ℕ))
    → ValueIsWritten (built_of w wanted p c ts n s).value
built-kept Apart wanted p c ts g n s = (tt, g)
built-kept Listed wanted p c ts g n s = of-listed (takes_more wanted) p c ts g n s

row-kept : (h : shape.Row) (cs : List Arity) (ts : List Tree) → HasPart h (fold_all being_written (trees_of ts)) → EachTree ts
    → (p : Place) (n : ℕ) (s : List (Option ℕ)) → ValueIsWritten (row_of h cs ts p n s).value
row-kept shape.tuple cs ts some g p n s = (tt, g)
row-kept (shape.build c w) cs ts some g p n s = built-kept w (arity_in cs c) p c ts g n s
row-kept shape.list_of cs ts some g p n s = (tt, g)
row-kept shape.chain cs ts some g p n s = (some, g)

-- ---- patterns

-- a pattern stays what it is
takes-kept : (q : Pattern) (n : ℕ) → Takes q → Takes (numbered n q)
takes-kept (pattern p any) n h = h
takes-kept (pattern p (bind x)) n h = refl
takes-kept (pattern p nothing) n h = h
takes-kept (pattern p (tuple_of qs)) n h = h
takes-kept (pattern p (build_of c o qs)) n h = h

body-kept : (t : Bool) (start : ℕ) (q : Pattern) (e b : Tree) (n : ℕ) → IsWritten e → IsWritten b → IsWritten (taken_body t start q e b n)
body-kept true start q e b n g h = (g, (h, tt))
body-kept false start q e b n g h = h

taken-kept : (p : Place) (q : Pattern) (b : Making) → Makes b → (k : Frame) (n : ℕ) (s : List (Option ℕ)) → IsWritten (taken p q b k n s).body
taken-kept p q b makes k n s =
    let start = start_of q s in
    let x = b (shown start q k) (next_before (is_tuple q) n) (source_before (is_tuple q) s ++ sources_of (bound_in q)) in
    body-kept (is_tuple q) start q (matched (length s) q n) (part p x.value) x.next tt
    (part-kept p x.value (makes (shown start q k) (next_before (is_tuple q) n) (source_before (is_tuple q) s ++ sources_of (bound_in q))))

-- ---- primitives

either : (b : Bool) (g h : Option Given) → FoundIsWritten g → FoundIsWritten h → FoundIsWritten (if b then g else h)
either true g h x y = x
either false g h x y = y

primitive-kept : (x : List ℕ) → FoundIsWritten (primitive_named x)
primitive-kept x =
    let print = either (bytes_eq x (codes "print_int")) (Some (lacking head.print)) None tt tt in
    either (bytes_eq x (codes "read_int")) (Some (lacking head.read)) (if bytes_eq x (codes "print_int") then Some (lacking head.print) else None) tt print

array-kept : (x : List ℕ) → FoundIsWritten (array_primitive x)
array-kept x =
    let length = either (bytes_eq x (codes "length")) (Some (lacking head.length_of)) None tt tt in
    either (bytes_eq x (codes "make")) (Some (lacking head.make)) (if bytes_eq x (codes "length") then Some (lacking head.length_of) else None) tt length

map-kept : (x : List ℕ) → FoundIsWritten (map_primitive x)
map-kept x =
    let find = either (bytes_eq x (codes "find")) (Some (lacking head.find)) None tt tt in
    let add = either (bytes_eq x (codes "add")) (Some (lacking head.add)) (if bytes_eq x (codes "find") then Some (lacking head.find) else None) tt find in
    either (bytes_eq x (codes "empty")) (Some (done form.map_empty))
    (if bytes_eq x (codes "add") then Some (lacking head.add) else if bytes_eq x (codes "find") then Some (lacking head.find) else None) (λ n p. tt) add

qualified-kept : (m x : List ℕ) → FoundIsWritten (primitive_in m x)
qualified-kept m x =
    let map = either (bytes_eq m (codes "Map")) (map_primitive x) None (map-kept x) tt in
    either (bytes_eq m (codes "Array")) (array_primitive x) (if bytes_eq m (codes "Map") then map_primitive x else None) (array-kept x) map

-- ---- trees

module _ (names : List (List ℕ)) where
  abbrev Keeps : Tree → Type 0
  Keeps t = IsWritten t → Makes (made names t)

  abbrev AllKept : Trees → Type 0
  AllKept es = (p : Place) → Each (fold_all being_written es) → (k : Frame) (n : ℕ) (s : List (Option ℕ))
      → EachTree (all_made p (fold_all (making names) es) k n s).trees

  abbrev BodiesKept : Cases → Type 0
  BodiesKept cs = (p : Place) → EachBody (fold_cases being_written cs) → (k : Frame) (n : ℕ) (s : List (Option ℕ))
      → EachBody (fold_cases being_written (arms_made p (fold_cases (making names) cs) k n s).cases)

  -- a chain that has a part has one still
  some-kept : (h : shape.Row) (es : Trees) (p : Place) (k : Frame) (n : ℕ) (s : List (Option ℕ)) → HasPart h (fold_all being_written es)
      → HasPart h (fold_all being_written (trees_of (all_made p (fold_all (making names) es) k n s).trees))
  some-kept shape.chain no_trees p k n s some = some
  some-kept shape.chain (more_trees e es) p k n s some = tt
  some-kept shape.tuple es p k n s some = tt
  some-kept (shape.build c w) es p k n s some = tt
  some-kept shape.list_of es p k n s some = tt

  row-made : (t : Tree) (h : shape.Row) (es : Trees) → AllKept es → HasPart h (fold_all being_written es) × Each (fold_all being_written es)
      → Makes ((making names).row t h (fold_all (making names) es))
  row-made t h es kept g k n s =
      let p = place_of t in
      let x = all_made p (fold_all (making names) es) k n s in
      row-kept h k.constructors x.trees (some-kept h es p k n s g.0) (kept p g.1 k n s) p x.next x.sources

  leaf-made : (p : Place) (h : shape.Leaf) → Makes (leaf_made names p h)
  leaf-made p (shape.use_of x) k n s =
      of-use (arity_in k.variables x) (primitive_named (text_of names x)) (primitive-kept (text_of names x)) p n s
  leaf-made p (shape.qualified m x) k n s =
      of-primitive (primitive_in (text_of names m) (text_of names x)) (qualified-kept (text_of names m) (text_of names x)) p n s
  leaf-made p (shape.whole m) k n s = tt
  leaf-made p (shape.flag b) k n s = tt
  leaf-made p shape.unit k n s = tt
  leaf-made p shape.assert_false k n s = tt
  leaf-made p shape.map_empty k n s = tt

  two-made : (t : Tree) (h : shape.Two) (a b : Tree) → Keeps a → Keeps b → IsWritten a × IsWritten b
      → Makes ((making names).two t h (made names a) (made names b))
  two-made t h a b first second g k n s =
      let x = made names a k n s in let y = made names b k x.next x.sources in
      joined-kept (is_call h) h x.value (part (place_of t) y.value) (first g.0 k n s)
      (part-kept (place_of t) y.value (second g.1 k x.next x.sources)) (place_of t) y.next y.sources

  -- each body of an arm keeps its parts
  abbrev Bodies : Cases → Type 0
  Bodies no_cases = Unit {0}
  Bodies (more_cases q b cs) = Keeps b × Bodies cs

  -- the parts of a node, as they are made one after another
  one-part : (t a : Tree) → Keeps a → IsWritten a → (k : Frame) (n : ℕ) (s : List (Option ℕ)) → IsWritten (part (place_of t) (made names a k n s).value)
  one-part t a first g k n s = part-kept (place_of t) (made names a k n s).value (first g k n s)

  three-parts : (t a b c : Tree) → Keeps a → Keeps b → Keeps c → IsWritten a × IsWritten b × IsWritten c → (k : Frame) (n : ℕ) (s : List (Option ℕ))
      → (let x = made names a k n s in let y = made names b k x.next x.sources in let z = made names c k y.next y.sources in
      IsWritten (part (place_of t) x.value) × IsWritten (part (place_of t) y.value) × IsWritten (part (place_of t) z.value))
  three-parts t a b c first second third g k n s =
      let x = made names a k n s in let y = made names b k x.next x.sources in
      (one-part t a first g.0 k n s, one-part t b second g.1 k x.next x.sources, one-part t c third g.2 k y.next y.sources)

  let-made : (t : Tree) (q : Pattern) (e b : Tree) → Keeps e → Keeps b → Takes q × IsWritten e × IsWritten b
      → Makes ((making names).let_in t q (made names e) (made names b))
  let-made t q e b first second g k n s =
      let r = s ++ sources_of (bound_in q) in let x = made names e k n r in
      (takes-kept q (length s) g.0, one-part t e first g.1 k n r, one-part t b second g.2 (shown (length s) q k) x.next x.sources)

  arms-made : (cs : Cases) → Bodies cs → BodiesKept cs
  arms-made no_cases bs p g k n s = tt
  arms-made (more_cases q b cs) bs p g k n s =
      let r = s ++ sources_of (bound_in q) in let x = made names b (shown (length s) q k) n r in
      (part-kept p x.value (bs.0 g.0 (shown (length s) q k) n r), arms-made cs bs.1 p g.1 k x.next x.sources)

  match-made : (first : Bool) (p : Place) (e : Tree) (cs : Cases) → Keeps e → Bodies cs → IsWritten e × EachBody (fold_cases being_written cs)
      → Makes (match_made first p (made names e) (fold_cases (making names) cs))
  match-made false p e cs kept bs g k n s =
      let x = made names e k n s in (part-kept p x.value (kept g.0 k n s), arms-made cs bs p g.1 k x.next x.sources)
  match-made true p e no_cases kept bs g k n s = let x = made names e k n s in (part-kept p x.value (kept g.0 k n s), tt)
  match-made true p e (more_cases q b cs) kept bs g k n s =
      let r = s ++ sources_of (bound_in q) in let x = made names e k n r in
      let y = made names b (shown (length s) q k) x.next x.sources in (
        part-kept p x.value (kept g.0 k n r),
        (part-kept p y.value (bs.0 g.1.0 (shown (length s) q k) x.next x.sources), arms-made cs bs.1 p g.1.1 k y.next y.sources),
      )

  mutual
    pub tree-kept : (t : Tree) → Keeps t
    tree-kept (tree i p f) = form-kept i p f

    form-kept : (i : ℕ) (p : Place) (f : Form) → Keeps (tree i p f)
    form-kept i p (form.whole m) g k n s = leaf-made p (shape.whole m) k n s
    form-kept i p (form.flag b) g k n s = leaf-made p (shape.flag b) k n s
    form-kept i p form.unit g k n s = leaf-made p shape.unit k n s
    form-kept i p (form.use_of x) g k n s = leaf-made p (shape.use_of x) k n s
    form-kept i p (form.qualified m x) g k n s = leaf-made p (shape.qualified m x) k n s
    form-kept i p form.assert_false g k n s = leaf-made p shape.assert_false k n s
    form-kept i p form.map_empty g k n s = leaf-made p shape.map_empty k n s
    form-kept i p (form.negated a) g k n s = one-part (tree i p (form.negated a)) a (tree-kept a) g k n s
    form-kept i p (form.not_of a) g k n s = one-part (tree i p (form.not_of a)) a (tree-kept a) g k n s
    form-kept i p (form.assert a) g k n s = one-part (tree i p (form.assert a)) a (tree-kept a) g k n s
    form-kept i p (form.length_of a) g k n s = one-part (tree i p (form.length_of a)) a (tree-kept a) g k n s
    form-kept i p (form.print a) g k n s = one-part (tree i p (form.print a)) a (tree-kept a) g k n s
    form-kept i p (form.read a) g k n s = one-part (tree i p (form.read a)) a (tree-kept a) g k n s
    form-kept i p (form.call a b) g k n s = two-made (tree i p (form.call a b)) shape.call a b (tree-kept a) (tree-kept b) g k n s
    form-kept i p (form.arithmetic o a b) g k n s = two-made (tree i p (form.arithmetic o a b)) (shape.arithmetic o) a b (tree-kept a) (tree-kept b) g k n s
    form-kept i p (form.compare o a b) g k n s = two-made (tree i p (form.compare o a b)) (shape.compare o) a b (tree-kept a) (tree-kept b) g k n s
    form-kept i p (form.and_of a b) g k n s = two-made (tree i p (form.and_of a b)) shape.and_of a b (tree-kept a) (tree-kept b) g k n s
    form-kept i p (form.or_of a b) g k n s = two-made (tree i p (form.or_of a b)) shape.or_of a b (tree-kept a) (tree-kept b) g k n s
    form-kept i p (form.make a b) g k n s = two-made (tree i p (form.make a b)) shape.make a b (tree-kept a) (tree-kept b) g k n s
    form-kept i p (form.fetch a b) g k n s = two-made (tree i p (form.fetch a b)) shape.fetch a b (tree-kept a) (tree-kept b) g k n s
    form-kept i p (form.map_find a b) g k n s = two-made (tree i p (form.map_find a b)) shape.map_find a b (tree-kept a) (tree-kept b) g k n s
    form-kept i p (form.if_else a b c) g k n s = three-parts (tree i p (form.if_else a b c)) a b c (tree-kept a) (tree-kept b) (tree-kept c) g k n s
    form-kept i p (form.store a b c) g k n s = three-parts (tree i p (form.store a b c)) a b c (tree-kept a) (tree-kept b) (tree-kept c) g k n s
    form-kept i p (form.map_add a b c) g k n s = three-parts (tree i p (form.map_add a b c)) a b c (tree-kept a) (tree-kept b) (tree-kept c) g k n s
    form-kept i p (form.tuple es) g k n s = row-made (tree i p (form.tuple es)) shape.tuple es (all-kept es) g k n s
    form-kept i p (form.build c w es) g k n s = row-made (tree i p (form.build c w es)) (shape.build c w) es (all-kept es) g k n s
    form-kept i p (form.list_of es) g k n s = row-made (tree i p (form.list_of es)) shape.list_of es (all-kept es) g k n s
    form-kept i p (form.chain es) g k n s = row-made (tree i p (form.chain es)) shape.chain es (all-kept es) g k n s
    form-kept i p (form.fun q b) g k n s = taken-kept p q (made names b) (tree-kept b g) k n s
    form-kept i p (form.let_in q e b) g k n s = let-made (tree i p (form.let_in q e b)) q e b (tree-kept e) (tree-kept b) g k n s
    form-kept i p (form.let_rec f j r q e b) g k n s =
        let l = named (length s) f k in let s1 = s ++ Some f ∷ [] in let x = taken r q (made names e) l n s1 in
        (taken-kept r q (made names e) (tree-kept e g.0) l n s1, one-part (tree i p (form.let_rec f j r q e b)) b (tree-kept b) g.1 l (suc x.next) x.sources)
    form-kept i p (form.match_on e cs) g k n s = match-made (is_let (tree i p (form.match_on e cs))) p e cs (tree-kept e) (bodies-kept cs) g k n s

    all-kept : (es : Trees) → AllKept es
    all-kept no_trees = λ p g k n s. tt
    all-kept (more_trees e es) = λ p g k n s.
        let x = made names e k n s in (part-kept p x.value (tree-kept e g.0 k n s), all-kept es p g.1 k x.next x.sources)

    bodies-kept : (cs : Cases) → Bodies cs
    bodies-kept no_cases = tt
    bodies-kept (more_cases q b cs) = (tree-kept b, bodies-kept cs)

  -- ---- items

  item-kept : (p : Place) (f : ItemForm) (rest : Frame → ℕ → List (Option ℕ) → Items_made)
      → ((k : Frame) (n : ℕ) (s : List (Option ℕ)) → ItemsAreWritten (rest k n s).items) → TextIsWritten f
      → (k : Frame) (n : ℕ) (s : List (Option ℕ)) → ItemsAreWritten (item_made names p f k n s rest).items
  item-kept p (type_of d) rest after g k n s = after (frame_with k.variables (with_constructors k.constructors d.constructors)) n s
  item-kept p (let_of q e) rest after g k n s =
      let r = s ++ sources_of (bound_in q) in let x = made names e k n r in
      (part-kept p x.value (tree-kept e g k n r), after (shown (length s) q k) x.next x.sources)
  item-kept p (let_rec_of f r) rest after g k n s =
      let l = named (length s) f k in let s1 = s ++ Some f ∷ [] in let x = taken r.place r.parameter (made names r.body) l n s1 in
      (taken-kept r.place r.parameter (made names r.body) (tree-kept r.body g) l n s1, after l (suc x.next) x.sources)

  pub items-kept : (is : List ItemTree) → TextsAreWritten is → (k : Frame) (n : ℕ) (s : List (Option ℕ)) → ItemsAreWritten (items_made names k n s is).items
  items-kept [] g k n s = tt
  items-kept (i ∷ is) g k n s =
      item-kept i.place i.form (λ l m r. items_made names l m r is) (λ l m r. items-kept is g.1 l m r) g.0 k n s
