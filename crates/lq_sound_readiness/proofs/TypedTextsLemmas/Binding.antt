-- Once names are bound, patterns are as texts have them still, and no parameter is a tuple.
use Rattle.std.proofs.Common.{◌≡◌, ℕ, suc, Bool, true, false, List, [], ◌∷◌, ◌++◌, length, Option, Some, None, refl, if◌then◌else◌, codes}
use Rattle.std.specs.Str.{bytes_eq}
use Rattle.lq_base_names.specs.declared.place.Place.{Place}
use Rattle.lq_text_tree.specs.declared.expr.Arguments.{Arguments}
use Rattle.lq_text_tree.specs.declared.expr.Arguments.TheVariants.{Apart, Listed}
use Rattle.lq_text_tree.specs.Items.{ItemTree, ItemForm, type_of, let_of, let_rec_of}
use Rattle.lq_text_tree.specs.Pattern.{Pattern, pattern, any, bind, nothing, tuple_of, build_of, bound_in}
use Rattle.lq_text_tree.specs.Tree as form
use Rattle.lq_text_tree.specs.Tree.{Tree, tree, Form, Trees, no_trees, more_trees, Cases, no_cases, more_cases}
use Rattle.lq_text_tree.specs.TreeView.{trees_of}
use Rattle.lq_text_walk.specs.Walk.Fold.{fold_all, fold_cases}
use Rattle.lq_text_walk.specs.Walk.Shape as shape
use Rattle.lq_text_walk.specs.Walk.Visits.{is_let, place_of}
use Rattle.lq_text_scope.specs.Datatypes.{with_constructors}
use Rattle.lq_text_scope.specs.Known.{Arity, arity_in, text_of}
use Rattle.lq_text_resolve.specs.Binding.Binding.{is_tuple, sources_of}
use Rattle.lq_text_resolve.specs.Binding.Heads as head
use Rattle.lq_text_resolve.specs.Binding.Heads.{Head, Given, done, lacking, given, primitive_in, primitive_named, array_primitive, map_primitive}
use Rattle.lq_text_resolve.specs.Binding.Making.{Frame, frame_with, part, Value, whole, partly, Making, Items_made, Spread, parts_of, itself, spread, of_spread, of_listed, takes_more, built_of, row_of, with_given, of_primitive, of_use, leaf_made, called, joined_by, is_call, two_form, next_before, source_before, start_of, taken, taken_body, taken_pattern, matched, all_made, arms_made, match_made, shown, named, made, making, item_made, items_made}
use Rattle.lq_text_resolve.specs.Resolution.Parameters.{is_taken}
use Rattle.lq_meaning_normal_form.specs.Types.Written.{Each, Takes}
use Rattle.lq_sound_readiness.specs.NormalReading.Suits.{EachArmSuits, IsFlat}
use Rattle.lq_sound_readiness.specs.TypedTexts.Flat.{IsParameter, being_flat, HasFlat, ItemHasFlat, ItemsAreFlat, ItemsHaveFlat}
use Rattle.lq_sound_readiness.proofs.TypedTextsLemmas.Patterns.{flat_kept}

-- before names are bound, and once they are
abbrev Flat : Tree → Type 0
Flat = HasFlat IsParameter

abbrev Bound : Tree → Type 0
Bound = HasFlat Takes

abbrev AllFlat : Trees → Type 0
AllFlat es = Each (fold_all (being_flat IsParameter) es)

abbrev AllBound : Trees → Type 0
AllBound es = Each (fold_all (being_flat Takes) es)

abbrev ArmsFlat : Cases → Type 0
ArmsFlat cs = EachArmSuits (fold_cases (being_flat IsParameter) cs)

abbrev ArmsBound : Cases → Type 0
ArmsBound cs = EachArmSuits (fold_cases (being_flat Takes) cs)

-- ---- values

abbrev HeadIsBound : Head → Type 0
HeadIsBound head.read = Unit {0}
HeadIsBound head.print = Unit {0}
HeadIsBound head.length_of = Unit {0}
HeadIsBound head.make = Unit {0}
HeadIsBound (head.make_of n) = Bound n
HeadIsBound head.find = Unit {0}
HeadIsBound (head.find_of k) = Bound k
HeadIsBound head.add = Unit {0}
HeadIsBound (head.add_of k) = Bound k
HeadIsBound (head.add_to k e) = Bound k × Bound e

abbrev ValueIsBound : Value → Type 0
ValueIsBound (whole t) = Bound t
ValueIsBound (partly h) = HeadIsBound h

abbrev GivenIsBound : Given → Type 0
GivenIsBound (done f) = (n : ℕ) (p : Place) → Bound (tree n p f)
GivenIsBound (lacking h) = HeadIsBound h

-- what is made has its patterns so
abbrev Makes : Making → Type 0
Makes f = (k : Frame) (n : ℕ) (s : List (Option ℕ)) → ValueIsBound (f k n s).value

part_kept : (p : Place) (v : Value) → ValueIsBound v → Bound (part p v)
part_kept p (whole t) g = g
part_kept p (partly h) g = tt

given_kept : (h : Head) (a : Tree) → HeadIsBound h → Bound a → GivenIsBound (given h a)
given_kept head.read a g x = λ n p. x
given_kept head.print a g x = λ n p. x
given_kept head.length_of a g x = λ n p. x
given_kept head.make a g x = x
given_kept (head.make_of m) a g x = λ n p. (g, x)
given_kept head.find a g x = x
given_kept (head.find_of k) a g x = λ n p. (g, x)
given_kept head.add a g x = x
given_kept (head.add_of k) a g x = (g, x)
given_kept (head.add_to k e) a g x = λ n p. (g.0, g.1, x)

given_made : (g : Given) → GivenIsBound g → (p : Place) (n : ℕ) (s : List (Option ℕ)) → ValueIsBound (with_given g p n s).value
given_made (done f) g p n s = g n p
given_made (lacking h) g p n s = g

called_kept : (v : Value) (a : Tree) → ValueIsBound v → Bound a → (p : Place) (n : ℕ) (s : List (Option ℕ)) → ValueIsBound (called v a p n s).value
called_kept (whole f) a g x p n s = (g, x)
called_kept (partly h) a g x p n s = given_made (given h a) (given_kept h a g x) p n s

-- a primitive without arguments
abbrev FoundIsBound : Option Given → Type 0
FoundIsBound None = Unit {0}
FoundIsBound (Some g) = GivenIsBound g

primitive_made : (g : Option Given) → FoundIsBound g → (p : Place) (n : ℕ) (s : List (Option ℕ)) → ValueIsBound (of_primitive g p n s).value
primitive_made None g p n s = tt
primitive_made (Some h) g p n s = given_made h g p n s

use_made : (b : Option ℕ) (g : Option Given) → FoundIsBound g → (p : Place) (n : ℕ) (s : List (Option ℕ)) → ValueIsBound (of_use b g p n s).value
use_made (Some b) g h p n s = tt
use_made None g h p n s = primitive_made g h p n s

-- ---- nodes of two parts

two_kept : (h : shape.Two) (i : ℕ) (p : Place) (a b : Tree) → Bound a → Bound b → Bound (tree i p (two_form h a b))
two_kept shape.call i p a b g x = (g, x)
two_kept (shape.arithmetic o) i p a b g x = (g, x)
two_kept (shape.compare o) i p a b g x = (g, x)
two_kept shape.and_of i p a b g x = (g, x)
two_kept shape.or_of i p a b g x = (g, x)
two_kept shape.make i p a b g x = (g, x)
two_kept shape.fetch i p a b g x = (g, x)
two_kept shape.map_find i p a b g x = (g, x)

joined_kept : (call : Bool) (h : shape.Two) (v : Value) (b : Tree) → ValueIsBound v → Bound b → (p : Place) (n : ℕ) (s : List (Option ℕ))
    → ValueIsBound (joined_by call h v b p n s).value
joined_kept true h v b g x p n s = called_kept v b g x p n s
joined_kept false h v b g x p n s = two_kept h n p (part p v) b (part_kept p v g) x

-- ---- rows

abbrev EachTree : List Tree → Type 0
EachTree ts = AllBound (trees_of ts)

abbrev SpreadIsBound : Spread → Type 0
SpreadIsBound (parts_of i us) = AllBound us
SpreadIsBound (itself t) = Bound t

spread_kept : (t : Tree) → Bound t → SpreadIsBound (spread t)
spread_kept (tree h z (form.tuple es)) g = g
spread_kept (tree h z f) g = g

spread_made : (p : Place) (c : ℕ) (x : Spread) → SpreadIsBound x → (n : ℕ) (s : List (Option ℕ)) → ValueIsBound (of_spread p c x n s).value
spread_made p c (parts_of i us) g n s = g
spread_made p c (itself t) g n s = (g, tt)

listed_made : (more : Bool) (p : Place) (c : ℕ) (ts : List Tree) → EachTree ts → (n : ℕ) (s : List (Option ℕ)) → ValueIsBound (of_listed more p c ts n s).value
listed_made true p c (t ∷ []) g n s = spread_made p c (spread t) (spread_kept t g.0) n s
listed_made true p c [] g n s = g
listed_made true p c (t ∷ (u ∷ ts)) g n s = g
listed_made false p c ts g n s = g

built_made : (w : Arguments) (wanted : Option ℕ) (p : Place) (c : ℕ) (ts : List Tree) → EachTree ts → (n : ℕ) (s : List (Option ℕ))
    → ValueIsBound (built_of w wanted p c ts n s).value
built_made Apart wanted p c ts g n s = g
built_made Listed wanted p c ts g n s = listed_made (takes_more wanted) p c ts g n s

row_kept : (h : shape.Row) (cs : List Arity) (ts : List Tree) → EachTree ts → (p : Place) (n : ℕ) (s : List (Option ℕ)) → ValueIsBound (row_of h cs ts p n s).value
row_kept shape.tuple cs ts g p n s = g
row_kept (shape.build c w) cs ts g p n s = built_made w (arity_in cs c) p c ts g n s
row_kept shape.list_of cs ts g p n s = g
row_kept shape.chain cs ts g p n s = g

-- ---- parameters

-- a tuple has become a name, and the pattern of a match
parameter_kept : (start : ℕ) (q : Pattern) → is_taken q ≡ true → Takes (taken_pattern (is_tuple q) start q)
parameter_kept start (pattern p any) h = refl
parameter_kept start (pattern p (bind x)) h = refl
parameter_kept start (pattern p nothing) h = refl
parameter_kept start (pattern p (tuple_of qs)) h = refl
parameter_kept start (pattern p (build_of c o qs)) h = cc

body_kept : (t : Bool) (start : ℕ) (q : Pattern) (e b : Tree) (n : ℕ) → IsFlat q → Bound e → Bound b → Bound (taken_body t start q e b n)
body_kept true start q e b n k g h = (g, (flat_kept start q k, h, tt))
body_kept false start q e b n k g h = h

taken_kept : (p : Place) (q : Pattern) (b : Making) → IsParameter q → Makes b → (k : Frame) (n : ℕ) (s : List (Option ℕ))
    → Takes (taken p q b k n s).parameter × Bound (taken p q b k n s).body
taken_kept p q b h makes k n s =
    let start = start_of q s in
    let r = source_before (is_tuple q) s ++ sources_of (bound_in q) in
    let x = b (shown start q k) (next_before (is_tuple q) n) r in (
      parameter_kept start q h.1,
      body_kept (is_tuple q) start q (matched (length s) q n) (part p x.value) x.next h.0 tt (part_kept p x.value (makes (shown start q k) (next_before (is_tuple q) n) r)),
    )

-- ---- primitives

either : (b : Bool) (g h : Option Given) → FoundIsBound g → FoundIsBound h → FoundIsBound (if b then g else h)
either true g h x y = x
either false g h x y = y

primitive_kept : (x : List ℕ) → FoundIsBound (primitive_named x)
primitive_kept x =
    let print = either (bytes_eq x (codes "print_int")) (Some (lacking head.print)) None tt tt in
    either (bytes_eq x (codes "read_int")) (Some (lacking head.read)) (if bytes_eq x (codes "print_int") then Some (lacking head.print) else None) tt print

array_kept : (x : List ℕ) → FoundIsBound (array_primitive x)
array_kept x =
    let length = either (bytes_eq x (codes "length")) (Some (lacking head.length_of)) None tt tt in
    either (bytes_eq x (codes "make")) (Some (lacking head.make)) (if bytes_eq x (codes "length") then Some (lacking head.length_of) else None) tt length

map_kept : (x : List ℕ) → FoundIsBound (map_primitive x)
map_kept x =
    let find = either (bytes_eq x (codes "find")) (Some (lacking head.find)) None tt tt in
    let add = either (bytes_eq x (codes "add")) (Some (lacking head.add)) (if bytes_eq x (codes "find") then Some (lacking head.find) else None) tt find in
    either (bytes_eq x (codes "empty")) (Some (done form.map_empty))
    (if bytes_eq x (codes "add") then Some (lacking head.add) else if bytes_eq x (codes "find") then Some (lacking head.find) else None) (λ n p. tt) add

qualified_kept : (m x : List ℕ) → FoundIsBound (primitive_in m x)
qualified_kept m x =
    let map = either (bytes_eq m (codes "Map")) (map_primitive x) None (map_kept x) tt in
    either (bytes_eq m (codes "Array")) (array_primitive x) (if bytes_eq m (codes "Map") then map_primitive x else None) (array_kept x) map

-- ---- trees

module _ (names : List (List ℕ)) where
  abbrev Keeps : Tree → Type 0
  Keeps t = Flat t → Makes (made names t)

  abbrev AllKept : Trees → Type 0
  AllKept es = (p : Place) → AllFlat es → (k : Frame) (n : ℕ) (s : List (Option ℕ)) → EachTree (all_made p (fold_all (making names) es) k n s).trees

  row_made : (t : Tree) (h : shape.Row) (es : Trees) → AllKept es → AllFlat es → Makes ((making names).row t h (fold_all (making names) es))
  row_made t h es kept g k n s =
      let p = place_of t in
      let x = all_made p (fold_all (making names) es) k n s in
      row_kept h k.constructors x.trees (kept p g k n s) p x.next x.sources

  leaf_kept : (p : Place) (h : shape.Leaf) → Makes (leaf_made names p h)
  leaf_kept p (shape.use_of x) k n s = use_made (arity_in k.variables x) (primitive_named (text_of names x)) (primitive_kept (text_of names x)) p n s
  leaf_kept p (shape.qualified m x) k n s =
      primitive_made (primitive_in (text_of names m) (text_of names x)) (qualified_kept (text_of names m) (text_of names x)) p n s
  leaf_kept p (shape.whole m) k n s = tt
  leaf_kept p (shape.flag b) k n s = tt
  leaf_kept p shape.unit k n s = tt
  leaf_kept p shape.assert_false k n s = tt
  leaf_kept p shape.map_empty k n s = tt

  two_made : (t : Tree) (h : shape.Two) (a b : Tree) → Keeps a → Keeps b → Flat a × Flat b → Makes ((making names).two t h (made names a) (made names b))
  two_made t h a b first second g k n s =
      let x = made names a k n s in let y = made names b k x.next x.sources in
      joined_kept (is_call h) h x.value (part (place_of t) y.value) (first g.0 k n s)
      (part_kept (place_of t) y.value (second g.1 k x.next x.sources)) (place_of t) y.next y.sources

  -- each body of an arm keeps its patterns
  abbrev Bodies : Cases → Type 0
  Bodies no_cases = Unit {0}
  Bodies (more_cases q b cs) = Keeps b × Bodies cs

  -- the parts of a node, as they are made one after another
  one_part : (t a : Tree) → Keeps a → Flat a → (k : Frame) (n : ℕ) (s : List (Option ℕ)) → Bound (part (place_of t) (made names a k n s).value)
  one_part t a first g k n s = part_kept (place_of t) (made names a k n s).value (first g k n s)

  three_parts : (t a b c : Tree) → Keeps a → Keeps b → Keeps c → Flat a × Flat b × Flat c → (k : Frame) (n : ℕ) (s : List (Option ℕ))
      → (let x = made names a k n s in let y = made names b k x.next x.sources in let z = made names c k y.next y.sources in
      Bound (part (place_of t) x.value) × Bound (part (place_of t) y.value) × Bound (part (place_of t) z.value))
  three_parts t a b c first second third g k n s =
      let x = made names a k n s in let y = made names b k x.next x.sources in
      (one_part t a first g.0 k n s, one_part t b second g.1 k x.next x.sources, one_part t c third g.2 k y.next y.sources)

  let_made : (t : Tree) (q : Pattern) (e b : Tree) → Keeps e → Keeps b → Flat e × Flat b → Makes ((making names).let_in t q (made names e) (made names b))
  let_made t q e b first second g k n s =
      let r = s ++ sources_of (bound_in q) in let x = made names e k n r in
      (one_part t e first g.0 k n r, one_part t b second g.1 (shown (length s) q k) x.next x.sources)

  arms_kept : (cs : Cases) → Bodies cs → (p : Place) → ArmsFlat cs → (k : Frame) (n : ℕ) (s : List (Option ℕ))
      → ArmsBound (arms_made p (fold_cases (making names) cs) k n s).cases
  arms_kept no_cases bs p g k n s = tt
  arms_kept (more_cases q b cs) bs p g k n s =
      let r = s ++ sources_of (bound_in q) in let x = made names b (shown (length s) q k) n r in
      (flat_kept (length s) q g.0, part_kept p x.value (bs.0 g.1 (shown (length s) q k) n r), arms_kept cs bs.1 p g.2 k x.next x.sources)

  match_kept : (first : Bool) (p : Place) (e : Tree) (cs : Cases) → Keeps e → Bodies cs → Flat e × ArmsFlat cs
      → Makes (match_made first p (made names e) (fold_cases (making names) cs))
  match_kept false p e cs kept bs g k n s =
      let x = made names e k n s in (part_kept p x.value (kept g.0 k n s), arms_kept cs bs p g.1 k x.next x.sources)
  match_kept true p e no_cases kept bs g k n s = let x = made names e k n s in (part_kept p x.value (kept g.0 k n s), tt)
  match_kept true p e (more_cases q b cs) kept bs g k n s =
      let r = s ++ sources_of (bound_in q) in let x = made names e k n r in
      let y = made names b (shown (length s) q k) x.next x.sources in (
        part_kept p x.value (kept g.0 k n r),
        (
          flat_kept (length s) q g.1.0,
          part_kept p y.value (bs.0 g.1.1 (shown (length s) q k) x.next x.sources),
          arms_kept cs bs.1 p g.1.2 k y.next y.sources,
        ),
      )

  mutual
    tree_kept : (t : Tree) → Keeps t
    tree_kept (tree i p f) = form_kept i p f

    form_kept : (i : ℕ) (p : Place) (f : Form) → Keeps (tree i p f)
    form_kept i p (form.whole m) g k n s = leaf_kept p (shape.whole m) k n s
    form_kept i p (form.flag b) g k n s = leaf_kept p (shape.flag b) k n s
    form_kept i p form.unit g k n s = leaf_kept p shape.unit k n s
    form_kept i p (form.use_of x) g k n s = leaf_kept p (shape.use_of x) k n s
    form_kept i p (form.qualified m x) g k n s = leaf_kept p (shape.qualified m x) k n s
    form_kept i p form.assert_false g k n s = leaf_kept p shape.assert_false k n s
    form_kept i p form.map_empty g k n s = leaf_kept p shape.map_empty k n s
    form_kept i p (form.negated a) g k n s = one_part (tree i p (form.negated a)) a (tree_kept a) g k n s
    form_kept i p (form.not_of a) g k n s = one_part (tree i p (form.not_of a)) a (tree_kept a) g k n s
    form_kept i p (form.assert a) g k n s = one_part (tree i p (form.assert a)) a (tree_kept a) g k n s
    form_kept i p (form.length_of a) g k n s = one_part (tree i p (form.length_of a)) a (tree_kept a) g k n s
    form_kept i p (form.print a) g k n s = one_part (tree i p (form.print a)) a (tree_kept a) g k n s
    form_kept i p (form.read a) g k n s = one_part (tree i p (form.read a)) a (tree_kept a) g k n s
    form_kept i p (form.call a b) g k n s = two_made (tree i p (form.call a b)) shape.call a b (tree_kept a) (tree_kept b) g k n s
    form_kept i p (form.arithmetic o a b) g k n s = two_made (tree i p (form.arithmetic o a b)) (shape.arithmetic o) a b (tree_kept a) (tree_kept b) g k n s
    form_kept i p (form.compare o a b) g k n s = two_made (tree i p (form.compare o a b)) (shape.compare o) a b (tree_kept a) (tree_kept b) g k n s
    form_kept i p (form.and_of a b) g k n s = two_made (tree i p (form.and_of a b)) shape.and_of a b (tree_kept a) (tree_kept b) g k n s
    form_kept i p (form.or_of a b) g k n s = two_made (tree i p (form.or_of a b)) shape.or_of a b (tree_kept a) (tree_kept b) g k n s
    form_kept i p (form.make a b) g k n s = two_made (tree i p (form.make a b)) shape.make a b (tree_kept a) (tree_kept b) g k n s
    form_kept i p (form.fetch a b) g k n s = two_made (tree i p (form.fetch a b)) shape.fetch a b (tree_kept a) (tree_kept b) g k n s
    form_kept i p (form.map_find a b) g k n s = two_made (tree i p (form.map_find a b)) shape.map_find a b (tree_kept a) (tree_kept b) g k n s
    form_kept i p (form.if_else a b c) g k n s = three_parts (tree i p (form.if_else a b c)) a b c (tree_kept a) (tree_kept b) (tree_kept c) g k n s
    form_kept i p (form.store a b c) g k n s = three_parts (tree i p (form.store a b c)) a b c (tree_kept a) (tree_kept b) (tree_kept c) g k n s
    form_kept i p (form.map_add a b c) g k n s = three_parts (tree i p (form.map_add a b c)) a b c (tree_kept a) (tree_kept b) (tree_kept c) g k n s
    form_kept i p (form.tuple es) g k n s = row_made (tree i p (form.tuple es)) shape.tuple es (all_kept es) g k n s
    form_kept i p (form.build c w es) g k n s = row_made (tree i p (form.build c w es)) (shape.build c w) es (all_kept es) g k n s
    form_kept i p (form.list_of es) g k n s = row_made (tree i p (form.list_of es)) shape.list_of es (all_kept es) g k n s
    form_kept i p (form.chain es) g k n s = row_made (tree i p (form.chain es)) shape.chain es (all_kept es) g k n s
    form_kept i p (form.fun q b) g k n s = taken_kept p q (made names b) g.0 (tree_kept b g.1) k n s
    form_kept i p (form.let_in q e b) g k n s = let_made (tree i p (form.let_in q e b)) q e b (tree_kept e) (tree_kept b) g k n s
    form_kept i p (form.let_rec f j r q b e) g k n s =
        let l = named (length s) f k in let s1 = s ++ Some f ∷ [] in let x = taken r q (made names b) l n s1 in
        let own = taken_kept r q (made names b) g.0 (tree_kept b g.1) l n s1 in
        (own.0, own.1, one_part (tree i p (form.let_rec f j r q b e)) e (tree_kept e) g.2 l (suc x.next) x.sources)
    form_kept i p (form.match_on e cs) g k n s = match_kept (is_let (tree i p (form.match_on e cs))) p e cs (tree_kept e) (bodies_kept cs) g k n s

    all_kept : (es : Trees) → AllKept es
    all_kept no_trees = λ p g k n s. tt
    all_kept (more_trees e es) = λ p g k n s.
        let x = made names e k n s in (part_kept p x.value (tree_kept e g.0 k n s), all_kept es p g.1 k x.next x.sources)

    bodies_kept : (cs : Cases) → Bodies cs
    bodies_kept no_cases = tt
    bodies_kept (more_cases q b cs) = (tree_kept b, bodies_kept cs)

  -- ---- items

  item_kept : (p : Place) (f : ItemForm) (rest : Frame → ℕ → List (Option ℕ) → Items_made)
      → ((k : Frame) (n : ℕ) (s : List (Option ℕ)) → ItemsAreFlat (rest k n s).items) → ItemHasFlat IsParameter f
      → (k : Frame) (n : ℕ) (s : List (Option ℕ)) → ItemsAreFlat (item_made names p f k n s rest).items
  item_kept p (type_of d) rest after g k n s = after (frame_with k.variables (with_constructors k.constructors d.constructors)) n s
  item_kept p (let_of q e) rest after g k n s =
      let r = s ++ sources_of (bound_in q) in let x = made names e k n r in
      (part_kept p x.value (tree_kept e g k n r), after (shown (length s) q k) x.next x.sources)
  item_kept p (let_rec_of f r) rest after g k n s =
      let l = named (length s) f k in let s1 = s ++ Some f ∷ [] in let x = taken r.place r.parameter (made names r.body) l n s1 in
      (taken_kept r.place r.parameter (made names r.body) g.0 (tree_kept r.body g.1) l n s1, after l (suc x.next) x.sources)

  pub items_kept : (is : List ItemTree) → ItemsHaveFlat IsParameter is → (k : Frame) (n : ℕ) (s : List (Option ℕ)) → ItemsAreFlat (items_made names k n s is).items
  items_kept [] g k n s = tt
  items_kept (i ∷ is) g k n s =
      item_kept i.place i.form (λ l m r. items_made names l m r is) (λ l m r. items_kept is g.1 l m r) g.0 k n s
