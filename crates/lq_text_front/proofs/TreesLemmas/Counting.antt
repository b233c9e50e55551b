-- How many nodes and binders a program gets at most, by what a walk over it meets.
use Rattle.std.proofs.Common.{◌≡◌, ◌≤◌, ℕ, suc, ◌+◌, Bool, true, false, List, [], ◌∷◌, ◌++◌, length, Option, Some, None, arith, length-append}
use Rattle.std.proofs.lemmas.List.{length-map}
use Rattle.lq_base_names.specs.declared.place.Place.{Place}
use Rattle.lq_text_tree.specs.declared.expr.Arguments.{Arguments}
use Rattle.lq_text_tree.specs.declared.expr.Arguments.TheVariants.{Apart, Listed}
use Rattle.lq_text_tree.specs.Items.{ItemTree, ItemForm, type_of, let_of, let_rec_of}
use Rattle.lq_text_tree.specs.Pattern.{Pattern, bound_in}
use Rattle.lq_text_tree.specs.Tree as form
use Rattle.lq_text_tree.specs.Tree.{Tree, tree, Form, Trees, no_trees, more_trees, Cases, no_cases, more_cases}
use Rattle.lq_text_tree.specs.TreeView.{Recursive}
use Rattle.lq_text_walk.specs.Walk.Fold.{fold_all, fold_cases}
use Rattle.lq_text_walk.specs.Walk.Shape as shape
use Rattle.lq_text_walk.specs.Walk.Visits.{Visit, enter_item, leave_item, enter, leave, leave_function, declare, show, hide, show_name, hide_name, is_let, place_of, under, in_function, in_row, in_arms, in_match, visiting, visits_of, visits_of_form, visits_of_item, visits_of_items}
use Rattle.lq_text_scope.specs.Datatypes.{with_constructors}
use Rattle.lq_text_scope.specs.Known.{Arity, arity_in, text_of}
use Rattle.lq_text_resolve.specs.Binding.Binding.{is_tuple, sources_of}
use Rattle.lq_text_resolve.specs.Binding.Heads.{Given, done, lacking, given, primitive_in, primitive_named}
use Rattle.lq_text_resolve.specs.Binding.Making.{Frame, frame_with, part, Value, whole, partly, Made, Making, Items_made, Spread, parts_of, itself, spread, of_spread, of_listed, takes_more, built_of, row_of, with_given, of_primitive, of_use, leaf_made, called, joined_by, is_call, next_before, source_before, start_of, taken, all_made, arms_made, match_made, shown, named, made, making, item_made, items_made}

-- what a node, a pattern and a name that is bound by a definition add at most
abbrev pub cost : Visit → ℕ
cost (enter t) = 1
cost (declare q) = 3 + length (bound_in q)
cost (show_name f) = 1
cost (leave_function r) = 1
cost (leave t) = 0
cost (show q) = 0
cost (hide q) = 0
cost (hide_name f) = 0
cost (enter_item i) = 0
cost (leave_item i) = 0

abbrev pub costs : List Visit → ℕ
costs [] = 0
costs (v ∷ vs) = cost v + costs vs

pub costs-append : (vs ws : List Visit) → costs (vs ++ ws) ≡ costs vs + costs ws
costs-append [] ws = omega arith
costs-append (v ∷ vs) ws = let more = costs-append vs ws in omega (arith, more)

pub costs-under : (q : Pattern) (vs : List Visit) → costs (under q vs) ≡ costs vs
costs-under q vs = let more = costs-append vs (hide q ∷ []) in omega (arith, more)

sources-more : (s : List (Option ℕ)) (xs : List ℕ) → length (s ++ sources_of xs) ≡ length s + length xs
sources-more s xs = let long = length-append s (sources_of xs) in let same = length-map xs (λ (x : ℕ). Some x) in omega (arith, long, same)

abbrev size : Made → ℕ
size m = m.next + length m.sources

-- what is made adds so many nodes and binders at most
abbrev Within : Making → ℕ → Type 0
Within f w = (k : Frame) (n : ℕ) (s : List (Option ℕ)) → size (f k n s) ≤ n + length s + w

-- a node with the visits of its parts
pub around-costs : (t : Tree) (vs : List Visit) → costs (enter t ∷ (vs ++ leave t ∷ [])) ≡ suc (costs vs)
around-costs t vs = let more = costs-append vs (leave t ∷ []) in omega (arith, more)

pub function-costs : (r : Recursive) (vs : List Visit) → costs (in_function r vs) ≡ 3 + length (bound_in r.parameter) + (costs vs + 1)
function-costs r vs = let both = costs-append (under r.parameter vs) (leave_function r ∷ []) in let same = costs-under r.parameter vs in omega (arith, both, same)

pub recursive-costs : (t : Tree) (f : ℕ) (r : Recursive) (vs ws : List Visit)
    → costs (enter t ∷ ((show_name f ∷ (in_function r vs ++ (ws ++ hide_name f ∷ []))) ++ leave t ∷ [])) ≡ 5 + length (bound_in r.parameter) + (costs vs + 1) + costs ws
recursive-costs t f r vs ws =
    let all = around-costs t (show_name f ∷ (in_function r vs ++ (ws ++ hide_name f ∷ []))) in
    let both = costs-append (in_function r vs) (ws ++ hide_name f ∷ []) in let end = costs-append ws (hide_name f ∷ []) in
    let function = function-costs r vs in
    omega (arith, all, both, end, function)

-- ---- single nodes

given-size : (g : Given) (p : Place) (n : ℕ) (s : List (Option ℕ)) → size (with_given g p n s) ≤ suc (n + length s)
given-size (done f) p n s = omega arith
given-size (lacking h) p n s = omega arith

primitive-size : (g : Option Given) (p : Place) (n : ℕ) (s : List (Option ℕ)) → size (of_primitive g p n s) ≤ suc (n + length s)
primitive-size None p n s = omega arith
primitive-size (Some g) p n s = given-size g p n s

use-size : (b : Option ℕ) (g : Option Given) (p : Place) (n : ℕ) (s : List (Option ℕ)) → size (of_use b g p n s) ≤ suc (n + length s)
use-size (Some b) g p n s = omega arith
use-size None g p n s = primitive-size g p n s

called-size : (v : Value) (a : Tree) (p : Place) (n : ℕ) (s : List (Option ℕ)) → size (called v a p n s) ≤ suc (n + length s)
called-size (whole f) a p n s = omega arith
called-size (partly h) a p n s = given-size (given h a) p n s

joined-size : (call : Bool) (h : shape.Two) (v : Value) (b : Tree) (p : Place) (n : ℕ) (s : List (Option ℕ)) → size (joined_by call h v b p n s) ≤ suc (n + length s)
joined-size true h v b p n s = called-size v b p n s
joined-size false h v b p n s = omega arith

spread-size : (p : Place) (c : ℕ) (parts : Spread) (n : ℕ) (s : List (Option ℕ)) → size (of_spread p c parts n s) ≤ suc (n + length s)
spread-size p c (parts_of i us) n s = omega arith
spread-size p c (itself t) n s = omega arith

listed-size : (more : Bool) (p : Place) (c : ℕ) (ts : List Tree) (n : ℕ) (s : List (Option ℕ)) → size (of_listed more p c ts n s) ≤ suc (n + length s)
listed-size true p c (t ∷ []) n s = spread-size p c (spread t) n s
listed-size true p c [] n s = omega arith
listed-size true p c (t ∷ (u ∷ ts)) n s = omega arith
listed-size false p c ts n s = omega arith

built-size : (w : Arguments) (wanted : Option ℕ) (p : Place) (c : ℕ) (ts : List Tree) (n : ℕ) (s : List (Option ℕ)) → size (built_of w wanted p c ts n s) ≤ suc (n + length s)
built-size Apart wanted p c ts n s = omega arith
built-size Listed wanted p c ts n s = listed-size (takes_more wanted) p c ts n s

row-size : (h : shape.Row) (cs : List Arity) (ts : List Tree) (p : Place) (n : ℕ) (s : List (Option ℕ)) → size (row_of h cs ts p n s) ≤ suc (n + length s)
row-size shape.tuple cs ts p n s = omega arith
row-size (shape.build c w) cs ts p n s = built-size w (arity_in cs c) p c ts n s
row-size shape.list_of cs ts p n s = omega arith
row-size shape.chain cs ts p n s = omega arith

next-size : (t : Bool) (n : ℕ) → next_before t n ≤ suc n
next-size true n = omega arith
next-size false n = omega arith

before-size : (t : Bool) (s : List (Option ℕ)) → length (source_before t s) ≤ suc (length s)
before-size true s = let long = length-append s (None ∷ []) in omega (arith, long)
before-size false s = omega arith

-- ---- parameters, rows and arms

pub taken-size : (p : Place) (q : Pattern) (b : Making) (w : ℕ) → Within b w → (k : Frame) (n : ℕ) (s : List (Option ℕ))
    → (taken p q b k n s).next + length (taken p q b k n s).sources ≤ n + length s + (3 + length (bound_in q) + w)
taken-size p q b w within k n s =
    let t = is_tuple q in let start = start_of q s in let m = next_before t n in let r = source_before t s ++ sources_of (bound_in q) in
    let inside = within (shown start q k) m r in
    let first = next-size t n in let second = before-size t s in let long = sources-more (source_before t s) (bound_in q) in
    let last = next-size t (b (shown start q k) m r).next in
    omega (arith, inside, first, second, long, last)

module _ (names : List (List ℕ)) where
  abbrev Counted : Tree → Type 0
  Counted t = Within (made names t) (costs (visits_of t))

  abbrev AllCounted : Trees → Type 0
  AllCounted es =
      (p : Place) (k : Frame) (n : ℕ) (s : List (Option ℕ))
      → (all_made p (fold_all (making names) es) k n s).next + length (all_made p (fold_all (making names) es) k n s).sources
      ≤ n + length s + costs (in_row (fold_all visiting es))

  abbrev ArmsCounted : Cases → Type 0
  ArmsCounted cs =
      (p : Place) (k : Frame) (n : ℕ) (s : List (Option ℕ))
      → (arms_made p (fold_cases (making names) cs) k n s).next + length (arms_made p (fold_cases (making names) cs) k n s).sources
      ≤ n + length s + costs (in_arms (fold_cases visiting cs))

  abbrev Bodies : Cases → Type 0
  Bodies no_cases = Unit {0}
  Bodies (more_cases q b cs) = Counted b × Bodies cs

  leaf-counted : (p : Place) (h : shape.Leaf) → Within (leaf_made names p h) 1
  leaf-counted p (shape.use_of x) k n s = let one = use-size (arity_in k.variables x) (primitive_named (text_of names x)) p n s in omega (arith, one)
  leaf-counted p (shape.qualified m x) k n s = let one = primitive-size (primitive_in (text_of names m) (text_of names x)) p n s in omega (arith, one)
  leaf-counted p (shape.whole m) k n s = omega arith
  leaf-counted p (shape.flag b) k n s = omega arith
  leaf-counted p shape.unit k n s = omega arith
  leaf-counted p shape.assert_false k n s = omega arith
  leaf-counted p shape.map_empty k n s = omega arith

  one-counted : (t : Tree) (h : shape.One) (a : Tree) → Counted a → Within ((making names).one t h (made names a)) (costs (visiting.one t h (visits_of a)))
  one-counted t h a first k n s = let x = first k n s in let all = around-costs t (visits_of a) in omega (arith, x, all)

  two-counted : (t : Tree) (h : shape.Two) (a b : Tree) → Counted a → Counted b
      → Within ((making names).two t h (made names a) (made names b)) (costs (visiting.two t h (visits_of a) (visits_of b)))
  two-counted t h a b first second k n s =
      let x = made names a k n s in let y = made names b k x.next x.sources in
      let fx = first k n s in let fy = second k x.next x.sources in
      let last = joined-size (is_call h) h x.value (part (place_of t) y.value) (place_of t) y.next y.sources in
      let all = around-costs t (visits_of a ++ visits_of b) in let both = costs-append (visits_of a) (visits_of b) in
      omega (arith, fx, fy, last, all, both)

  three-counted : (t : Tree) (h : shape.Three) (a b c : Tree) → Counted a → Counted b → Counted c
      → Within ((making names).three t h (made names a) (made names b) (made names c)) (costs (visiting.three t h (visits_of a) (visits_of b) (visits_of c)))
  three-counted t h a b c first second third k n s =
      let x = made names a k n s in let y = made names b k x.next x.sources in
      let fx = first k n s in let fy = second k x.next x.sources in let fz = third k y.next y.sources in
      let all = around-costs t (visits_of a ++ (visits_of b ++ visits_of c)) in
      let both = costs-append (visits_of a) (visits_of b ++ visits_of c) in let rest = costs-append (visits_of b) (visits_of c) in
      omega (arith, fx, fy, fz, all, both, rest)

  row-counted : (t : Tree) (h : shape.Row) (es : Trees) → AllCounted es
      → Within ((making names).row t h (fold_all (making names) es)) (costs (visiting.row t h (fold_all visiting es)))
  row-counted t h es parts k n s =
      let p = place_of t in
      let x = all_made p (fold_all (making names) es) k n s in
      let fx = parts p k n s in let last = row-size h k.constructors x.trees p x.next x.sources in
      let all = around-costs t (in_row (fold_all visiting es)) in
      omega (arith, fx, last, all)

  function-counted : (t : Tree) (q : Pattern) (b : Tree) → Counted b → Within ((making names).function t q (made names b)) (costs (visiting.function t q (visits_of b)))
  function-counted t q b inside k n s =
      let x = taken-size (place_of t) q (made names b) (costs (visits_of b)) inside k n s in
      let all = around-costs t (declare q ∷ under q (visits_of b)) in let same = costs-under q (visits_of b) in
      omega (arith, x, all, same)

  let-counted : (t : Tree) (q : Pattern) (e b : Tree) → Counted e → Counted b
      → Within ((making names).let_in t q (made names e) (made names b)) (costs (visiting.let_in t q (visits_of e) (visits_of b)))
  let-counted t q e b first second k n s =
      let r = s ++ sources_of (bound_in q) in
      let x = made names e k n r in
      let fx = first k n r in let fy = second (shown (length s) q k) x.next x.sources in let long = sources-more s (bound_in q) in
      let all = around-costs t (declare q ∷ (visits_of e ++ under q (visits_of b))) in
      let both = costs-append (visits_of e) (under q (visits_of b)) in let same = costs-under q (visits_of b) in
      omega (arith, fx, fy, long, all, both, same)

  recursive-counted : (t : Tree) (f i : ℕ) (r : Place) (q : Pattern) (e b : Tree) → Counted e → Counted b
      → Within ((making names).let_rec t f i r q (made names e) (made names b)) (5 + length (bound_in q) + (costs (visits_of e) + 1) + costs (visits_of b))
  recursive-counted t f i r q e b first second k n s =
      let l = named (length s) f k in let s1 = s ++ Some f ∷ [] in
      let x = taken r q (made names e) l n s1 in
      let fx = taken-size r q (made names e) (costs (visits_of e)) first l n s1 in let fy = second l (suc x.next) x.sources in
      let long = length-append s (Some f ∷ []) in
      omega (arith, fx, fy, long)

  arms-counted : (cs : Cases) → Bodies cs → ArmsCounted cs
  arms-counted no_cases gs p k n s = omega arith
  arms-counted (more_cases q b cs) gs p k n s =
      let r = s ++ sources_of (bound_in q) in let x = made names b (shown (length s) q k) n r in
      let fx = gs.0 (shown (length s) q k) n r in let fr = arms-counted cs gs.1 p k x.next x.sources in let long = sources-more s (bound_in q) in
      let both = costs-append (under q (visits_of b)) (in_arms (fold_cases visiting cs)) in let same = costs-under q (visits_of b) in
      omega (arith, fx, fr, long, both, same)

  match-inside : (first : Bool) (p : Place) (e : Tree) (cs : Cases) → Counted e → Bodies cs
      → Within (match_made first p (made names e) (fold_cases (making names) cs)) (suc (costs (in_match first (visits_of e) (fold_cases visiting cs))))
  match-inside false p e cs g gs k n s =
      let x = made names e k n s in let fx = g k n s in let fr = arms-counted cs gs p k x.next x.sources in
      let both = costs-append (visits_of e) (in_arms (fold_cases visiting cs)) in
      omega (arith, fx, fr, both)
  match-inside true p e no_cases g gs k n s = let fx = g k n s in let both = costs-append (visits_of e) [] in omega (arith, fx, both)
  match-inside true p e (more_cases q b cs) g gs k n s =
      let r = s ++ sources_of (bound_in q) in let x = made names e k n r in
      let y = made names b (shown (length s) q k) x.next x.sources in
      let fx = g k n r in let fy = gs.0 (shown (length s) q k) x.next x.sources in let fr = arms-counted cs gs.1 p k y.next y.sources in
      let long = sources-more s (bound_in q) in
      let both = costs-append (visits_of e) (under q (visits_of b) ++ in_arms (fold_cases visiting cs)) in
      let rest = costs-append (under q (visits_of b)) (in_arms (fold_cases visiting cs)) in let same = costs-under q (visits_of b) in
      omega (arith, fx, fy, fr, long, both, rest, same)

  match-counted : (i : ℕ) (p : Place) (e : Tree) (cs : Cases) → Counted e → Bodies cs → Counted (tree i p (form.match_on e cs))
  match-counted i p e cs g gs k n s =
      let t = tree i p (form.match_on e cs) in
      let x = match-inside (is_let t) p e cs g gs k n s in let all = around-costs t (in_match (is_let t) (visits_of e) (fold_cases visiting cs)) in
      omega (arith, x, all)

  mutual
    pub tree-counted : (t : Tree) → Counted t
    tree-counted (tree i p f) = form-counted i p f

    form-counted : (i : ℕ) (p : Place) (f : Form) → Counted (tree i p f)
    form-counted i p (form.whole m) = leaf-counted p (shape.whole m)
    form-counted i p (form.flag b) = leaf-counted p (shape.flag b)
    form-counted i p form.unit = leaf-counted p shape.unit
    form-counted i p (form.use_of x) = leaf-counted p (shape.use_of x)
    form-counted i p (form.qualified m x) = leaf-counted p (shape.qualified m x)
    form-counted i p form.assert_false = leaf-counted p shape.assert_false
    form-counted i p form.map_empty = leaf-counted p shape.map_empty
    form-counted i p (form.negated a) = one-counted (tree i p (form.negated a)) shape.negated a (tree-counted a)
    form-counted i p (form.not_of a) = one-counted (tree i p (form.not_of a)) shape.not_of a (tree-counted a)
    form-counted i p (form.assert a) = one-counted (tree i p (form.assert a)) shape.assert a (tree-counted a)
    form-counted i p (form.length_of a) = one-counted (tree i p (form.length_of a)) shape.length_of a (tree-counted a)
    form-counted i p (form.print a) = one-counted (tree i p (form.print a)) shape.print a (tree-counted a)
    form-counted i p (form.read a) = one-counted (tree i p (form.read a)) shape.read a (tree-counted a)
    form-counted i p (form.call a b) = two-counted (tree i p (form.call a b)) shape.call a b (tree-counted a) (tree-counted b)
    form-counted i p (form.arithmetic o a b) = two-counted (tree i p (form.arithmetic o a b)) (shape.arithmetic o) a b (tree-counted a) (tree-counted b)
    form-counted i p (form.compare o a b) = two-counted (tree i p (form.compare o a b)) (shape.compare o) a b (tree-counted a) (tree-counted b)
    form-counted i p (form.and_of a b) = two-counted (tree i p (form.and_of a b)) shape.and_of a b (tree-counted a) (tree-counted b)
    form-counted i p (form.or_of a b) = two-counted (tree i p (form.or_of a b)) shape.or_of a b (tree-counted a) (tree-counted b)
    form-counted i p (form.make a b) = two-counted (tree i p (form.make a b)) shape.make a b (tree-counted a) (tree-counted b)
    form-counted i p (form.fetch a b) = two-counted (tree i p (form.fetch a b)) shape.fetch a b (tree-counted a) (tree-counted b)
    form-counted i p (form.map_find a b) = two-counted (tree i p (form.map_find a b)) shape.map_find a b (tree-counted a) (tree-counted b)
    form-counted i p (form.if_else a b c) = three-counted (tree i p (form.if_else a b c)) shape.if_else a b c (tree-counted a) (tree-counted b) (tree-counted c)
    form-counted i p (form.store a b c) = three-counted (tree i p (form.store a b c)) shape.store a b c (tree-counted a) (tree-counted b) (tree-counted c)
    form-counted i p (form.map_add a b c) = three-counted (tree i p (form.map_add a b c)) shape.map_add a b c (tree-counted a) (tree-counted b) (tree-counted c)
    form-counted i p (form.tuple es) = row-counted (tree i p (form.tuple es)) shape.tuple es (all-counted es)
    form-counted i p (form.build c w es) = row-counted (tree i p (form.build c w es)) (shape.build c w) es (all-counted es)
    form-counted i p (form.list_of es) = row-counted (tree i p (form.list_of es)) shape.list_of es (all-counted es)
    form-counted i p (form.chain es) = row-counted (tree i p (form.chain es)) shape.chain es (all-counted es)
    form-counted i p (form.fun q b) = function-counted (tree i p (form.fun q b)) q b (tree-counted b)
    form-counted i p (form.let_in q e b) = let-counted (tree i p (form.let_in q e b)) q e b (tree-counted e) (tree-counted b)
    form-counted i p (form.let_rec f j r q e b) = λ k n s.
        let t = tree i p (form.let_rec f j r q e b) in
        let x = recursive-counted t f j r q e b (tree-counted e) (tree-counted b) k n s in
        let all = recursive-costs t f (record { id = j; place = r; parameter = q; body = e }) (visits_of e) (visits_of b) in
        omega (arith, x, all)
    form-counted i p (form.match_on e cs) = match-counted i p e cs (tree-counted e) (bodies-counted cs)

    all-counted : (es : Trees) → AllCounted es
    all-counted no_trees = λ p k n s. omega arith
    all-counted (more_trees e es) = λ p k n s.
        let x = made names e k n s in
        let fx = tree-counted e k n s in let fr = all-counted es p k x.next x.sources in
        let both = costs-append (visits_of e) (in_row (fold_all visiting es)) in
        omega (arith, fx, fr, both)

    bodies-counted : (cs : Cases) → Bodies cs
    bodies-counted no_cases = tt
    bodies-counted (more_cases q b cs) = (tree-counted b, bodies-counted cs)

  -- ---- items

  abbrev items-size : Items_made → ℕ
  items-size x = x.next + length x.sources

  item-counted : (p : Place) (f : ItemForm) (w : ℕ) (rest : Frame → ℕ → List (Option ℕ) → Items_made)
      → ((k : Frame) (n : ℕ) (s : List (Option ℕ)) → items-size (rest k n s) ≤ n + length s + w)
      → (k : Frame) (n : ℕ) (s : List (Option ℕ)) → items-size (item_made names p f k n s rest) ≤ n + length s + (costs (visits_of_form f) + w)
  item-counted p (type_of d) w rest after k n s = let x = after (frame_with k.variables (with_constructors k.constructors d.constructors)) n s in omega (arith, x)
  item-counted p (let_of q e) w rest after k n s =
      let r = s ++ sources_of (bound_in q) in let x = made names e k n r in
      let fx = tree-counted e k n r in let fr = after (shown (length s) q k) x.next x.sources in let long = sources-more s (bound_in q) in
      let both = costs-append (visits_of e) (show q ∷ []) in
      omega (arith, fx, fr, long, both)
  item-counted p (let_rec_of f r) w rest after k n s =
      let l = named (length s) f k in let s1 = s ++ Some f ∷ [] in
      let x = taken r.place r.parameter (made names r.body) l n s1 in
      let fx = taken-size r.place r.parameter (made names r.body) (costs (visits_of r.body)) (tree-counted r.body) l n s1 in
      let fr = after l (suc x.next) x.sources in let long = length-append s (Some f ∷ []) in
      let function = function-costs r (visits_of r.body) in
      omega (arith, fx, fr, long, function)

  pub items-counted : (is : List ItemTree) (k : Frame) (n : ℕ) (s : List (Option ℕ)) → items-size (items_made names k n s is) ≤ n + length s + costs (visits_of_items is)
  items-counted [] k n s = omega arith
  items-counted (i ∷ is) k n s =
      let x = item-counted i.place i.form (costs (visits_of_items is)) (λ l m r. items_made names l m r is) (λ l m r. items-counted is l m r) k n s in
      let both = costs-append (visits_of_item i) (visits_of_items is) in let end = costs-append (visits_of_form i.form) (leave_item i ∷ []) in
      omega (arith, x, both, end)
