-- What a program becomes weighs no more than what a walk over it costs.
use Rattle.std.proofs.Common.{◌≡◌, ◌≤◌, ℕ, suc, ◌+◌, Bool, true, false, if◌then◌else◌, List, [], ◌∷◌, ◌++◌, length, Option, Some, None, arith}
use Rattle.std.specs.Prelude.{codes}
use Rattle.std.specs.Str.{bytes_eq}
use Rattle.lq_base_names.specs.declared.place.Place.{Place}
use Rattle.lq_text_tree.specs.declared.expr.Arguments.{Arguments}
use Rattle.lq_text_tree.specs.declared.expr.Arguments.TheVariants.{Apart, Listed}
use Rattle.lq_text_tree.specs.Items.{ItemTree, ItemForm, type_of, let_of, let_rec_of}
use Rattle.lq_text_tree.specs.Pattern.{Pattern, pattern, PatternForm, any, bind, nothing, tuple_of, build_of, Patterns, no_patterns, more_patterns, bound_in}
use Rattle.lq_text_tree.specs.Tree as form
use Rattle.lq_text_tree.specs.Tree.{Tree, tree, Form, Trees, no_trees, more_trees, Cases, no_cases, more_cases}
use Rattle.lq_text_tree.specs.TreeView.{trees_of}
use Rattle.lq_text_walk.specs.Walk.Fold.{fold_all, fold_cases}
use Rattle.lq_text_walk.specs.Walk.Shape as shape
use Rattle.lq_text_walk.specs.Walk.Visits.{leave_item, declare, show, is_let, place_of, under, in_row, in_arms, in_match, visiting, visits_of, visits_of_form, visits_of_item, visits_of_items}
use Rattle.lq_text_scope.specs.Datatypes.{with_constructors}
use Rattle.lq_text_scope.specs.Known.{Arity, arity_in, text_of}
use Rattle.lq_text_resolve.specs.Binding.Binding.{is_tuple, numbered, numbered_form, numbered_all, sources_of}
use Rattle.lq_text_resolve.specs.Binding.Heads as head
use Rattle.lq_text_resolve.specs.Binding.Heads.{Head, Given, done, lacking, given, array_primitive, map_primitive, primitive_in, primitive_named}
use Rattle.lq_text_resolve.specs.Binding.Making.{Frame, frame_with, part, Value, whole, partly, Making, Items_made, Spread, parts_of, itself, spread, of_spread, of_listed, takes_more, built_of, row_of, with_given, of_primitive, of_use, called, one_form, two_form, three_form, is_call, joined_by, shown, named, taken_pattern, taken_body, matched, start_of, next_before, source_before, taken, all_made, arms_made, match_made, leaf_made, making, made, item_made, items_made}
use Rattle.lq_sound_scope.proofs.NameCountsLemmas.Costs.{costs, costs-append, costs-under, function-costs, recursive-costs, around-costs}
use Rattle.lq_sound_scope.proofs.NameCountsLemmas.Weights.{blanks, blanks_form, blanks_all, weight, weight_all, weight_cases, weight_items}

-- ---- patterns

mutual
  numbered-blanks : (q : Pattern) (n : ℕ) → blanks (numbered n q) ≡ blanks q
  numbered-blanks (pattern p f) n = form-blanks f n

  form-blanks : (f : PatternForm) (n : ℕ) → blanks_form (numbered_form n f) ≡ blanks_form f
  form-blanks any n = omega arith
  form-blanks (bind x) n = omega arith
  form-blanks nothing n = omega arith
  form-blanks (tuple_of qs) n = all-blanks qs n
  form-blanks (build_of c o qs) n = all-blanks qs n

  all-blanks : (qs : Patterns) (n : ℕ) → blanks_all (numbered_all n qs) ≡ blanks_all qs
  all-blanks no_patterns n = omega arith
  all-blanks (more_patterns q qs) n =
      let first = numbered-blanks q n in let rest = all-blanks qs (n + length (bound_in q)) in omega (arith, first, rest)

-- ---- values

-- a primitive, with the arguments that it has
abbrev head_weight : Head → ℕ
head_weight head.read = 2
head_weight head.print = 2
head_weight head.length_of = 2
head_weight head.make = 2
head_weight (head.make_of a) = 2 + weight a
head_weight head.find = 2
head_weight (head.find_of a) = 2 + weight a
head_weight head.add = 2
head_weight (head.add_of a) = 2 + weight a
head_weight (head.add_to a b) = 2 + (weight a + weight b)

abbrev value_weight : Value → ℕ
value_weight (whole t) = weight t
value_weight (partly h) = head_weight h

head-some : (h : Head) → 2 ≤ head_weight h
head-some head.read = omega arith
head-some head.print = omega arith
head-some head.length_of = omega arith
head-some head.make = omega arith
head-some (head.make_of a) = omega arith
head-some head.find = omega arith
head-some (head.find_of a) = omega arith
head-some head.add = omega arith
head-some (head.add_of a) = omega arith
head-some (head.add_to a b) = omega arith

part-weight : (p : Place) (v : Value) → weight (part p v) ≤ value_weight v
part-weight p (whole t) = omega arith
part-weight p (partly h) = head-some h

given-weight : (h : Head) (a : Tree) (p : Place) (n : ℕ) (s : List (Option ℕ)) → value_weight (with_given (given h a) p n s).value
    ≤ head_weight h + weight a
given-weight head.read a p n s = omega arith
given-weight head.print a p n s = omega arith
given-weight head.length_of a p n s = omega arith
given-weight head.make a p n s = omega arith
given-weight (head.make_of b) a p n s = omega arith
given-weight head.find a p n s = omega arith
given-weight (head.find_of b) a p n s = omega arith
given-weight head.add a p n s = omega arith
given-weight (head.add_of b) a p n s = omega arith
given-weight (head.add_to b c) a p n s = omega arith

-- ---- leaves

-- a primitive without arguments
abbrev IsLight : Option Given → Type 0
IsLight None = Unit {0}
IsLight (Some g) = (p : Place) (n : ℕ) (s : List (Option ℕ)) → value_weight (with_given g p n s).value ≤ 2

light-if : (b : Bool) (x y : Option Given) → IsLight x → IsLight y → IsLight (if b then x else y)
light-if true x y first second = first
light-if false x y first second = second

named-light : (text : List ℕ) → IsLight (primitive_named text)
named-light text =
    light-if (bytes_eq text (codes "read_int")) (Some (lacking head.read))
    (if bytes_eq text (codes "print_int") then Some (lacking head.print) else None) (λ p n s. omega arith)
    (light-if (bytes_eq text (codes "print_int")) (Some (lacking head.print)) None (λ p n s. omega arith) tt)

array-light : (text : List ℕ) → IsLight (array_primitive text)
array-light text =
    light-if (bytes_eq text (codes "make")) (Some (lacking head.make))
    (if bytes_eq text (codes "length") then Some (lacking head.length_of) else None) (λ p n s. omega arith)
    (light-if (bytes_eq text (codes "length")) (Some (lacking head.length_of)) None (λ p n s. omega arith) tt)

map-light : (text : List ℕ) → IsLight (map_primitive text)
map-light text =
    light-if (bytes_eq text (codes "empty")) (Some (done form.map_empty))
    (if bytes_eq text (codes "add") then Some (lacking head.add) else if bytes_eq text (codes "find") then Some (lacking head.find) else None)
    (λ p n s. omega arith)
    (light-if (bytes_eq text (codes "add")) (Some (lacking head.add)) (if bytes_eq text (codes "find") then Some (lacking head.find) else None)
    (λ p n s. omega arith) (light-if (bytes_eq text (codes "find")) (Some (lacking head.find)) None (λ p n s. omega arith) tt))

in-light : (front text : List ℕ) → IsLight (primitive_in front text)
in-light front text =
    light-if (bytes_eq front (codes "Array")) (array_primitive text) (if bytes_eq front (codes "Map") then map_primitive text else None)
    (array-light text) (light-if (bytes_eq front (codes "Map")) (map_primitive text) None (map-light text) tt)

primitive-weight : (g : Option Given) → IsLight g → (p : Place) (n : ℕ) (s : List (Option ℕ)) → value_weight (of_primitive g p n s).value ≤ 2
primitive-weight None light p n s = omega arith
primitive-weight (Some g) light p n s = light p n s

use-weight : (b : Option ℕ) (g : Option Given) → IsLight g → (p : Place) (n : ℕ) (s : List (Option ℕ)) → value_weight (of_use b g p n s).value ≤ 2
use-weight (Some b) g light p n s = omega arith
use-weight None g light p n s = primitive-weight g light p n s

-- ---- nodes

one-weight : (h : shape.One) (a : Tree) (n : ℕ) (p : Place) → weight (tree n p (one_form h a)) ≡ 2 + weight a
one-weight shape.negated a n p = omega arith
one-weight shape.not_of a n p = omega arith
one-weight shape.assert a n p = omega arith
one-weight shape.length_of a n p = omega arith
one-weight shape.print a n p = omega arith
one-weight shape.read a n p = omega arith

two-weight : (h : shape.Two) (a b : Tree) (n : ℕ) (p : Place) → weight (tree n p (two_form h a b)) ≡ 2 + (weight a + weight b)
two-weight shape.call a b n p = omega arith
two-weight (shape.arithmetic o) a b n p = omega arith
two-weight (shape.compare o) a b n p = omega arith
two-weight shape.and_of a b n p = omega arith
two-weight shape.or_of a b n p = omega arith
two-weight shape.make a b n p = omega arith
two-weight shape.fetch a b n p = omega arith
two-weight shape.map_find a b n p = omega arith

three-weight : (h : shape.Three) (a b c : Tree) (n : ℕ) (p : Place) → weight (tree n p (three_form h a b c)) ≡ 2 + (weight a + (weight b + weight c))
three-weight shape.if_else a b c n p = omega arith
three-weight shape.store a b c n p = omega arith
three-weight shape.map_add a b c n p = omega arith

called-weight : (v : Value) (a : Tree) (p : Place) (n : ℕ) (s : List (Option ℕ)) → value_weight (called v a p n s).value
    ≤ 2 + (value_weight v + weight a)
called-weight (whole f) a p n s = omega arith
called-weight (partly h) a p n s = let one = given-weight h a p n s in omega (arith, one)

joined-weight : (call : Bool) (h : shape.Two) (v : Value) (b : Tree) (p : Place) (n : ℕ) (s : List (Option ℕ))
    → value_weight (joined_by call h v b p n s).value ≤ 2 + (value_weight v + weight b)
joined-weight true h v b p n s = called-weight v b p n s
joined-weight false h v b p n s = let all = two-weight h (part p v) b n p in let first = part-weight p v in omega (arith, all, first)

abbrev spread_weight : Spread → ℕ
spread_weight (parts_of i us) = 2 + weight_all us
spread_weight (itself t) = weight t

spread-weight : (t : Tree) → spread_weight (spread t) ≤ weight t
spread-weight (tree i q (form.whole m)) = omega arith
spread-weight (tree i q (form.flag b)) = omega arith
spread-weight (tree i q form.unit) = omega arith
spread-weight (tree i q (form.use_of x)) = omega arith
spread-weight (tree i q (form.qualified m x)) = omega arith
spread-weight (tree i q (form.fun r b)) = omega arith
spread-weight (tree i q (form.tuple us)) = omega arith
spread-weight (tree i q (form.build c w us)) = omega arith
spread-weight (tree i q (form.list_of us)) = omega arith
spread-weight (tree i q (form.let_in r e b)) = omega arith
spread-weight (tree i q (form.let_rec f j l r b e)) = omega arith
spread-weight (tree i q (form.call a b)) = omega arith
spread-weight (tree i q (form.arithmetic o a b)) = omega arith
spread-weight (tree i q (form.negated e)) = omega arith
spread-weight (tree i q (form.compare o a b)) = omega arith
spread-weight (tree i q (form.not_of e)) = omega arith
spread-weight (tree i q (form.and_of a b)) = omega arith
spread-weight (tree i q (form.or_of a b)) = omega arith
spread-weight (tree i q (form.if_else c a b)) = omega arith
spread-weight (tree i q (form.match_on e cs)) = omega arith
spread-weight (tree i q (form.chain us)) = omega arith
spread-weight (tree i q (form.assert e)) = omega arith
spread-weight (tree i q form.assert_false) = omega arith
spread-weight (tree i q (form.make a b)) = omega arith
spread-weight (tree i q (form.length_of e)) = omega arith
spread-weight (tree i q (form.fetch a b)) = omega arith
spread-weight (tree i q (form.store a b c)) = omega arith
spread-weight (tree i q (form.print e)) = omega arith
spread-weight (tree i q (form.read e)) = omega arith
spread-weight (tree i q form.map_empty) = omega arith
spread-weight (tree i q (form.map_add a b c)) = omega arith
spread-weight (tree i q (form.map_find a b)) = omega arith

of-spread-weight : (p : Place) (c : ℕ) (x : Spread) (n : ℕ) (s : List (Option ℕ)) → value_weight (of_spread p c x n s).value ≤ 2 + spread_weight x
of-spread-weight p c (parts_of i us) n s = omega arith
of-spread-weight p c (itself t) n s = omega arith

listed-weight : (more : Bool) (p : Place) (c : ℕ) (ts : List Tree) (n : ℕ) (s : List (Option ℕ))
    → value_weight (of_listed more p c ts n s).value ≤ 2 + weight_all (trees_of ts)
listed-weight true p c (t ∷ []) n s = let all = of-spread-weight p c (spread t) n s in let own = spread-weight t in omega (arith, all, own)
listed-weight true p c [] n s = omega arith
listed-weight true p c (t ∷ (u ∷ ts)) n s = omega arith
listed-weight false p c ts n s = omega arith

built-weight : (w : Arguments) (wanted : Option ℕ) (p : Place) (c : ℕ) (ts : List Tree) (n : ℕ) (s : List (Option ℕ))
    → value_weight (built_of w wanted p c ts n s).value ≤ 2 + weight_all (trees_of ts)
built-weight Apart wanted p c ts n s = omega arith
built-weight Listed wanted p c ts n s = listed-weight (takes_more wanted) p c ts n s

row-weight : (h : shape.Row) (cs : List Arity) (ts : List Tree) (p : Place) (n : ℕ) (s : List (Option ℕ))
    → value_weight (row_of h cs ts p n s).value ≤ 2 + weight_all (trees_of ts)
row-weight shape.tuple cs ts p n s = omega arith
row-weight (shape.build c w) cs ts p n s = built-weight w (arity_in cs c) p c ts n s
row-weight shape.list_of cs ts p n s = omega arith
row-weight shape.chain cs ts p n s = omega arith

-- ---- parameters, rows and arms

-- what is made weighs so much at most
abbrev Within : Making → ℕ → Type 0
Within f w = (k : Frame) (n : ℕ) (s : List (Option ℕ)) → value_weight (f k n s).value ≤ w

by-tuple : (t : Bool) (start : ℕ) (q : Pattern) (e b : Tree) (n : ℕ) → weight e ≡ 2
    → blanks (taken_pattern t start q) + weight (taken_body t start q e b n) ≤ 4 + (blanks q + weight b)
by-tuple true start q e b n is = let same = numbered-blanks q start in omega (arith, same, is)
by-tuple false start q e b n is = let same = numbered-blanks q start in omega (arith, same)

taken-weight : (p : Place) (q : Pattern) (b : Making) (w : ℕ) → Within b w → (k : Frame) (n : ℕ) (s : List (Option ℕ))
    → let x = taken p q b k n s in blanks x.parameter + weight x.body ≤ 4 + (blanks q + w)
taken-weight p q b w within k n s =
    let t = is_tuple q in let start = start_of q s in let r = source_before t s ++ sources_of (bound_in q) in
    let body = b (shown start q k) (next_before t n) r in
    let own = by-tuple t start q (matched (length s) q n) (part p body.value) body.next (omega arith) in
    let inside = within (shown start q k) (next_before t n) r in let only = part-weight p body.value in
    omega (arith, own, inside, only)

module _ (names : List (List ℕ)) where
  abbrev Counted : Tree → Type 0
  Counted t = Within (made names t) (costs (visits_of t))

  abbrev AllCounted : Trees → Type 0
  AllCounted es = (p : Place) (k : Frame) (n : ℕ) (s : List (Option ℕ))
      → weight_all (trees_of (all_made p (fold_all (making names) es) k n s).trees) ≤ costs (in_row (fold_all visiting es))

  abbrev ArmsCounted : Cases → Type 0
  ArmsCounted cs = (p : Place) (k : Frame) (n : ℕ) (s : List (Option ℕ))
      → weight_cases (arms_made p (fold_cases (making names) cs) k n s).cases ≤ costs (in_arms (fold_cases visiting cs))

  abbrev Bodies : Cases → Type 0
  Bodies no_cases = Unit {0}
  Bodies (more_cases q b cs) = Counted b × Bodies cs

  leaf-counted : (p : Place) (h : shape.Leaf) → Within (leaf_made names p h) 2
  leaf-counted p (shape.use_of x) k n s = use-weight (arity_in k.variables x) (primitive_named (text_of names x)) (named-light (text_of names x)) p n s
  leaf-counted p (shape.qualified m x) k n s =
      primitive-weight (primitive_in (text_of names m) (text_of names x)) (in-light (text_of names m) (text_of names x)) p n s
  leaf-counted p (shape.whole m) k n s = omega arith
  leaf-counted p (shape.flag b) k n s = omega arith
  leaf-counted p shape.unit k n s = omega arith
  leaf-counted p shape.assert_false k n s = omega arith
  leaf-counted p shape.map_empty k n s = omega arith

  one-counted : (t : Tree) (h : shape.One) (a : Tree) → Counted a
      → Within ((making names).one t h (made names a)) (costs (visiting.one t h (visits_of a)))
  one-counted t h a first k n s =
      let p = place_of t in let x = made names a k n s in
      let fx = first k n s in let px = part-weight p x.value in let node = one-weight h (part p x.value) x.next p in
      let all = around-costs t (visits_of a) in
      omega (arith, fx, px, node, all)

  two-counted : (t : Tree) (h : shape.Two) (a b : Tree) → Counted a → Counted b
      → Within ((making names).two t h (made names a) (made names b)) (costs (visiting.two t h (visits_of a) (visits_of b)))
  two-counted t h a b first second k n s =
      let p = place_of t in let x = made names a k n s in let y = made names b k x.next x.sources in
      let fx = first k n s in let fy = second k x.next x.sources in let py = part-weight p y.value in
      let last = joined-weight (is_call h) h x.value (part p y.value) p y.next y.sources in
      let all = around-costs t (visits_of a ++ visits_of b) in let both = costs-append (visits_of a) (visits_of b) in
      omega (arith, fx, fy, py, last, all, both)

  three-counted : (t : Tree) (h : shape.Three) (a b c : Tree) → Counted a → Counted b → Counted c
      → Within ((making names).three t h (made names a) (made names b) (made names c)) (costs (visiting.three t h (visits_of a) (visits_of b) (visits_of c)))
  three-counted t h a b c first second third k n s =
      let p = place_of t in
      let x = made names a k n s in let y = made names b k x.next x.sources in let z = made names c k y.next y.sources in
      let fx = first k n s in let fy = second k x.next x.sources in let fz = third k y.next y.sources in
      let px = part-weight p x.value in let py = part-weight p y.value in let pz = part-weight p z.value in
      let node = three-weight h (part p x.value) (part p y.value) (part p z.value) z.next p in
      let all = around-costs t (visits_of a ++ (visits_of b ++ visits_of c)) in
      let both = costs-append (visits_of a) (visits_of b ++ visits_of c) in let rest = costs-append (visits_of b) (visits_of c) in
      omega (arith, fx, fy, fz, px, py, pz, node, all, both, rest)

  row-counted : (t : Tree) (h : shape.Row) (es : Trees) → AllCounted es
      → Within ((making names).row t h (fold_all (making names) es)) (costs (visiting.row t h (fold_all visiting es)))
  row-counted t h es parts k n s =
      let p = place_of t in
      let x = all_made p (fold_all (making names) es) k n s in
      let fx = parts p k n s in let last = row-weight h k.constructors x.trees p x.next x.sources in
      let all = around-costs t (in_row (fold_all visiting es)) in
      omega (arith, fx, last, all)

  function-counted : (t : Tree) (q : Pattern) (b : Tree) → Counted b
      → Within ((making names).function t q (made names b)) (costs (visiting.function t q (visits_of b)))
  function-counted t q b inside k n s =
      let x = taken-weight (place_of t) q (made names b) (costs (visits_of b)) inside k n s in
      let all = around-costs t (declare q ∷ under q (visits_of b)) in let same = costs-under q (visits_of b) in
      omega (arith, x, all, same)

  let-counted : (t : Tree) (q : Pattern) (e b : Tree) → Counted e → Counted b
      → Within ((making names).let_in t q (made names e) (made names b)) (costs (visiting.let_in t q (visits_of e) (visits_of b)))
  let-counted t q e b first second k n s =
      let p = place_of t in let r = s ++ sources_of (bound_in q) in
      let x = made names e k n r in let y = made names b (shown (length s) q k) x.next x.sources in
      let fx = first k n r in let fy = second (shown (length s) q k) x.next x.sources in
      let px = part-weight p x.value in let py = part-weight p y.value in let own = numbered-blanks q (length s) in
      let all = around-costs t (declare q ∷ (visits_of e ++ under q (visits_of b))) in
      let both = costs-append (visits_of e) (under q (visits_of b)) in let same = costs-under q (visits_of b) in
      omega (arith, fx, fy, px, py, own, all, both, same)

  recursive-counted : (t : Tree) (f i : ℕ) (r : Place) (q : Pattern) (e b : Tree) → Counted e → Counted b
      → Within ((making names).let_rec t f i r q (made names e) (made names b)) (7 + (blanks q + (costs (visits_of e) + costs (visits_of b))))
  recursive-counted t f i r q e b first second k n s =
      let l = named (length s) f k in let s1 = s ++ Some f ∷ [] in
      let x = taken r q (made names e) l n s1 in let y = made names b l (suc x.next) x.sources in
      let fx = taken-weight r q (made names e) (costs (visits_of e)) first l n s1 in let fy = second l (suc x.next) x.sources in
      let py = part-weight (place_of t) y.value in
      omega (arith, fx, fy, py)

  arms-counted : (cs : Cases) → Bodies cs → ArmsCounted cs
  arms-counted no_cases gs p k n s = omega arith
  arms-counted (more_cases q b cs) gs p k n s =
      let r = s ++ sources_of (bound_in q) in let x = made names b (shown (length s) q k) n r in
      let fx = gs.0 (shown (length s) q k) n r in let px = part-weight p x.value in let fr = arms-counted cs gs.1 p k x.next x.sources in
      let own = numbered-blanks q (length s) in
      let both = costs-append (under q (visits_of b)) (in_arms (fold_cases visiting cs)) in let same = costs-under q (visits_of b) in
      omega (arith, fx, px, fr, own, both, same)

  match-inside : (first : Bool) (p : Place) (e : Tree) (cs : Cases) → Counted e → Bodies cs
      → Within (match_made first p (made names e) (fold_cases (making names) cs)) (2 + costs (in_match first (visits_of e) (fold_cases visiting cs)))
  match-inside false p e cs g gs k n s =
      let x = made names e k n s in let fx = g k n s in let px = part-weight p x.value in let fr = arms-counted cs gs p k x.next x.sources in
      let both = costs-append (visits_of e) (in_arms (fold_cases visiting cs)) in
      omega (arith, fx, px, fr, both)
  match-inside true p e no_cases g gs k n s =
      let x = made names e k n s in let fx = g k n s in let px = part-weight p x.value in let both = costs-append (visits_of e) [] in omega (arith, fx, px, both)
  match-inside true p e (more_cases q b cs) g gs k n s =
      let r = s ++ sources_of (bound_in q) in let x = made names e k n r in
      let y = made names b (shown (length s) q k) x.next x.sources in
      let fx = g k n r in let fy = gs.0 (shown (length s) q k) x.next x.sources in let fr = arms-counted cs gs.1 p k y.next y.sources in
      let px = part-weight p x.value in let py = part-weight p y.value in let own = numbered-blanks q (length s) in
      let both = costs-append (visits_of e) (under q (visits_of b) ++ in_arms (fold_cases visiting cs)) in
      let rest = costs-append (under q (visits_of b)) (in_arms (fold_cases visiting cs)) in let same = costs-under q (visits_of b) in
      omega (arith, fx, fy, fr, px, py, own, both, rest, same)

  match-counted : (i : ℕ) (p : Place) (e : Tree) (cs : Cases) → Counted e → Bodies cs → Counted (tree i p (form.match_on e cs))
  match-counted i p e cs g gs k n s =
      let t = tree i p (form.match_on e cs) in
      let x = match-inside (is_let t) p e cs g gs k n s in let all = around-costs t (in_match (is_let t) (visits_of e) (fold_cases visiting cs)) in
      omega (arith, x, all)

  mutual
    tree-counted : (t : Tree) → Counted t
    tree-counted (tree i p f) = form-counted i p f

    form-counted : (i : ℕ) (p : Place) (f : Form) → Counted (tree i p f)
    form-counted i p (form.whole m) = leaf-counted p (shape.whole m)
    form-counted i p (form.flag b) = leaf-counted p (shape.flag b)
    form-counted i p form.unit = leaf-counted p shape.unit
    form-counted i p (form.use_of x) = leaf-counted p (shape.use_of x)
    form-counted i p (form.qualified m x) = leaf-counted p (shape.qualified m x)
    form-counted i p form.assert_false = leaf-counted p shape.assert_false
    form-counted i p form.map_empty = leaf-counted p shape.map_empty
    form-counted i p (form.negated a) = one-counted (tree i p (form.negated a)) shape.negated a (tree-counted a)
    form-counted i p (form.not_of a) = one-counted (tree i p (form.not_of a)) shape.not_of a (tree-counted a)
    form-counted i p (form.assert a) = one-counted (tree i p (form.assert a)) shape.assert a (tree-counted a)
    form-counted i p (form.length_of a) = one-counted (tree i p (form.length_of a)) shape.length_of a (tree-counted a)
    form-counted i p (form.print a) = one-counted (tree i p (form.print a)) shape.print a (tree-counted a)
    form-counted i p (form.read a) = one-counted (tree i p (form.read a)) shape.read a (tree-counted a)
    form-counted i p (form.call a b) = two-counted (tree i p (form.call a b)) shape.call a b (tree-counted a) (tree-counted b)
    form-counted i p (form.arithmetic o a b) = two-counted (tree i p (form.arithmetic o a b)) (shape.arithmetic o) a b (tree-counted a) (tree-counted b)
    form-counted i p (form.compare o a b) = two-counted (tree i p (form.compare o a b)) (shape.compare o) a b (tree-counted a) (tree-counted b)
    form-counted i p (form.and_of a b) = two-counted (tree i p (form.and_of a b)) shape.and_of a b (tree-counted a) (tree-counted b)
    form-counted i p (form.or_of a b) = two-counted (tree i p (form.or_of a b)) shape.or_of a b (tree-counted a) (tree-counted b)
    form-counted i p (form.make a b) = two-counted (tree i p (form.make a b)) shape.make a b (tree-counted a) (tree-counted b)
    form-counted i p (form.fetch a b) = two-counted (tree i p (form.fetch a b)) shape.fetch a b (tree-counted a) (tree-counted b)
    form-counted i p (form.map_find a b) = two-counted (tree i p (form.map_find a b)) shape.map_find a b (tree-counted a) (tree-counted b)
    form-counted i p (form.if_else a b c) = three-counted (tree i p (form.if_else a b c)) shape.if_else a b c (tree-counted a) (tree-counted b) (tree-counted c)
    form-counted i p (form.store a b c) = three-counted (tree i p (form.store a b c)) shape.store a b c (tree-counted a) (tree-counted b) (tree-counted c)
    form-counted i p (form.map_add a b c) = three-counted (tree i p (form.map_add a b c)) shape.map_add a b c (tree-counted a) (tree-counted b) (tree-counted c)
    form-counted i p (form.tuple es) = row-counted (tree i p (form.tuple es)) shape.tuple es (all-counted es)
    form-counted i p (form.build c w es) = row-counted (tree i p (form.build c w es)) (shape.build c w) es (all-counted es)
    form-counted i p (form.list_of es) = row-counted (tree i p (form.list_of es)) shape.list_of es (all-counted es)
    form-counted i p (form.chain es) = row-counted (tree i p (form.chain es)) shape.chain es (all-counted es)
    form-counted i p (form.fun q b) = function-counted (tree i p (form.fun q b)) q b (tree-counted b)
    form-counted i p (form.let_in q e b) = let-counted (tree i p (form.let_in q e b)) q e b (tree-counted e) (tree-counted b)
    form-counted i p (form.let_rec f j r q e b) = λ k n s.
        let t = tree i p (form.let_rec f j r q e b) in
        let x = recursive-counted t f j r q e b (tree-counted e) (tree-counted b) k n s in
        let all = recursive-costs t f (record { id = j; place = r; parameter = q; body = e }) (visits_of e) (visits_of b) in
        omega (arith, x, all)
    form-counted i p (form.match_on e cs) = match-counted i p e cs (tree-counted e) (bodies-counted cs)

    all-counted : (es : Trees) → AllCounted es
    all-counted no_trees = λ p k n s. omega arith
    all-counted (more_trees e es) = λ p k n s.
        let x = made names e k n s in
        let fx = tree-counted e k n s in let px = part-weight p x.value in let fr = all-counted es p k x.next x.sources in
        let both = costs-append (visits_of e) (in_row (fold_all visiting es)) in
        omega (arith, fx, px, fr, both)

    bodies-counted : (cs : Cases) → Bodies cs
    bodies-counted no_cases = tt
    bodies-counted (more_cases q b cs) = (tree-counted b, bodies-counted cs)

  -- ---- items

  item-counted : (p : Place) (f : ItemForm) (w : ℕ) (rest : Frame → ℕ → List (Option ℕ) → Items_made)
      → ((k : Frame) (n : ℕ) (s : List (Option ℕ)) → weight_items (rest k n s).items ≤ w)
      → (k : Frame) (n : ℕ) (s : List (Option ℕ)) → weight_items (item_made names p f k n s rest).items ≤ costs (visits_of_form f) + w
  item-counted p (type_of d) w rest after k n s =
      let x = after (frame_with k.variables (with_constructors k.constructors d.constructors)) n s in omega (arith, x)
  item-counted p (let_of q e) w rest after k n s =
      let r = s ++ sources_of (bound_in q) in let x = made names e k n r in
      let fx = tree-counted e k n r in let px = part-weight p x.value in let fr = after (shown (length s) q k) x.next x.sources in
      let both = costs-append (visits_of e) (show q ∷ []) in
      omega (arith, fx, px, fr, both)
  item-counted p (let_rec_of f r) w rest after k n s =
      let l = named (length s) f k in let s1 = s ++ Some f ∷ [] in
      let x = taken r.place r.parameter (made names r.body) l n s1 in
      let fx = taken-weight r.place r.parameter (made names r.body) (costs (visits_of r.body)) (tree-counted r.body) l n s1 in
      let fr = after l (suc x.next) x.sources in let function = function-costs r (visits_of r.body) in
      omega (arith, fx, fr, function)

  pub items-weigh : (is : List ItemTree) (k : Frame) (n : ℕ) (s : List (Option ℕ)) → weight_items (items_made names k n s is).items
      ≤ costs (visits_of_items is)
  items-weigh [] k n s = omega arith
  items-weigh (i ∷ is) k n s =
      let x = item-counted i.place i.form (costs (visits_of_items is)) (λ l m r. items_made names l m r is) (λ l m r. items-weigh is l m r) k n s in
      let both = costs-append (visits_of_item i) (visits_of_items is) in let end = costs-append (visits_of_form i.form) (leave_item i ∷ []) in
      omega (arith, x, both, end)
