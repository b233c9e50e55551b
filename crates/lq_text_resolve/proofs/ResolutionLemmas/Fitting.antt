-- What a tree without complaints becomes: a value that fits the arguments which the calls around it give, with nodes and binders in order.
use Rattle.std.specs.Prelude.{◌==◌, codes, if◌then◌else◌}
use Rattle.std.specs.Option.{option_map}
use Rattle.std.specs.Str.{bytes_eq}
use Rattle.std.proofs.Common.{◌≡◌, ℕ, suc, Bool, true, false, List, [], ◌∷◌, ◌++◌, length, map, Option, Some, None, refl, sym, ap, subst, ◌∙◌, arith}
use Rattle.std.proofs.lemmas.Bool.{and_from, and_parts}
use Rattle.std.proofs.lemmas.Bool.Decides.{Decides-eqb}
use Rattle.lq_base_names.specs.declared.place.Place.{Place}
use Rattle.lq_text_tree.specs.declared.expr.Arguments.TheVariants.{Apart, Listed}
use Rattle.lq_text_tree.specs.Tree as form
use Rattle.lq_text_tree.specs.Tree.{Tree, tree, Form, Cases, no_cases, more_cases}
use Rattle.lq_text_tree.specs.TreeView.{trees_of}
use Rattle.lq_text_walk.specs.Walk.Shape as shape
use Rattle.lq_text_walk.specs.Walk.Shape.{Leaf, One, Two, Three, Row}
use Rattle.lq_text_walk.specs.Walk.Visits.{Visit, enter, leave, place_of, around, in_row, visiting}
use Rattle.lq_text_scope.specs.Complaints.{Cause, unknown, unknown_in}
use Rattle.lq_text_scope.specs.Datatypes.{name_of}
use Rattle.lq_text_scope.specs.Known as known
use Rattle.lq_text_scope.specs.Known.{Arity, Known, arity_in, counted, has, text_of}
use Rattle.lq_text_scope.specs.Uses.{Complaining, handed_on, of_leaf, of_all, complaining}
use Rattle.lq_text_resolve.specs.Binding.Heads.{Head, read, print, length_of, make, make_of, find, find_of, add, add_of, add_to, Given, done, lacking, given, lack_of}
use Rattle.lq_text_resolve.specs.Binding.Heads as heads
use Rattle.lq_text_resolve.specs.Binding.Making.{Frame, Value, whole, partly, Made, node, part, with_given, of_primitive, of_use, called, two_form, one_form, three_form, joined, of_tuple, of_listed, row_of, takes_more, Making, leaf_made, making, all_made}
use Rattle.lq_text_resolve.specs.Resolution.Laws.{PrimitivesAgree, lacks}
use Rattle.lq_text_resolve.specs.Resolution.Parameters.{all_stand, stands}
use Rattle.lq_text_resolve.proofs.ResolutionLemmas.Nodes.{Part, Parts, single, only, parts_more, one_node, two_node, three_node, tuple_node, list_node, chain_node, build_node, instead_node}
use Rattle.lq_text_resolve.proofs.ResolutionLemmas.Spanning.{Sees, finds}

-- ---- values

-- the trees that a value holds
abbrev pub trees_in : Value → List Tree
trees_in (whole t) = t ∷ []
trees_in (partly read) = []
trees_in (partly print) = []
trees_in (partly length_of) = []
trees_in (partly make) = []
trees_in (partly (make_of n)) = n ∷ []
trees_in (partly find) = []
trees_in (partly (find_of k)) = k ∷ []
trees_in (partly add) = []
trees_in (partly (add_of k)) = k ∷ []
trees_in (partly (add_to k e)) = k ∷ e ∷ []

-- a primitive lacks as many arguments as it is given
abbrev pub Lacks : ℕ → Value → Type 0
Lacks o (whole t) = Unit {0}
Lacks o (partly h) = lack_of h ≡ o

abbrev pub IsAt : Place → Value → Type 0
IsAt p (whole t) = place_of t ≡ p
IsAt p (partly h) = Unit {0}

pub record Fits (vs : List ℕ) (p : Place) (o n b : ℕ) (v : Value) (m c : ℕ) : Type 0 where
  pub lack : Lacks o v
  pub parts : Parts vs n b (trees_in v) m c
  pub place : IsAt p v

abbrev pub FitsMade : List ℕ → Place → ℕ → ℕ → ℕ → Made → Type 0
FitsMade vs p o n b x = Fits vs p o n b x.value x.next (length x.sources)

-- what a tree becomes, by what is found wrong with it and its visits
abbrev pub Fitting : Place → Making → Complaining → List Visit → Type 0
Fitting p make_it complain us =
    (w : Known) (k : Frame) (vs : List ℕ) (o n : ℕ) (s : List (Option ℕ)) → w.variables ≡ map name_of k.variables → Sees k.variables vs → complain w o ≡ []
    → all_stand us ≡ true → FitsMade vs p o n (length s) (make_it k n s)

-- ---- lists

pub none_both : {X : Type 0} (xs ys : List X) → xs ++ ys ≡ [] → (xs ≡ []) × (ys ≡ [])
none_both [] ys is = (refl, is)
none_both (x ∷ xs) ys is = absurd (let e = is in cc)

pub stand_both : (us vs : List Visit) → all_stand (us ++ vs) ≡ true → (all_stand us ≡ true) × (all_stand vs ≡ true)
stand_both [] vs is = (refl, is)
stand_both (u ∷ us) vs is =
    let both = and_parts (stands u) (all_stand (us ++ vs)) is in let rest = stand_both us vs both.1 in (and_from (stands u) (all_stand us) both.0 rest.0, rest.1)

pub stand_inside : (t : Tree) (us : List Visit) → all_stand (around t us) ≡ true → all_stand us ≡ true
stand_inside t us is = (stand_both us (leave t ∷ []) (and_parts (stands (enter t)) (all_stand (us ++ leave t ∷ [])) is).1).0

-- ---- a whole tree

pub lacks_some : (h : Head) → lack_of h ≡ 0 → ⊥
lacks_some read is = omega (arith, is)
lacks_some print is = omega (arith, is)
lacks_some length_of is = omega (arith, is)
lacks_some make is = omega (arith, is)
lacks_some (make_of n) is = omega (arith, is)
lacks_some find is = omega (arith, is)
lacks_some (find_of k) is = omega (arith, is)
lacks_some add is = omega (arith, is)
lacks_some (add_of k) is = omega (arith, is)
lacks_some (add_to k e) is = omega (arith, is)

pub part_of : (vs : List ℕ) (p q : Place) (n b : ℕ) (v : Value) (m c : ℕ) → Fits vs p 0 n b v m c → Part vs n b (part q v) m c
part_of vs p q n b (whole t) m c is = only is.parts
part_of vs p q n b (partly h) m c is = absurd (lacks_some h is.lack)

pub place_is : (vs : List ℕ) (p q : Place) (n b : ℕ) (v : Value) (m c : ℕ) → Fits vs p 0 n b v m c → place_of (part q v) ≡ p
place_is vs p q n b (whole t) m c is = is.place
place_is vs p q n b (partly h) m c is = absurd (lacks_some h is.lack)

pub fits_whole : (vs : List ℕ) (p : Place) (o n b : ℕ) (t : Tree) (m c : ℕ) → Part vs n b t m c → place_of t ≡ p → Fits vs p o n b (whole t) m c
fits_whole vs p o n b t m c is at = record { lack = tt; parts = single is; place = at }

-- a node without parts
pub leaf_fits : (vs : List ℕ) (p : Place) (o n b : ℕ) (f : Form) → Part vs n b (tree n p f) (suc n) b → Fits vs p o n b (whole (tree n p f)) (suc n) b
leaf_fits vs p o n b f is = fits_whole vs p o n b (tree n p f) (suc n) b is refl

-- ---- primitives

-- without arguments yet
abbrev pub IsFresh : Given → Type 0
IsFresh (done f) = f ≡ form.map_empty
IsFresh (lacking h) = trees_in (partly h) ≡ []

-- both give a primitive by its name
abbrev pub Ties : Option ℕ → Option Given → Type 0
Ties None None = Unit {0}
Ties (Some w) (Some g) = (w ≡ lacks g) × IsFresh g
Ties None (Some g) = ⊥
Ties (Some w) None = ⊥

pub tied : (text : List ℕ) → Ties (known.primitive text) (heads.primitive_named text)
tied text = by_tests (bytes_eq text (codes "read_int")) (bytes_eq text (codes "print_int"))
  where
    by_tests : (t u : Bool)
        → Ties (if t then Some 1 else if u then Some 1 else None) (if t then Some (lacking read) else if u then Some (lacking print) else None)
    by_tests true u = (refl, refl)
    by_tests false true = (refl, refl)
    by_tests false false = tt

tied_array : (text : List ℕ) → Ties (known.array_primitive text) (heads.array_primitive text)
tied_array text = by_tests (bytes_eq text (codes "make")) (bytes_eq text (codes "length"))
  where
    by_tests : (t u : Bool)
        → Ties (if t then Some 2 else if u then Some 1 else None) (if t then Some (lacking make) else if u then Some (lacking length_of) else None)
    by_tests true u = (refl, refl)
    by_tests false true = (refl, refl)
    by_tests false false = tt

tied_map : (text : List ℕ) → Ties (known.map_primitive text) (heads.map_primitive text)
tied_map text = by_tests (bytes_eq text (codes "empty")) (bytes_eq text (codes "add")) (bytes_eq text (codes "find"))
  where
    by_tests : (t u v : Bool)
        → Ties (if t then Some 0 else if u then Some 3 else if v then Some 2 else None)
        (if t then Some (done form.map_empty) else if u then Some (lacking add) else if v then Some (lacking find) else None)
    by_tests true u v = (refl, refl)
    by_tests false true v = (refl, refl)
    by_tests false false true = (refl, refl)
    by_tests false false false = tt

pub tied_in : (front text : List ℕ) → Ties (known.primitive_in front text) (heads.primitive_in front text)
tied_in front text = by_tests (bytes_eq front (codes "Array")) (bytes_eq front (codes "Map"))
  where
    by_tests : (t u : Bool)
        → Ties (if t then known.array_primitive text else if u then known.map_primitive text else None) (if t then heads.array_primitive text else if u then heads.map_primitive text else None)
    by_tests true u = tied_array text
    by_tests false true = tied_map text
    by_tests false false = tt

ties_same : (w : Option ℕ) (g : Option Given) → Ties w g → option_map lacks g ≡ w
ties_same None None ties = refl
ties_same None (Some g) ties = absurd ties
ties_same (Some w) None ties = absurd ties
ties_same (Some w) (Some g) ties = ap (λ (n : ℕ). Some n) (sym ties.0)

pub primitives_agree : PrimitivesAgree
primitives_agree = record {
  alone = λ text. ties_same (known.primitive text) (heads.primitive_named text) (tied text);
  behind = λ front text. ties_same (known.primitive_in front text) (heads.primitive_in front text) (tied_in front text);
}

-- as many are found as are wanted
count_is : (p : Place) (wanted : ℕ) (c : Cause) (found : ℕ) → counted p (Some wanted) c found ≡ [] → wanted ≡ found
count_is p wanted c found is = by_test (wanted == found) refl
  where
    by_test : (t : Bool) → (wanted == found) ≡ t → wanted ≡ found
    by_test true e = (Decides-eqb wanted found).0 e
    by_test false e = absurd (let e = e in let is = is in cc)

fresh_fits : (vs : List ℕ) (p : Place) (o n : ℕ) (s : List (Option ℕ)) (g : Given) → lacks g ≡ o → IsFresh g → FitsMade vs p o n (length s) (with_given g p n s)
fresh_fits vs p o n s (done f) lack fresh =
    subst (λ (h : Form). Fits vs p o n (length s) (whole (tree n p h)) (suc n) (length s)) (sym fresh)
    (leaf_fits vs p o n (length s) form.map_empty (record { nodes = (refl, refl); binders = refl; scoped = refl }))
fresh_fits vs p o n s (lacking h) lack fresh = record {
  lack = lack;
  parts = subst (λ (ts : List Tree). Parts vs n (length s) ts n (length s)) (sym fresh) (refl, refl);
  place = tt;
}

pub primitive_fits : (vs : List ℕ) (p : Place) (o n : ℕ) (s : List (Option ℕ)) (w : Option ℕ) (g : Option Given) (c : Cause) → Ties w g → counted p w c o ≡ []
    → FitsMade vs p o n (length s) (of_primitive g p n s)
primitive_fits vs p o n s None g c ties is = absurd (let e = is in cc)
primitive_fits vs p o n s (Some w) None c ties is = absurd ties
primitive_fits vs p o n s (Some w) (Some g) c ties is = fresh_fits vs p o n s g (sym ties.0 ∙ count_is p w c o is) ties.1

-- ---- leaves

module _ (names : List (List ℕ)) where
  pub leaf_fitting : (p : Place) (h : Leaf) (us : List Visit) → Fitting p (leaf_made names p h) (of_leaf names p h) us
  leaf_fitting p (shape.use_of x) us w k vs o n s agree sees none stand = by_found (arity_in k.variables x) refl
    where
      by_found : (f : Option ℕ) → arity_in k.variables x ≡ f → FitsMade vs p o n (length s) (of_use f (heads.primitive_named (text_of names x)) p n s)
      by_found (Some b) is = leaf_fits vs p o n (length s) (form.use_of b) (record { nodes = (refl, refl); binders = refl; scoped = sees x b is })
      by_found None is =
          let unseen : has w.variables x ≡ false = ap (λ (xs : List ℕ). has xs x) agree ∙ finds k.variables x is in
          primitive_fits vs p o n s (known.primitive (text_of names x)) (heads.primitive_named (text_of names x)) (unknown x) (tied (text_of names x))
          (subst (λ (t : Bool). (if t then [] else counted p (known.primitive (text_of names x)) (unknown x) o) ≡ []) unseen none)
  leaf_fitting p (shape.qualified m x) us w k vs o n s agree sees none stand =
      primitive_fits vs p o n s (known.primitive_in (text_of names m) (text_of names x)) (heads.primitive_in (text_of names m) (text_of names x)) (unknown_in m x)
      (tied_in (text_of names m) (text_of names x)) none
  leaf_fitting p (shape.whole m) us w k vs o n s agree sees none stand = leaf_fits vs p o n (length s) (form.whole m) (record { nodes = (refl, refl); binders = refl; scoped = refl })
  leaf_fitting p (shape.flag b) us w k vs o n s agree sees none stand = leaf_fits vs p o n (length s) (form.flag b) (record { nodes = (refl, refl); binders = refl; scoped = refl })
  leaf_fitting p shape.unit us w k vs o n s agree sees none stand = leaf_fits vs p o n (length s) form.unit (record { nodes = (refl, refl); binders = refl; scoped = refl })
  leaf_fitting p shape.assert_false us w k vs o n s agree sees none stand = leaf_fits vs p o n (length s) form.assert_false (record { nodes = (refl, refl); binders = refl; scoped = refl })
  leaf_fitting p shape.map_empty us w k vs o n s agree sees none stand = leaf_fits vs p o n (length s) form.map_empty (record { nodes = (refl, refl); binders = refl; scoped = refl })

-- ---- one, two and three parts

one_more : (vs : List ℕ) (p : Place) (o n b : ℕ) (h : One) (a : Tree) (m : ℕ) (r : List (Option ℕ)) → Parts vs n b (a ∷ []) m (length r) → FitsMade vs p o n b (node p (one_form h a) m r)
one_more vs p o n b h a m r is = fits_whole vs p o n b (tree m p (one_form h a)) (suc m) (length r) (one_node vs n b m (length r) p h a is) refl

two_more : (vs : List ℕ) (p : Place) (o n b : ℕ) (h : Two) (a e : Tree) (m : ℕ) (r : List (Option ℕ)) → Parts vs n b (a ∷ e ∷ []) m (length r)
    → FitsMade vs p o n b (node p (two_form h a e) m r)
two_more vs p o n b h a e m r is = fits_whole vs p o n b (tree m p (two_form h a e)) (suc m) (length r) (two_node vs n b m (length r) p h a e is) refl

three_more : (vs : List ℕ) (p : Place) (o n b : ℕ) (h : Three) (a e f : Tree) (m : ℕ) (r : List (Option ℕ)) → Parts vs n b (a ∷ e ∷ f ∷ []) m (length r)
    → FitsMade vs p o n b (node p (three_form h a e f) m r)
three_more vs p o n b h a e f m r is =
    fits_whole vs p o n b (tree m p (three_form h a e f)) (suc m) (length r) (three_node vs n b m (length r) p h a e f is) refl

-- a primitive with one argument more
lacking_more : (vs : List ℕ) (p : Place) (o n b : ℕ) (h : Head) (m : ℕ) (r : List (Option ℕ)) → lack_of h ≡ o → Parts vs n b (trees_in (partly h)) m (length r)
    → Fits vs p o n b (partly h) m (length r)
lacking_more vs p o n b h m r lack is = record { lack = lack; parts = is; place = tt }

call_fits : (vs : List ℕ) (p q : Place) (o n b : ℕ) (v : Value) (m c : ℕ) (a : Tree) (l : ℕ) (r : List (Option ℕ)) → Fits vs q (suc o) n b v m c → Part vs m c a l (length r)
    → FitsMade vs p o n b (called v a p l r)
call_fits vs p q o n b (whole f) m c a l r is more = two_more vs p o n b shape.call f a l r (parts_more vs n b m c l (length r) (f ∷ []) a is.parts more)
call_fits vs p q o n b (partly read) m c a l r is more = one_more vs p o n b shape.read a l r (parts_more vs n b m c l (length r) [] a is.parts more)
call_fits vs p q o n b (partly print) m c a l r is more = one_more vs p o n b shape.print a l r (parts_more vs n b m c l (length r) [] a is.parts more)
call_fits vs p q o n b (partly length_of) m c a l r is more = one_more vs p o n b shape.length_of a l r (parts_more vs n b m c l (length r) [] a is.parts more)
call_fits vs p q o n b (partly make) m c a l r is more =
    let lack = is.lack in lacking_more vs p o n b (make_of a) l r (omega (arith, lack)) (parts_more vs n b m c l (length r) [] a is.parts more)
call_fits vs p q o n b (partly (make_of e)) m c a l r is more = two_more vs p o n b shape.make e a l r (parts_more vs n b m c l (length r) (e ∷ []) a is.parts more)
call_fits vs p q o n b (partly find) m c a l r is more =
    let lack = is.lack in lacking_more vs p o n b (find_of a) l r (omega (arith, lack)) (parts_more vs n b m c l (length r) [] a is.parts more)
call_fits vs p q o n b (partly (find_of e)) m c a l r is more = two_more vs p o n b shape.map_find e a l r (parts_more vs n b m c l (length r) (e ∷ []) a is.parts more)
call_fits vs p q o n b (partly add) m c a l r is more =
    let lack = is.lack in lacking_more vs p o n b (add_of a) l r (omega (arith, lack)) (parts_more vs n b m c l (length r) [] a is.parts more)
call_fits vs p q o n b (partly (add_of e)) m c a l r is more =
    let lack = is.lack in lacking_more vs p o n b (add_to e a) l r (omega (arith, lack)) (parts_more vs n b m c l (length r) (e ∷ []) a is.parts more)
call_fits vs p q o n b (partly (add_to e f)) m c a l r is more =
    three_more vs p o n b shape.map_add e f a l r (parts_more vs n b m c l (length r) (e ∷ f ∷ []) a is.parts more)

pair_fits : (vs : List ℕ) (p q : Place) (o n b : ℕ) (h : Two) (v : Value) (m c : ℕ) (a : Tree) (l : ℕ) (r : List (Option ℕ)) → Fits vs q 0 n b v m c → Part vs m c a l (length r)
    → FitsMade vs p o n b (node p (two_form h (part p v) a) l r)
pair_fits vs p q o n b h v m c a l r is more = two_more vs p o n b h (part p v) a l r (m, c, part_of vs q p n b v m c is, single more)

joined_fits : (vs : List ℕ) (p q : Place) (o n b : ℕ) (h : Two) (v : Value) (m c : ℕ) (a : Tree) (l : ℕ) (r : List (Option ℕ)) → Fits vs q (handed_on h o) n b v m c
    → Part vs m c a l (length r) → FitsMade vs p o n b (joined h v a p l r)
joined_fits vs p q o n b shape.call v m c a l r is more = call_fits vs p q o n b v m c a l r is more
joined_fits vs p q o n b (shape.arithmetic x) v m c a l r is more = pair_fits vs p q o n b (shape.arithmetic x) v m c a l r is more
joined_fits vs p q o n b (shape.compare x) v m c a l r is more = pair_fits vs p q o n b (shape.compare x) v m c a l r is more
joined_fits vs p q o n b shape.and_of v m c a l r is more = pair_fits vs p q o n b shape.and_of v m c a l r is more
joined_fits vs p q o n b shape.or_of v m c a l r is more = pair_fits vs p q o n b shape.or_of v m c a l r is more
joined_fits vs p q o n b shape.make v m c a l r is more = pair_fits vs p q o n b shape.make v m c a l r is more
joined_fits vs p q o n b shape.fetch v m c a l r is more = pair_fits vs p q o n b shape.fetch v m c a l r is more
joined_fits vs p q o n b shape.map_find v m c a l r is more = pair_fits vs p q o n b shape.map_find v m c a l r is more

-- ---- rows

spread_fits : (vs : List ℕ) (p : Place) (o n b x : ℕ) (t : Tree) (m : ℕ) (r : List (Option ℕ)) → Parts vs n b (t ∷ []) m (length r) → FitsMade vs p o n b (of_tuple p x t m r)
spread_fits vs p o n b x (tree i q (form.tuple us)) m r is =
    fits_whole vs p o n b (tree i p (form.build x Apart us)) m (length r) (instead_node vs n b m (length r) p q x i us (only is)) refl
spread_fits vs p o n b x (tree i q f) m r is =
    fits_whole vs p o n b (tree m p (form.build x Apart (trees_of (tree i q f ∷ [])))) (suc m) (length r) (build_node vs n b m (length r) p x (tree i q f ∷ []) is) refl

build_fits : (vs : List ℕ) (p : Place) (o n b x : ℕ) (ts : List Tree) (m : ℕ) (r : List (Option ℕ)) → Parts vs n b ts m (length r)
    → FitsMade vs p o n b (node p (form.build x Apart (trees_of ts)) m r)
build_fits vs p o n b x ts m r is = fits_whole vs p o n b (tree m p (form.build x Apart (trees_of ts))) (suc m) (length r) (build_node vs n b m (length r) p x ts is) refl

listed_fits : (more : Bool) (vs : List ℕ) (p : Place) (o n b x : ℕ) (ts : List Tree) (m : ℕ) (r : List (Option ℕ)) → Parts vs n b ts m (length r)
    → FitsMade vs p o n b (of_listed more p x ts m r)
listed_fits true vs p o n b x [] m r is = build_fits vs p o n b x [] m r is
listed_fits true vs p o n b x (t ∷ []) m r is = spread_fits vs p o n b x t m r is
listed_fits true vs p o n b x (t ∷ (u ∷ ts)) m r is = build_fits vs p o n b x (t ∷ u ∷ ts) m r is
listed_fits false vs p o n b x ts m r is = build_fits vs p o n b x ts m r is

pub row_fits : (vs : List ℕ) (p : Place) (o n b : ℕ) (h : Row) (as_ : List Arity) (ts : List Tree) (m : ℕ) (r : List (Option ℕ)) → Parts vs n b ts m (length r)
    → FitsMade vs p o n b (row_of h as_ ts p m r)
row_fits vs p o n b shape.tuple as_ ts m r is = fits_whole vs p o n b (tree m p (form.tuple (trees_of ts))) (suc m) (length r) (tuple_node vs n b m (length r) p ts is) refl
row_fits vs p o n b (shape.build x Apart) as_ ts m r is = build_fits vs p o n b x ts m r is
row_fits vs p o n b (shape.build x Listed) as_ ts m r is = listed_fits (takes_more (arity_in as_ x)) vs p o n b x ts m r is
row_fits vs p o n b shape.list_of as_ ts m r is = fits_whole vs p o n b (tree m p (form.list_of (trees_of ts))) (suc m) (length r) (list_node vs n b m (length r) p ts is) refl
row_fits vs p o n b shape.chain as_ ts m r is = fits_whole vs p o n b (tree m p (form.chain (trees_of ts))) (suc m) (length r) (chain_node vs n b m (length r) p ts is) refl

-- parts in a row
abbrev pub RowFitting : Place → List Making → List Complaining → List (List Visit) → Type 0
RowFitting p as_ cs uss =
    (w : Known) (k : Frame) (vs : List ℕ) (n : ℕ) (s : List (Option ℕ)) → w.variables ≡ map name_of k.variables → Sees k.variables vs → of_all w cs ≡ []
    → all_stand (in_row uss) ≡ true → (let x = all_made p as_ k n s in Parts vs n (length s) x.trees x.next (length x.sources))

pub more_fitting : (p q : Place) (a : Making) (c : Complaining) (us : List Visit) (as_ : List Making) (cs : List Complaining) (uss : List (List Visit)) → Fitting q a c us
    → RowFitting p as_ cs uss → RowFitting p (a ∷ as_) (c ∷ cs) (us ∷ uss)
more_fitting p q a c us as_ cs uss first others w k vs n s agree sees none stand =
    let x = a k n s in let nones = none_both (c w 0) (of_all w cs) none in let stands = stand_both us (in_row uss) stand in (
      x.next,
      length x.sources,
      part_of vs q p n (length s) x.value x.next (length x.sources) (first w k vs 0 n s agree sees nones.0 stands.0),
      others w k vs x.next x.sources agree sees nones.1 stands.1,
    )

-- ---- nodes

module _ (names : List (List ℕ)) where
  pub one_fitting : (t : Tree) (h : One) (q : Place) (a : Making) (c : Complaining) (us : List Visit) → Fitting q a c us
      → Fitting (place_of t) ((making names).one t h a) ((complaining names).one t h c) (visiting.one t h us)
  one_fitting t h q a c us first w k vs o n s agree sees none stand =
      let p = place_of t in let x = a k n s in
      let is = first w k vs 0 n s agree sees none (stand_inside t us stand) in
      one_more vs p o n (length s) h (part p x.value) x.next x.sources (single (part_of vs q p n (length s) x.value x.next (length x.sources) is))

  pub two_fitting : (t : Tree) (h : Two) (q r : Place) (a b : Making) (c d : Complaining) (us ts : List Visit) → Fitting q a c us → Fitting r b d ts
      → Fitting (place_of t) ((making names).two t h a b) ((complaining names).two t h c d) (visiting.two t h us ts)
  two_fitting t h q r a b c d us ts first second w k vs o n s agree sees none stand =
      let p = place_of t in let x = a k n s in let y = b k x.next x.sources in
      let nones = none_both (c w (handed_on h o)) (d w 0) none in let stands = stand_both us ts (stand_inside t (us ++ ts) stand) in
      let is = first w k vs (handed_on h o) n s agree sees nones.0 stands.0 in
      let more = second w k vs 0 x.next x.sources agree sees nones.1 stands.1 in
      joined_fits vs p q o n (length s) h x.value x.next (length x.sources) (part p y.value) y.next y.sources is
      (part_of vs r p x.next (length x.sources) y.value y.next (length y.sources) more)

  pub three_fitting : (t : Tree) (h : Three) (q r l : Place) (a b e : Making) (c d f : Complaining) (us ts rs : List Visit) → Fitting q a c us → Fitting r b d ts → Fitting l e f rs
      → Fitting (place_of t) ((making names).three t h a b e) ((complaining names).three t h c d f) (visiting.three t h us ts rs)
  three_fitting t h q r l a b e c d f us ts rs first second third w k vs o n s agree sees none stand =
      let p = place_of t in let x = a k n s in let y = b k x.next x.sources in let z = e k y.next y.sources in
      let nones = none_both (c w 0) (d w 0 ++ f w 0) none in let others = none_both (d w 0) (f w 0) nones.1 in
      let stands = stand_both us (ts ++ rs) (stand_inside t (us ++ (ts ++ rs)) stand) in let rest = stand_both ts rs stands.1 in
      let is = first w k vs 0 n s agree sees nones.0 stands.0 in
      let also = second w k vs 0 x.next x.sources agree sees others.0 rest.0 in
      let more = third w k vs 0 y.next y.sources agree sees others.1 rest.1 in
      three_more vs p o n (length s) h (part p x.value) (part p y.value) (part p z.value) z.next z.sources (
        x.next,
        length x.sources,
        part_of vs q p n (length s) x.value x.next (length x.sources) is,
        (
          y.next,
          length y.sources,
          part_of vs r p x.next (length x.sources) y.value y.next (length y.sources) also,
          single (part_of vs l p y.next (length y.sources) z.value z.next (length z.sources) more),
        ),
      )

  -- a row, whatever is found wrong with the node itself
  pub row_fitting : (t : Tree) (h : Row) (own : Complaining) (as_ : List Making) (cs : List Complaining) (uss : List (List Visit)) → RowFitting (place_of t) as_ cs uss
      → Fitting (place_of t) ((making names).row t h as_) (λ w o. own w o ++ of_all w cs) (visiting.row t h uss)
  row_fitting t h own as_ cs uss others w k vs o n s agree sees none stand =
      let p = place_of t in let x = all_made p as_ k n s in
      let is = others w k vs n s agree sees (none_both (own w o) (of_all w cs) none).1 (stand_inside t (in_row uss) stand) in
      row_fits vs p o n (length s) h k.constructors x.trees x.next x.sources is
