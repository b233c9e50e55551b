-- What a program defines once its names are bound has source names.
use Rattle.std.proofs.Common.{◌≡◌, ℕ, zero, suc, Bool, true, false, List, [], ◌∷◌, ◌++◌, length, slice_get, Option, Some, None, if◌then◌else◌, refl, ap}
use Rattle.std.specs.Prelude.{codes}
use Rattle.std.specs.Str.{bytes_eq}
use Rattle.lq_base_names.specs.declared.place.Place.{Place}
use Rattle.lq_text_tree.specs.declared.expr.Arguments.TheVariants.{Apart, Listed}
use Rattle.lq_text_tree.specs.Items.{ItemTree, ItemForm, type_of, let_of, let_rec_of}
use Rattle.lq_text_tree.specs.Pattern as p
use Rattle.lq_text_tree.specs.Pattern.{Pattern, pattern, bound_in}
use Rattle.lq_text_tree.specs.Tree as form
use Rattle.lq_text_tree.specs.Tree.{Tree, tree, Form, Trees, no_trees, more_trees, Cases, no_cases, more_cases}
use Rattle.lq_text_tree.specs.TreeView.{trees_of}
use Rattle.lq_text_walk.specs.Walk.Fold.{Arm, fold_all, fold_cases}
use Rattle.lq_text_walk.specs.Walk.Shape as shape
use Rattle.lq_text_walk.specs.Walk.Shape.{Leaf, One, Two, Three, Row}
use Rattle.lq_text_walk.specs.Walk.Visits.{has_let}
use Rattle.lq_text_scope.specs.Datatypes.{with_constructors}
use Rattle.lq_text_scope.specs.Known.{Arity, arity_in, text_of}
use Rattle.lq_meaning_normal_form.specs.Types.Written.{Each, EachBody}
use Rattle.lq_text_resolve.specs.Binding.Binding.{is_tuple, numbered, sources_of}
use Rattle.lq_text_resolve.specs.Binding.Heads as heads
use Rattle.lq_text_resolve.specs.Binding.Heads.{Head, Given, done, lacking, given, make_of, find_of, add_of, add_to, array_primitive, map_primitive, primitive_in, primitive_named}
use Rattle.lq_text_resolve.specs.Binding.Making.{Frame, Items_made, Made, Making, Value, all_made, arms_made, first_frame, frame_with, item_made, items_made, leaf_made, made, making, match_made, matched, named, next_before, of_listed, of_primitive, of_tuple, of_use, one_form, part, partly, program_made, row_of, shown, source_before, takes_more, taken, taken_body, three_form, whole, with_given, called, joined}
use Rattle.lq_generate_reading.specs.SourceNames.Laws.{ResolvedProgramsDefineTexts}
use Rattle.lq_generate_reading.specs.SourceNames.Texts.{DefinesTexts, FunctionsHaveTexts, HasText, NameHasText, having_texts, source_of, text_in}

abbrev Sources : Type 0
Sources = List (Option ℕ)

-- what stands before others
before_others : {A : Type 0} (xs ys : List A) (i : ℕ) (x : A) → slice_get xs i ≡ Some x → slice_get (xs ++ ys) i ≡ Some x
before_others [] ys i x is = absurd (let it = is in cc)
before_others (y ∷ xs) ys zero x is = is
before_others (y ∷ xs) ys (suc i) x is = before_others xs ys i x is

at_end : {A : Type 0} (xs : List A) (x : A) → slice_get (xs ++ x ∷ []) (length xs) ≡ Some x
at_end [] x = refl
at_end (y ∷ xs) x = at_end xs x

-- a parameter that is taken, by whether it is a tuple
abbrev body_by : Bool → Place → Pattern → Making → Frame → ℕ → Sources → Tree
body_by t l q b k n s =
    let start = length (source_before t s) in
    let body = b (shown start q k) (next_before t n) (source_before t s ++ sources_of (bound_in q)) in taken_body t start q (matched (length s) q n) (part l body.value) body.next

abbrev sources_by : Bool → Place → Pattern → Making → Frame → ℕ → Sources → Sources
sources_by t l q b k n s =
    let start = length (source_before t s) in (b (shown start q k) (next_before t n) (source_before t s ++ sources_of (bound_in q))).sources

module _ (text : ℕ → Option ℕ) where
  -- binders have these source names
  abbrev Holds : Sources → Type 0
  Holds s = (x f : ℕ) → slice_get s x ≡ Some (Some f) → text x ≡ Some f

  holds_before : (s r : Sources) → Holds (s ++ r) → Holds s
  holds_before s r h x f is = h x f (before_others s r x (Some f) is)

  holds_last : (s : Sources) (f : ℕ) → Holds (s ++ Some f ∷ []) → HasText text (length s)
  holds_last s f h = (f, h (length s) f (at_end s (Some f)))

  abbrev Fine : Tree → Type 0
  Fine = FunctionsHaveTexts text

  abbrev AllFine : List Tree → Type 0
  AllFine ts = Each (fold_all (having_texts text) (trees_of ts))

  abbrev CasesFine : Cases → Type 0
  CasesFine cs = EachBody (fold_cases (having_texts text) cs)

  abbrev HeadFine : Head → Type 0
  HeadFine (make_of a) = Fine a
  HeadFine (find_of a) = Fine a
  HeadFine (add_of a) = Fine a
  HeadFine (add_to a b) = Fine a × Fine b
  HeadFine _ = Unit {0}

  abbrev GivenFine : Given → Type 0
  GivenFine (done f) = (n : ℕ) (l : Place) → Fine (tree n l f)
  GivenFine (lacking h) = HeadFine h

  abbrev ValueFine : Value → Type 0
  ValueFine (whole t) = Fine t
  ValueFine (partly h) = HeadFine h

  part_fine : (l : Place) (v : Value) → ValueFine v → Fine (part l v)
  part_fine l (whole t) w = w
  part_fine l (partly h) w = tt

  -- what is made has its texts where the source names behind it are those of the text, and so are the ones before it
  abbrev MakingFine : Making → Type 0
  MakingFine make = (k : Frame) (n : ℕ) (s : Sources) → let x = make k n s in Holds x.sources → Holds s × ValueFine x.value

  -- What is made of parts behind these source names leaves them, and has its texts where the parts have theirs.
  abbrev Passes : Sources → Made → Type 0 → Type 0
  Passes s x W = (Holds x.sources → Holds s) × (W → ValueFine x.value)

  -- ---- leaves

  with_given_fine : (g : Given) (l : Place) (n : ℕ) (s : Sources) → Passes s (with_given g l n s) (GivenFine g)
  with_given_fine (done f) l n s = (λ h. h, λ w. w n l)
  with_given_fine (lacking g) l n s = (λ h. h, λ w. w)

  abbrev PrimitiveFine : Option Given → Type 0
  PrimitiveFine None = Unit {0}
  PrimitiveFine (Some g) = GivenFine g

  primitive_by : (b : Bool) (g o : Option Given) → PrimitiveFine g → PrimitiveFine o → PrimitiveFine (if b then g else o)
  primitive_by true g o w u = w
  primitive_by false g o w u = u

  named_fine : (x : List ℕ) → PrimitiveFine (primitive_named x)
  named_fine x =
      primitive_by (bytes_eq x (codes "read_int")) (Some (lacking heads.read)) _ tt
      (primitive_by (bytes_eq x (codes "print_int")) (Some (lacking heads.print)) None tt tt)

  array_fine : (x : List ℕ) → PrimitiveFine (array_primitive x)
  array_fine x =
      primitive_by (bytes_eq x (codes "make")) (Some (lacking heads.make)) _ tt
      (primitive_by (bytes_eq x (codes "length")) (Some (lacking heads.length_of)) None tt tt)

  map_fine : (x : List ℕ) → PrimitiveFine (map_primitive x)
  map_fine x =
      primitive_by (bytes_eq x (codes "empty")) (Some (done form.map_empty)) _ (λ n l. tt)
      (primitive_by (bytes_eq x (codes "add")) (Some (lacking heads.add)) _ tt
      (primitive_by (bytes_eq x (codes "find")) (Some (lacking heads.find)) None tt tt))

  in_fine : (m x : List ℕ) → PrimitiveFine (primitive_in m x)
  in_fine m x =
      primitive_by (bytes_eq m (codes "Array")) (array_primitive x) _ (array_fine x)
      (primitive_by (bytes_eq m (codes "Map")) (map_primitive x) None (map_fine x) tt)

  of_primitive_fine : (g : Option Given) (l : Place) (n : ℕ) (s : Sources) → Passes s (of_primitive g l n s) (PrimitiveFine g)
  of_primitive_fine None l n s = (λ h. h, λ w. tt)
  of_primitive_fine (Some g) l n s = with_given_fine g l n s

  of_use_fine : (b : Option ℕ) (g : Option Given) (l : Place) (n : ℕ) (s : Sources) → Passes s (of_use b g l n s) (PrimitiveFine g)
  of_use_fine None g l n s = of_primitive_fine g l n s
  of_use_fine (Some b) g l n s = (λ h. h, λ w. tt)

  leaf_fine : (names : List (List ℕ)) (l : Place) (f : Leaf) → MakingFine (leaf_made names l f)
  leaf_fine names l (shape.use_of x) k n s h =
      let is = of_use_fine (arity_in k.variables x) (primitive_named (text_of names x)) l n s in (is.0 h, is.1 (named_fine (text_of names x)))
  leaf_fine names l (shape.qualified m x) k n s h =
      let is = of_primitive_fine (primitive_in (text_of names m) (text_of names x)) l n s in (is.0 h, is.1 (in_fine (text_of names m) (text_of names x)))
  leaf_fine names l f k n s h = (h, tt)

  -- ---- calls, and what else has parts

  given_fine : (g : Head) (a : Tree) → HeadFine g → Fine a → GivenFine (given g a)
  given_fine heads.read a w u = λ n l. u
  given_fine heads.print a w u = λ n l. u
  given_fine heads.length_of a w u = λ n l. u
  given_fine heads.make a w u = u
  given_fine (heads.make_of e) a w u = λ n l. (w, u)
  given_fine heads.find a w u = u
  given_fine (heads.find_of e) a w u = λ n l. (w, u)
  given_fine heads.add a w u = u
  given_fine (heads.add_of e) a w u = (w, u)
  given_fine (heads.add_to e f) a w u = λ n l. (w.0, w.1, u)

  called_fine : (v : Value) (a : Tree) (l : Place) (n : ℕ) (s : Sources) → Passes s (called v a l n s) (ValueFine v × Fine a)
  called_fine (whole f) a l n s = (λ h. h, λ w. w)
  called_fine (partly g) a l n s = let is = with_given_fine (given g a) l n s in (is.0, λ w. is.1 (given_fine g a w.0 w.1))

  joined_fine : (j : Two) (v : Value) (a : Tree) (l : Place) (n : ℕ) (s : Sources) → Passes s (joined j v a l n s) (ValueFine v × Fine a)
  joined_fine shape.call v a l n s = called_fine v a l n s
  joined_fine j v a l n s = (λ h. h, λ w. (part_fine l v w.0, w.1))

  one_fine : (n : ℕ) (l : Place) (j : One) (a : Tree) → Fine a → Fine (tree n l (one_form j a))
  one_fine n l shape.negated a w = w
  one_fine n l j a w = w

  three_fine : (n : ℕ) (l : Place) (j : Three) (a b c : Tree) → Fine a × Fine b × Fine c → Fine (tree n l (three_form j a b c))
  three_fine n l shape.if_else a b c w = w
  three_fine n l j a b c w = w

  -- ---- rows

  abbrev RowFine : Place → List Making → Type 0
  RowFine l as_ = (k : Frame) (n : ℕ) (s : Sources) → let x = all_made l as_ k n s in Holds x.sources → Holds s × AllFine x.trees

  more_fine : (l : Place) (a : Making) (as_ : List Making) → MakingFine a → RowFine l as_ → RowFine l (a ∷ as_)
  more_fine l a as_ w u k n s h =
      let x = a k n s in let rest = u k x.next x.sources h in let first = w k n s rest.0 in (first.0, (part_fine l x.value first.1, rest.1))

  tuple_fine : (l : Place) (c : ℕ) (t : Tree) (n : ℕ) (s : Sources) → Passes s (of_tuple l c t n s) (Fine t)
  tuple_fine l c (tree i q (form.tuple us)) n s = (λ h. h, λ w. w)
  tuple_fine l c (tree i q f) n s = (λ h. h, λ w. (w, tt))

  listed_fine : (b : Bool) (l : Place) (c : ℕ) (ts : List Tree) (n : ℕ) (s : Sources) → Passes s (of_listed b l c ts n s) (AllFine ts)
  listed_fine true l c [] n s = (λ h. h, λ w. w)
  listed_fine true l c (t ∷ []) n s = let is = tuple_fine l c t n s in (is.0, λ w. is.1 w.0)
  listed_fine true l c (t ∷ (u ∷ ts)) n s = (λ h. h, λ w. w)
  listed_fine false l c ts n s = (λ h. h, λ w. w)

  row_fine : (r : Row) (cs : List Arity) (ts : List Tree) (l : Place) (n : ℕ) (s : Sources) → Passes s (row_of r cs ts l n s) (AllFine ts)
  row_fine shape.tuple cs ts l n s = (λ h. h, λ w. w)
  row_fine (shape.build c Apart) cs ts l n s = (λ h. h, λ w. w)
  row_fine (shape.build c Listed) cs ts l n s = listed_fine (takes_more (arity_in cs c)) l c ts n s
  row_fine shape.list_of cs ts l n s = (λ h. h, λ w. w)
  row_fine shape.chain cs ts l n s = (λ h. h, λ w. w)

  -- ---- functions and arms

  function_fine : (t : Bool) (l : Place) (q : Pattern) (b : Making) → MakingFine b → (k : Frame) (n : ℕ) (s : Sources) → Holds (sources_by t l q b k n s)
      → Holds s × Fine (body_by t l q b k n s)
  function_fine true l q b w k n s h =
      let m = s ++ None ∷ [] in let x = b (shown (length m) q k) (suc n) (m ++ sources_of (bound_in q)) in
      let body = w (shown (length m) q k) (suc n) (m ++ sources_of (bound_in q)) h in
      (holds_before s (None ∷ []) (holds_before m (sources_of (bound_in q)) body.0), (tt, (part_fine l x.value body.1, tt)))
  function_fine false l q b w k n s h =
      let x = b (shown (length s) q k) n (s ++ sources_of (bound_in q)) in
      let body = w (shown (length s) q k) n (s ++ sources_of (bound_in q)) h in (holds_before s (sources_of (bound_in q)) body.0, part_fine l x.value body.1)

  abbrev ArmsFine : Place → List (Arm Making) → Type 0
  ArmsFine l as_ = (k : Frame) (n : ℕ) (s : Sources) → let x = arms_made l as_ k n s in Holds x.sources → Holds s × CasesFine x.cases

  abbrev arm : Pattern → Making → Arm Making
  arm q b = record { pattern = q; body = b }

  arm_fine : (l : Place) (q : Pattern) (b : Making) (as_ : List (Arm Making)) → MakingFine b → ArmsFine l as_ → ArmsFine l (arm q b ∷ as_)
  arm_fine l q b as_ w u k n s h =
      let m = s ++ sources_of (bound_in q) in let x = b (shown (length s) q k) n m in
      let rest = u k x.next x.sources h in let body = w (shown (length s) q k) n m rest.0 in
      (holds_before s (sources_of (bound_in q)) body.0, (part_fine l x.value body.1, rest.1))

  match_fine : (l : Place) (e : Making) (as_ : List (Arm Making)) → MakingFine e → ArmsFine l as_ → MakingFine (match_made false l e as_)
  match_fine l e as_ w u k n s h =
      let x = e k n s in let arms = u k x.next x.sources h in let first = w k n s arms.0 in (first.0, (part_fine l x.value first.1, arms.1))

  let_match_fine : (l : Place) (e : Making) (q : Pattern) (b : Making) (as_ : List (Arm Making)) → MakingFine e → MakingFine b → ArmsFine l as_
      → MakingFine (match_made true l e (arm q b ∷ as_))
  let_match_fine l e q b as_ w v u k n s h =
      let m = s ++ sources_of (bound_in q) in let x = e k n m in let y = b (shown (length s) q k) x.next x.sources in
      let rest = u k y.next y.sources h in let body = v (shown (length s) q k) x.next x.sources rest.0 in let first = w k n m body.0 in
      (holds_before s (sources_of (bound_in q)) first.0, (part_fine l x.value first.1, (part_fine l y.value body.1, rest.1)))

  -- ---- trees

  module _ (names : List (List ℕ)) where
    one_made_fine : (i : ℕ) (l : Place) (f : Form) (j : One) (a : Making) → MakingFine a → MakingFine ((making names).one (tree i l f) j a)
    one_made_fine i l f j a w k n s h =
        let x = a k n s in let first = w k n s h in (first.0, one_fine x.next l j (part l x.value) (part_fine l x.value first.1))

    two_made_fine : (i : ℕ) (l : Place) (f : Form) (j : Two) (a b : Making) → MakingFine a → MakingFine b → MakingFine ((making names).two (tree i l f) j a b)
    two_made_fine i l f j a b w u k n s h =
        let x = a k n s in let y = b k x.next x.sources in
        let is = joined_fine j x.value (part l y.value) l y.next y.sources in
        let second = u k x.next x.sources (is.0 h) in let first = w k n s second.0 in (first.0, is.1 (first.1, part_fine l y.value second.1))

    three_made_fine : (i : ℕ) (l : Place) (f : Form) (j : Three) (a b c : Making) → MakingFine a → MakingFine b → MakingFine c
        → MakingFine ((making names).three (tree i l f) j a b c)
    three_made_fine i l f j a b c w u v k n s h =
        let x = a k n s in let y = b k x.next x.sources in let z = c k y.next y.sources in
        let third = v k y.next y.sources h in let second = u k x.next x.sources third.0 in let first = w k n s second.0 in
        (first.0, three_fine z.next l j (part l x.value) (part l y.value) (part l z.value) (part_fine l x.value first.1, part_fine l y.value second.1, part_fine l z.value third.1))

    row_made_fine : (i : ℕ) (l : Place) (f : Form) (r : Row) (as_ : List Making) → RowFine l as_ → MakingFine ((making names).row (tree i l f) r as_)
    row_made_fine i l f r as_ w k n s h =
        let x = all_made l as_ k n s in
        let is = row_fine r k.constructors x.trees l x.next x.sources in let parts = w k n s (is.0 h) in (parts.0, is.1 parts.1)

    let_made_fine : (i : ℕ) (l : Place) (f : Form) (q : Pattern) (a b : Making) → MakingFine a → MakingFine b
        → MakingFine ((making names).let_in (tree i l f) q a b)
    let_made_fine i l f q a b w u k n s h =
        let m = s ++ sources_of (bound_in q) in let x = a k n m in let y = b (shown (length s) q k) x.next x.sources in
        let second = u (shown (length s) q k) x.next x.sources h in let first = w k n m second.0 in
        (holds_before s (sources_of (bound_in q)) first.0, (part_fine l x.value first.1, part_fine l y.value second.1))

    let_rec_made_fine : (i : ℕ) (l : Place) (g : Form) (f j : ℕ) (r : Place) (q : Pattern) (a b : Making) → MakingFine a → MakingFine b
        → MakingFine ((making names).let_rec (tree i l g) f j r q a b)
    let_rec_made_fine i l g f j r q a b w u k n s h =
        let k1 = named (length s) f k in let s1 = s ++ Some f ∷ [] in
        let x = taken r q a k1 n s1 in let y = b k1 (suc x.next) x.sources in
        let second = u k1 (suc x.next) x.sources h in let first = function_fine (is_tuple q) r q a w k1 n s1 second.0 in
        (holds_before s (Some f ∷ []) first.0, (holds_last s f first.0, first.1, part_fine l y.value second.1))

    abbrev TreeFine : Tree → Type 0
    TreeFine t = MakingFine (made names t)

    abbrev BodiesFine : Cases → Type 0
    BodiesFine no_cases = Unit {0}
    BodiesFine (more_cases q b cs) = TreeFine b × BodiesFine cs

    arms_fine : (l : Place) (cs : Cases) → BodiesFine cs → ArmsFine l (fold_cases (making names) cs)
    arms_fine l no_cases w = λ k n s h. (h, tt)
    arms_fine l (more_cases q b cs) w = arm_fine l q (made names b) (fold_cases (making names) cs) w.0 (arms_fine l cs w.1)

    match_made_fine : (t : Bool) (l : Place) (e : Tree) (cs : Cases) → TreeFine e → BodiesFine cs → MakingFine (match_made t l (made names e) (fold_cases (making names) cs))
    match_made_fine false l e cs w u = match_fine l (made names e) (fold_cases (making names) cs) w (arms_fine l cs u)
    match_made_fine true l e no_cases w u = λ k n s h. let x = made names e k n s in let first = w k n s h in (first.0, (part_fine l x.value first.1, tt))
    match_made_fine true l e (more_cases q b cs) w u =
        let_match_fine l (made names e) q (made names b) (fold_cases (making names) cs) w u.0 (arms_fine l cs u.1)

    mutual
      tree_fine : (t : Tree) → TreeFine t
      tree_fine (tree i l f) = form_fine i l f

      form_fine : (i : ℕ) (l : Place) (f : Form) → TreeFine (tree i l f)
      form_fine i l (form.whole m) = leaf_fine names l (shape.whole m)
      form_fine i l (form.flag b) = leaf_fine names l (shape.flag b)
      form_fine i l form.unit = leaf_fine names l shape.unit
      form_fine i l (form.use_of x) = leaf_fine names l (shape.use_of x)
      form_fine i l (form.qualified m x) = leaf_fine names l (shape.qualified m x)
      form_fine i l form.assert_false = leaf_fine names l shape.assert_false
      form_fine i l form.map_empty = leaf_fine names l shape.map_empty
      form_fine i l (form.fun q b) = function_fine (is_tuple q) l q (made names b) (tree_fine b)
      form_fine i l (form.tuple es) = row_made_fine i l (form.tuple es) shape.tuple (fold_all (making names) es) (all_fine l es)
      form_fine i l (form.build c w es) = row_made_fine i l (form.build c w es) (shape.build c w) (fold_all (making names) es) (all_fine l es)
      form_fine i l (form.list_of es) = row_made_fine i l (form.list_of es) shape.list_of (fold_all (making names) es) (all_fine l es)
      form_fine i l (form.chain es) = row_made_fine i l (form.chain es) shape.chain (fold_all (making names) es) (all_fine l es)
      form_fine i l (form.let_in q e b) = let_made_fine i l (form.let_in q e b) q (made names e) (made names b) (tree_fine e) (tree_fine b)
      form_fine i l (form.let_rec f j r q e b) =
          let_rec_made_fine i l (form.let_rec f j r q e b) f j r q (made names e) (made names b) (tree_fine e) (tree_fine b)
      form_fine i l (form.match_on e cs) = match_made_fine (has_let e cs) l e cs (tree_fine e) (bodies_fine cs)
      form_fine i l (form.negated a) = one_made_fine i l (form.negated a) shape.negated (made names a) (tree_fine a)
      form_fine i l (form.not_of a) = one_made_fine i l (form.not_of a) shape.not_of (made names a) (tree_fine a)
      form_fine i l (form.assert a) = one_made_fine i l (form.assert a) shape.assert (made names a) (tree_fine a)
      form_fine i l (form.length_of a) = one_made_fine i l (form.length_of a) shape.length_of (made names a) (tree_fine a)
      form_fine i l (form.print a) = one_made_fine i l (form.print a) shape.print (made names a) (tree_fine a)
      form_fine i l (form.read a) = one_made_fine i l (form.read a) shape.read (made names a) (tree_fine a)
      form_fine i l (form.call a b) = two_made_fine i l (form.call a b) shape.call (made names a) (made names b) (tree_fine a) (tree_fine b)
      form_fine i l (form.arithmetic o a b) = two_made_fine i l (form.arithmetic o a b) (shape.arithmetic o) (made names a) (made names b) (tree_fine a) (tree_fine b)
      form_fine i l (form.compare o a b) = two_made_fine i l (form.compare o a b) (shape.compare o) (made names a) (made names b) (tree_fine a) (tree_fine b)
      form_fine i l (form.and_of a b) = two_made_fine i l (form.and_of a b) shape.and_of (made names a) (made names b) (tree_fine a) (tree_fine b)
      form_fine i l (form.or_of a b) = two_made_fine i l (form.or_of a b) shape.or_of (made names a) (made names b) (tree_fine a) (tree_fine b)
      form_fine i l (form.make a b) = two_made_fine i l (form.make a b) shape.make (made names a) (made names b) (tree_fine a) (tree_fine b)
      form_fine i l (form.fetch a b) = two_made_fine i l (form.fetch a b) shape.fetch (made names a) (made names b) (tree_fine a) (tree_fine b)
      form_fine i l (form.map_find a b) = two_made_fine i l (form.map_find a b) shape.map_find (made names a) (made names b) (tree_fine a) (tree_fine b)
      form_fine i l (form.if_else a b c) =
          three_made_fine i l (form.if_else a b c) shape.if_else (made names a) (made names b) (made names c) (tree_fine a) (tree_fine b) (tree_fine c)
      form_fine i l (form.store a b c) =
          three_made_fine i l (form.store a b c) shape.store (made names a) (made names b) (made names c) (tree_fine a) (tree_fine b) (tree_fine c)
      form_fine i l (form.map_add a b c) =
          three_made_fine i l (form.map_add a b c) shape.map_add (made names a) (made names b) (made names c) (tree_fine a) (tree_fine b) (tree_fine c)

      all_fine : (l : Place) (es : Trees) → RowFine l (fold_all (making names) es)
      all_fine l no_trees = λ k n s h. (h, tt)
      all_fine l (more_trees e es) = more_fine l (made names e) (fold_all (making names) es) (tree_fine e) (all_fine l es)

      bodies_fine : (cs : Cases) → BodiesFine cs
      bodies_fine no_cases = tt
      bodies_fine (more_cases q b cs) = (tree_fine b, bodies_fine cs)

    -- ---- items

    abbrev ItemsFine : Items_made → Sources → Type 0
    ItemsFine x s = Holds x.sources → Holds s × DefinesTexts text x.items

    -- a pattern that is a name has its source name
    pattern_fine : (s : Sources) (q : Pattern) → Holds (s ++ sources_of (bound_in q)) → NameHasText text (numbered (length s) q)
    pattern_fine s (pattern l (p.bind x)) h = holds_last s x h
    pattern_fine s (pattern l f) h = tt

    item_fine : (l : Place) (i : ItemForm) (rest : Frame → ℕ → Sources → Items_made) → ((k : Frame) (n : ℕ) (s : Sources) → ItemsFine (rest k n s) s)
        → (k : Frame) (n : ℕ) (s : Sources) → ItemsFine (item_made names l i k n s rest) s
    item_fine l (type_of d) rest w k n s h = w (frame_with k.variables (with_constructors k.constructors d.constructors)) n s h
    item_fine l (let_of q e) rest w k n s h =
        let m = s ++ sources_of (bound_in q) in let x = made names e k n m in
        let behind = w (shown (length s) q k) x.next x.sources h in let first = tree_fine e k n m behind.0 in
        (holds_before s (sources_of (bound_in q)) first.0, ((pattern_fine s q first.0, part_fine l x.value first.1), behind.1))
    item_fine l (let_rec_of f r) rest w k n s h =
        let k1 = named (length s) f k in let s1 = s ++ Some f ∷ [] in
        let x = taken r.place r.parameter (made names r.body) k1 n s1 in
        let behind = w k1 (suc x.next) x.sources h in
        let first = function_fine (is_tuple r.parameter) r.place r.parameter (made names r.body) (tree_fine r.body) k1 n s1 behind.0 in
        (holds_before s (Some f ∷ []) first.0, ((holds_last s f first.0, first.1), behind.1))

    items_fine : (is : List ItemTree) (k : Frame) (n : ℕ) (s : Sources) → ItemsFine (items_made names k n s is) s
    items_fine [] k n s h = (h, tt)
    items_fine (i ∷ is) k n s h = item_fine i.place i.form (λ l m r. items_made names l m r is) (λ l m r. items_fine is l m r) k n s h

pub texts_defined : ResolvedProgramsDefineTexts
texts_defined names is = let s = (program_made names is).sources in (items_fine (text_in s) names is first_frame 0 [] (λ x f e. ap source_of e)).1
