-- The rules leave at most one tree.
use Rattle.std.proofs.Common.{◌≡◌, ℕ, Bool, true, false, List, [], ◌∷◌, ◌++◌, length, Option, Some, None, refl, sym, ap, subst, ◌∙◌}
use Rattle.lq_base_names.specs.declared.place.Place.{Place}
use Rattle.lq_text_tree.specs.Items.{ItemTree, ItemForm, type_of, let_of, let_rec_of}
use Rattle.lq_text_tree.specs.Pattern.{Pattern}
use Rattle.lq_text_tree.specs.Tree as form
use Rattle.lq_text_tree.specs.Tree.{Tree, tree, Form, Trees, no_trees, more_trees, Cases, no_cases, more_cases}
use Rattle.lq_text_walk.specs.Walk.Fold.{Arm, fold_all, fold_cases}
use Rattle.lq_text_walk.specs.Walk.Shape as shape
use Rattle.lq_text_walk.specs.Walk.Shape.{Leaf, One, Two, Three, Row}
use Rattle.lq_text_walk.specs.Walk.Visits.{has_let, place_of}
use Rattle.lq_text_scope.specs.Datatypes.{with_constructors}
use Rattle.lq_text_scope.specs.Known.{arity_in, text_of}
use Rattle.lq_text_resolve.specs.Binding.Binding.{is_tuple, numbered}
use Rattle.lq_text_resolve.specs.Binding.Heads.{Given, done, lacking, given, primitive_in, primitive_named}
use Rattle.lq_text_resolve.specs.Binding.Making.{Frame, Value, whole, partly, named, one_form, shown, two_form, three_form, first_frame, frame_with}
use Rattle.lq_text_resolve.specs.Resolution.Bare.{bare_items}
use Rattle.lq_text_resolve.specs.Resolution.Resolves.{Rule, Sources, IsNode, IsGiven, IsPrimitive, IsUse, IsCall, Calls, Pairs, Joins, InRow, row_form, Under, IsFunction, InArms, Matches, IsLeaf, ruling, Becomes, ItemsBecome, ItemBecomes, OneTree, with_names, match_on_it, item_at, function_at}

whole_is : (t u : Tree) → whole t ≡ whole u → t ≡ u
whole_is t u is = cc

-- both become the same, and leave the same binders
abbrev pub Determines : Rule → Type 0
Determines a = (k : Frame) (s : Sources) (v w : Value) (r l : Sources) → a k s v r → a k s w l → (v ≡ w) × (r ≡ l)

node_same : (p : Place) (f g : Form) (v w : Value) → f ≡ g → IsNode p f v → IsNode p g w → v ≡ w
node_same p f g v w same first second = first ∙ ap (λ (o : Form). whole (tree 0 p o)) same ∙ sym second

given_same : (p : Place) (g : Given) (v w : Value) → IsGiven p g v → IsGiven p g w → v ≡ w
given_same p (done f) v w first second = first ∙ sym second
given_same p (lacking h) v w first second = first ∙ sym second

primitive_same : (p : Place) (g : Option Given) (v w : Value) → IsPrimitive p g v → IsPrimitive p g w → v ≡ w
primitive_same p None v w first second = absurd first
primitive_same p (Some g) v w first second = given_same p g v w first second

use_same : (p : Place) (b : Option ℕ) (g : Option Given) (v w : Value) → IsUse p b g v → IsUse p b g w → v ≡ w
use_same p (Some b) g v w first second = first ∙ sym second
use_same p None g v w first second = primitive_same p g v w first second

call_same : (p : Place) (f : Value) (a : Tree) (v w : Value) → IsCall p f a v → IsCall p f a w → v ≡ w
call_same p (whole f) a v w first second = first ∙ sym second
call_same p (partly h) a v w first second = given_same p (given h a) v w first second

-- a tree behind others, wherever these end
next_same : (a : Rule) → Determines a → (k : Frame) (s m : Sources) (t u : Tree) (r l : Sources) → s ≡ m → a k s (whole t) r → a k m (whole u) l → (t ≡ u) × (r ≡ l)
next_same a one k s m t u r l same first second =
    let both = one k s (whole t) (whole u) r l first (subst (λ (o : Sources). a k o (whole u) l) (sym same) second) in (whole_is t u both.0, both.1)

calls_determine : (p : Place) (a b : Rule) → Determines a → Determines b → Determines (Calls p a b)
calls_determine p a b one other k s v w r l x y =
    let first = one k s x.0 y.0 x.2 y.2 x.3 y.3 in
    let second = next_same b other k x.2 y.2 x.1 y.1 r l first.1 x.4 y.4 in
    let call = subst (λ (f : Value). IsCall p f x.1 w) (sym first.0) (subst (λ (e : Tree). IsCall p y.0 e w) (sym second.0) y.5) in
    (call_same p x.0 x.1 v w x.5 call, second.1)

pairs_determine : (p : Place) (h : Two) (a b : Rule) → Determines a → Determines b → Determines (Pairs p h a b)
pairs_determine p h a b one other k s v w r l x y =
    let first = next_same a one k s s x.0 y.0 x.2 y.2 refl x.3 y.3 in
    let second = next_same b other k x.2 y.2 x.1 y.1 r l first.1 x.4 y.4 in (
      node_same p (two_form h x.0 x.1) (two_form h y.0 y.1) v w (ap (λ (d : Tree). two_form h d x.1) first.0 ∙ ap (λ (e : Tree). two_form h y.0 e) second.0) x.5 y.5,
      second.1,
    )

joins_determine : (p : Place) (h : Two) (a b : Rule) → Determines a → Determines b → Determines (Joins p h a b)
joins_determine p shape.call a b one other = calls_determine p a b one other
joins_determine p (shape.arithmetic o) a b one other = pairs_determine p (shape.arithmetic o) a b one other
joins_determine p (shape.compare o) a b one other = pairs_determine p (shape.compare o) a b one other
joins_determine p shape.and_of a b one other = pairs_determine p shape.and_of a b one other
joins_determine p shape.or_of a b one other = pairs_determine p shape.or_of a b one other
joins_determine p shape.make a b one other = pairs_determine p shape.make a b one other
joins_determine p shape.fetch a b one other = pairs_determine p shape.fetch a b one other
joins_determine p shape.map_find a b one other = pairs_determine p shape.map_find a b one other

-- ---- rows

abbrev RowDetermines : List Rule → Type 0
RowDetermines as_ = (k : Frame) (s m : Sources) (ts us : List Tree) (r l : Sources) → s ≡ m → InRow as_ k s ts r → InRow as_ k m us l → (ts ≡ us) × (r ≡ l)

none_determine : RowDetermines []
none_determine k s m ts us r l same x y = (x.0 ∙ sym y.0, sym x.1 ∙ same ∙ y.1)

more_determine : (a : Rule) (as_ : List Rule) → Determines a → RowDetermines as_ → RowDetermines (a ∷ as_)
more_determine a as_ one others k s m ts us r l same x y =
    let first = next_same a one k s m x.0 y.0 x.2 y.2 same x.3 y.3 in
    let rest = others k x.2 y.2 x.1 y.1 r l first.1 x.4 y.4 in
    (x.5 ∙ ap (λ (t : Tree). t ∷ x.1) first.0 ∙ ap (λ (qs : List Tree). y.0 ∷ qs) rest.0 ∙ sym y.5, rest.1)

-- ---- patterns

under_same : (a : Rule) → Determines a → (q : Pattern) (before after : Sources) (k : Frame) (s m : Sources) (t u : Tree) (r l : Sources) → before ≡ after → s ≡ m
    → Under a q before k s t r → Under a q after k m u l → (t ≡ u) × (r ≡ l)
under_same a one q before after k s m t u r l same places first second =
    next_same a one (shown (length before) q k) s m t u r l places first (subst (λ (o : Sources). a (shown (length o) q k) m (whole u) l) (sym same) second)

function_same : (tupled : Bool) (q : Pattern) (a : Rule) → Determines a → (k : Frame) (s : Sources) (p o : Pattern) (t u : Tree) (r l : Sources)
    → IsFunction tupled q a k s p t r → IsFunction tupled q a k s o u l → (p ≡ o) × (t ≡ u) × (r ≡ l)
function_same false q a one k s p o t u r l x y =
    let body = under_same a one q s s k (with_names s q) (with_names s q) t u r l refl refl x.0 y.0 in (x.1 ∙ sym y.1, body.0, body.1)
function_same true q a one k s p o t u r l x y =
    let made = s ++ None ∷ [] in
    let body = under_same a one q made made k (with_names made q) (with_names made q) x.0 y.0 r l refl refl x.1 y.1 in
    (x.2 ∙ sym y.2, x.3 ∙ ap (λ (e : Tree). match_on_it (length s) q e) body.0 ∙ sym y.3, body.1)

abbrev ArmsDetermine : List (Arm Rule) → Type 0
ArmsDetermine as_ = (k : Frame) (s m : Sources) (cs ds : Cases) (r l : Sources) → s ≡ m → InArms as_ k s cs r → InArms as_ k m ds l → (cs ≡ ds) × (r ≡ l)

no_arms_determine : ArmsDetermine []
no_arms_determine k s m cs ds r l same x y = (x.0 ∙ sym y.0, sym x.1 ∙ same ∙ y.1)

arm_determines : (q : Pattern) (a : Rule) (as_ : List (Arm Rule)) → Determines a → ArmsDetermine as_ → ArmsDetermine ((record { pattern = q; body = a }) ∷ as_)
arm_determines q a as_ one others k s m cs ds r l same x y =
    let first = under_same a one q s m k (with_names s q) (with_names m q) x.0 y.0 x.2 y.2 same (ap (λ (o : Sources). with_names o q) same) x.3 y.3 in
    let rest = others k x.2 y.2 x.1 y.1 r l first.1 x.4 y.4 in (
      x.5 ∙ ap (λ (o : Sources). more_cases (numbered (length o) q) x.0 x.1) same ∙ ap (λ (t : Tree). more_cases (numbered (length m) q) t x.1) first.0
          ∙ ap (λ (es : Cases). more_cases (numbered (length m) q) y.0 es) rest.0 ∙ sym y.5,
      rest.1,
    )

-- a match, by what stands before it and its first arm
plain_determines : (p : Place) (a : Rule) (as_ : List (Arm Rule)) → Determines a → ArmsDetermine as_ → Determines (Matches false p a as_)
plain_determines p a as_ one others k s v w r l x y =
    let first = next_same a one k s s x.0 y.0 x.2 y.2 refl x.3 y.3 in
    let rest = others k x.2 y.2 x.1 y.1 r l first.1 x.4 y.4 in (
      node_same p (form.match_on x.0 x.1) (form.match_on y.0 y.1) v w (ap (λ (e : Tree). form.match_on e x.1) first.0 ∙ ap (λ (cs : Cases). form.match_on y.0 cs) rest.0) x.5 y.5,
      rest.1,
    )

bare_match_determines : (p : Place) (a : Rule) → Determines a → Determines (Matches true p a [])
bare_match_determines p a one k s v w r l x y =
    let first = next_same a one k s s x.0 y.0 r l refl x.1 y.1 in
    (node_same p (form.match_on x.0 no_cases) (form.match_on y.0 no_cases) v w (ap (λ (e : Tree). form.match_on e no_cases) first.0) x.2 y.2, first.1)

let_match_determines : (p : Place) (a : Rule) (q : Pattern) (b : Rule) (as_ : List (Arm Rule)) → Determines a → Determines b → ArmsDetermine as_
    → Determines (Matches true p a ((record { pattern = q; body = b }) ∷ as_))
let_match_determines p a q b as_ one other others k s v w r l x y =
    let at = with_names s q in
    let first = next_same a one k at at x.0 y.0 x.3 y.3 refl x.5 y.5 in
    let second = under_same b other q s s k x.3 y.3 x.1 y.1 x.4 y.4 refl first.1 x.6 y.6 in
    let rest = others k x.4 y.4 x.2 y.2 r l second.1 x.7 y.7 in (
      node_same p (form.match_on x.0 (more_cases (numbered (length s) q) x.1 x.2)) (form.match_on y.0 (more_cases (numbered (length s) q) y.1 y.2)) v w
          (ap (λ (e : Tree). form.match_on e (more_cases (numbered (length s) q) x.1 x.2)) first.0
          ∙ ap (λ (t : Tree). form.match_on y.0 (more_cases (numbered (length s) q) t x.2)) second.0
          ∙ ap (λ (cs : Cases). form.match_on y.0 (more_cases (numbered (length s) q) y.1 cs)) rest.0) x.8 y.8,
      rest.1,
    )

module _ (names : List (List ℕ)) where
  leaf_same : (p : Place) (h : Leaf) (k : Frame) (v w : Value) → IsLeaf names p h k v → IsLeaf names p h k w → v ≡ w
  leaf_same p (shape.use_of x) k v w first second = use_same p (arity_in k.variables x) (primitive_named (text_of names x)) v w first second
  leaf_same p (shape.qualified m x) k v w first second = primitive_same p (primitive_in (text_of names m) (text_of names x)) v w first second
  leaf_same p (shape.whole m) k v w first second = first ∙ sym second
  leaf_same p (shape.flag b) k v w first second = first ∙ sym second
  leaf_same p shape.unit k v w first second = first ∙ sym second
  leaf_same p shape.assert_false k v w first second = first ∙ sym second
  leaf_same p shape.map_empty k v w first second = first ∙ sym second

  leaf_determines : (t : Tree) (h : Leaf) → Determines ((ruling names).leaf t h)
  leaf_determines t h k s v w r l x y = (leaf_same (place_of t) h k v w x.0 y.0, sym x.1 ∙ y.1)

  one_determines : (t : Tree) (h : One) (a : Rule) → Determines a → Determines ((ruling names).one t h a)
  one_determines t h a one k s v w r l x y =
      let first = next_same a one k s s x.0 y.0 r l refl x.1 y.1 in
      (node_same (place_of t) (one_form h x.0) (one_form h y.0) v w (ap (λ (e : Tree). one_form h e) first.0) x.2 y.2, first.1)

  three_determines : (t : Tree) (h : Three) (a b c : Rule) → Determines a → Determines b → Determines c → Determines ((ruling names).three t h a b c)
  three_determines t h a b c one other last k s v w r l x y =
      let first = next_same a one k s s x.0 y.0 x.3 y.3 refl x.5 y.5 in
      let second = next_same b other k x.3 y.3 x.1 y.1 x.4 y.4 first.1 x.6 y.6 in
      let third = next_same c last k x.4 y.4 x.2 y.2 r l second.1 x.7 y.7 in (
        node_same (place_of t) (three_form h x.0 x.1 x.2) (three_form h y.0 y.1 y.2) v w
            (ap (λ (d : Tree). three_form h d x.1 x.2) first.0 ∙ ap (λ (e : Tree). three_form h y.0 e x.2) second.0 ∙ ap (λ (f : Tree). three_form h y.0 y.1 f) third.0) x.8 y.8,
        third.1,
      )

  row_determines : (t : Tree) (h : Row) (as_ : List Rule) → RowDetermines as_ → Determines ((ruling names).row t h as_)
  row_determines t h as_ others k s v w r l x y =
      let parts = others k s s x.0 y.0 r l refl x.1 y.1 in
      (node_same (place_of t) (row_form h k.constructors x.0) (row_form h k.constructors y.0) v w (ap (λ (ts : List Tree). row_form h k.constructors ts) parts.0) x.2 y.2, parts.1)

  function_determines : (t : Tree) (q : Pattern) (a : Rule) → Determines a → Determines ((ruling names).function t q a)
  function_determines t q a one k s v w r l x y =
      let is = function_same (is_tuple q) q a one k s x.0 y.0 x.1 y.1 r l x.2 y.2 in
      (node_same (place_of t) (form.fun x.0 x.1) (form.fun y.0 y.1) v w (ap (λ (p : Pattern). form.fun p x.1) is.0 ∙ ap (λ (e : Tree). form.fun y.0 e) is.1) x.3 y.3, is.2)

  let_determines : (t : Tree) (q : Pattern) (a b : Rule) → Determines a → Determines b → Determines ((ruling names).let_in t q a b)
  let_determines t q a b one other k s v w r l x y =
      let at = with_names s q in
      let first = next_same a one k at at x.0 y.0 x.2 y.2 refl x.3 y.3 in
      let second = under_same b other q s s k x.2 y.2 x.1 y.1 r l refl first.1 x.4 y.4 in (
        node_same (place_of t) (form.let_in (numbered (length s) q) x.0 x.1) (form.let_in (numbered (length s) q) y.0 y.1) v w
            (ap (λ (e : Tree). form.let_in (numbered (length s) q) e x.1) first.0 ∙ ap (λ (f : Tree). form.let_in (numbered (length s) q) y.0 f) second.0) x.5 y.5,
        second.1,
      )

  let_rec_determines : (t : Tree) (f i : ℕ) (o : Place) (q : Pattern) (a b : Rule) → Determines a → Determines b → Determines ((ruling names).let_rec t f i o q a b)
  let_rec_determines t f i o q a b one other k s v w r l x y =
      let j = named (length s) f k in
      let is = function_same (is_tuple q) q a one j (s ++ Some f ∷ []) x.0 y.0 x.1 y.1 x.3 y.3 x.4 y.4 in
      let rest = next_same b other j x.3 y.3 x.2 y.2 r l is.2 x.5 y.5 in (
        node_same (place_of t) (form.let_rec (length s) 0 o x.0 x.1 x.2) (form.let_rec (length s) 0 o y.0 y.1 y.2) v w
            (ap (λ (p : Pattern). form.let_rec (length s) 0 o p x.1 x.2) is.0 ∙ ap (λ (e : Tree). form.let_rec (length s) 0 o y.0 e x.2) is.1
            ∙ ap (λ (g : Tree). form.let_rec (length s) 0 o y.0 y.1 g) rest.0) x.6 y.6,
        rest.1,
      )

  abbrev Bodies : Cases → Type 0
  Bodies no_cases = Unit {0}
  Bodies (more_cases q b cs) = Determines (Becomes names b) × Bodies cs

  arms_determine : (cs : Cases) → Bodies cs → ArmsDetermine (fold_cases (ruling names) cs)
  arms_determine no_cases ones = no_arms_determine
  arms_determine (more_cases q b cs) ones = arm_determines q (Becomes names b) (fold_cases (ruling names) cs) ones.0 (arms_determine cs ones.1)

  match_determines : (written : Bool) (p : Place) (a : Rule) (cs : Cases) → Determines a → Bodies cs → Determines (Matches written p a (fold_cases (ruling names) cs))
  match_determines false p a cs one ones = plain_determines p a (fold_cases (ruling names) cs) one (arms_determine cs ones)
  match_determines true p a no_cases one ones = bare_match_determines p a one
  match_determines true p a (more_cases q b cs) one ones =
      let_match_determines p a q (Becomes names b) (fold_cases (ruling names) cs) one ones.0 (arms_determine cs ones.1)

  mutual
    tree_determines : (t : Tree) → Determines (Becomes names t)
    tree_determines (tree i p f) = form_determines i p f

    form_determines : (i : ℕ) (p : Place) (f : Form) → Determines (Becomes names (tree i p f))
    form_determines i p (form.whole m) = leaf_determines (tree i p (form.whole m)) (shape.whole m)
    form_determines i p (form.flag b) = leaf_determines (tree i p (form.flag b)) (shape.flag b)
    form_determines i p form.unit = leaf_determines (tree i p form.unit) shape.unit
    form_determines i p (form.use_of x) = leaf_determines (tree i p (form.use_of x)) (shape.use_of x)
    form_determines i p (form.qualified m x) = leaf_determines (tree i p (form.qualified m x)) (shape.qualified m x)
    form_determines i p form.assert_false = leaf_determines (tree i p form.assert_false) shape.assert_false
    form_determines i p form.map_empty = leaf_determines (tree i p form.map_empty) shape.map_empty
    form_determines i p (form.fun q b) = function_determines (tree i p (form.fun q b)) q (Becomes names b) (tree_determines b)
    form_determines i p (form.tuple es) = row_determines (tree i p (form.tuple es)) shape.tuple (fold_all (ruling names) es) (all_determine es)
    form_determines i p (form.build c w es) = row_determines (tree i p (form.build c w es)) (shape.build c w) (fold_all (ruling names) es) (all_determine es)
    form_determines i p (form.list_of es) = row_determines (tree i p (form.list_of es)) shape.list_of (fold_all (ruling names) es) (all_determine es)
    form_determines i p (form.chain es) = row_determines (tree i p (form.chain es)) shape.chain (fold_all (ruling names) es) (all_determine es)
    form_determines i p (form.let_in q e b) = let_determines (tree i p (form.let_in q e b)) q (Becomes names e) (Becomes names b) (tree_determines e) (tree_determines b)
    form_determines i p (form.let_rec f j r q e b) =
        let_rec_determines (tree i p (form.let_rec f j r q e b)) f j r q (Becomes names e) (Becomes names b) (tree_determines e) (tree_determines b)
    form_determines i p (form.call a b) = joins_determine p shape.call (Becomes names a) (Becomes names b) (tree_determines a) (tree_determines b)
    form_determines i p (form.arithmetic o a b) = joins_determine p (shape.arithmetic o) (Becomes names a) (Becomes names b) (tree_determines a) (tree_determines b)
    form_determines i p (form.compare o a b) = joins_determine p (shape.compare o) (Becomes names a) (Becomes names b) (tree_determines a) (tree_determines b)
    form_determines i p (form.and_of a b) = joins_determine p shape.and_of (Becomes names a) (Becomes names b) (tree_determines a) (tree_determines b)
    form_determines i p (form.or_of a b) = joins_determine p shape.or_of (Becomes names a) (Becomes names b) (tree_determines a) (tree_determines b)
    form_determines i p (form.make a b) = joins_determine p shape.make (Becomes names a) (Becomes names b) (tree_determines a) (tree_determines b)
    form_determines i p (form.fetch a b) = joins_determine p shape.fetch (Becomes names a) (Becomes names b) (tree_determines a) (tree_determines b)
    form_determines i p (form.map_find a b) = joins_determine p shape.map_find (Becomes names a) (Becomes names b) (tree_determines a) (tree_determines b)
    form_determines i p (form.negated a) = one_determines (tree i p (form.negated a)) shape.negated (Becomes names a) (tree_determines a)
    form_determines i p (form.not_of a) = one_determines (tree i p (form.not_of a)) shape.not_of (Becomes names a) (tree_determines a)
    form_determines i p (form.assert a) = one_determines (tree i p (form.assert a)) shape.assert (Becomes names a) (tree_determines a)
    form_determines i p (form.length_of a) = one_determines (tree i p (form.length_of a)) shape.length_of (Becomes names a) (tree_determines a)
    form_determines i p (form.print a) = one_determines (tree i p (form.print a)) shape.print (Becomes names a) (tree_determines a)
    form_determines i p (form.read a) = one_determines (tree i p (form.read a)) shape.read (Becomes names a) (tree_determines a)
    form_determines i p (form.if_else a b c) =
        three_determines (tree i p (form.if_else a b c)) shape.if_else (Becomes names a) (Becomes names b) (Becomes names c) (tree_determines a) (tree_determines b) (tree_determines c)
    form_determines i p (form.store a b c) =
        three_determines (tree i p (form.store a b c)) shape.store (Becomes names a) (Becomes names b) (Becomes names c) (tree_determines a) (tree_determines b) (tree_determines c)
    form_determines i p (form.map_add a b c) =
        three_determines (tree i p (form.map_add a b c)) shape.map_add (Becomes names a) (Becomes names b) (Becomes names c) (tree_determines a) (tree_determines b) (tree_determines c)
    form_determines i p (form.match_on e cs) = match_determines (has_let e cs) p (Becomes names e) cs (tree_determines e) (bodies_determine cs)

    all_determine : (es : Trees) → RowDetermines (fold_all (ruling names) es)
    all_determine no_trees = none_determine
    all_determine (more_trees e es) = more_determine (Becomes names e) (fold_all (ruling names) es) (tree_determines e) (all_determine es)

    bodies_determine : (cs : Cases) → Bodies cs
    bodies_determine no_cases = tt
    bodies_determine (more_cases q b cs) = (tree_determines b, bodies_determine cs)

  -- ---- items

  abbrev ItemsDetermine : List ItemTree → Type 0
  ItemsDetermine is =
      (k : Frame) (s m : Sources) (js hs : List ItemTree) (r l : Sources) → s ≡ m → ItemsBecome names is k s js r → ItemsBecome names is k m hs l → (js ≡ hs) × (r ≡ l)

  item_same : (p : Place) (f : ItemForm) (is : List ItemTree) → ItemsDetermine is → (k : Frame) (s : Sources) (js hs : List ItemTree) (r l : Sources)
      → ItemBecomes names p f (ItemsBecome names is) k s js r → ItemBecomes names p f (ItemsBecome names is) k s hs l → (js ≡ hs) × (r ≡ l)
  item_same p (type_of d) is others k s js hs r l x y = others (frame_with k.variables (with_constructors k.constructors d.constructors)) s s js hs r l refl x y
  item_same p (let_of q e) is others k s js hs r l x y =
      let at = with_names s q in
      let first = next_same (Becomes names e) (tree_determines e) k at at x.0 y.0 x.2 y.2 refl x.3 y.3 in
      let rest = others (shown (length s) q k) x.2 y.2 x.1 y.1 r l first.1 x.4 y.4 in (
        x.5 ∙ ap (λ (t : Tree). item_at p (let_of (numbered (length s) q) t) ∷ x.1) first.0
            ∙ ap (λ (gs : List ItemTree). item_at p (let_of (numbered (length s) q) y.0) ∷ gs) rest.0 ∙ sym y.5,
        rest.1,
      )
  item_same p (let_rec_of f g) is others k s js hs r l x y =
      let j = named (length s) f k in
      let is_one = function_same (is_tuple g.parameter) g.parameter (Becomes names g.body) (tree_determines g.body) j (s ++ Some f ∷ []) x.0 y.0 x.1 y.1 x.3 y.3 x.4 y.4 in
      let rest = others j x.3 y.3 x.2 y.2 r l is_one.2 x.5 y.5 in (
        x.6 ∙ ap (λ (q : Pattern). item_at p (let_rec_of (length s) (function_at g.place q x.1)) ∷ x.2) is_one.0
            ∙ ap (λ (t : Tree). item_at p (let_rec_of (length s) (function_at g.place y.0 t)) ∷ x.2) is_one.1
            ∙ ap (λ (gs : List ItemTree). item_at p (let_rec_of (length s) (function_at g.place y.0 y.1)) ∷ gs) rest.0 ∙ sym y.6,
        rest.1,
      )

  items_determine : (is : List ItemTree) → ItemsDetermine is
  items_determine [] k s m js hs r l same x y = (x.0 ∙ sym y.0, sym x.1 ∙ same ∙ y.1)
  items_determine (i ∷ is) k s m js hs r l same x y =
      item_same i.place i.form is (items_determine is) k s js hs r l x (subst (λ (o : Sources). ItemsBecome names (i ∷ is) k o hs l) (sym same) y)

pub one_tree : OneTree
one_tree names is a b x y = items_determine names is first_frame [] [] (bare_items a.items) (bare_items b.items) a.sources b.sources refl x y
