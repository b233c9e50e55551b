-- How names are bound, a rule for each shape of node. A rule says what a node becomes by what its parts become; the numbers of nodes play no
-- part, so all trees here are bare. The source names of the binders so far are kept in the order of the text, and the next binder is their
-- number: so binders differ, and go upwards from 0.
use Rattle.std.specs.Prelude.{◌≡◌, ℕ, suc, Bool, true, false, List, [], ◌∷◌, ◌++◌, length, Option, Some, None}
use Rattle.lq_base_names.specs.declared.place.Place.{Place}
use Rattle.lq_text_tree.specs.declared.expr.Arguments.{Arguments}
use Rattle.lq_text_tree.specs.declared.expr.Arguments.TheVariants.{Apart, Listed}
use Rattle.lq_text_tree.specs.Items.{ItemTree, ItemForm, type_of, let_of, let_rec_of}
use Rattle.lq_text_tree.specs.Pattern.{Pattern, pattern, bind, bound_in}
use Rattle.lq_text_tree.specs.Tree as form
use Rattle.lq_text_tree.specs.Tree.{Tree, tree, Form, Cases, no_cases, more_cases}
use Rattle.lq_text_tree.specs.TreeView.{Recursive, trees_of}
use Rattle.lq_text_walk.specs.Walk.Fold.{Arm, Algebra, fold}
use Rattle.lq_text_walk.specs.Walk.Shape as shape
use Rattle.lq_text_walk.specs.Walk.Shape.{Leaf, Two, Row, listed}
use Rattle.lq_text_walk.specs.Walk.Visits.{is_let, place_of}
use Rattle.lq_text_scope.specs.Datatypes.{with_constructors}
use Rattle.lq_text_scope.specs.Known.{Arity, arity_in, text_of}
use Rattle.lq_text_scope.specs.Uses.{of_program}
use Rattle.lq_text_resolve.specs.Binding.Binding.{is_tuple, numbered, place_of_pattern, sources_of}
use Rattle.lq_text_resolve.specs.Binding.Heads.{Given, done, lacking, given, primitive_in, primitive_named}
use Rattle.lq_text_resolve.specs.Binding.Making.{Bound_tree, Frame, first_frame, frame_with, Value, whole, partly, named, one_form, program_made, shown, takes_more, three_form, two_form}
use Rattle.lq_text_resolve.specs.Resolution.Bare.{bare_items}

-- the source names of binders in the order of the text; a binder that was made has none
abbrev pub Sources : Type 0
Sources = List (Option ℕ)

-- Where these variables are visible and these binders were given before, it becomes this, and these binders are given then.
abbrev pub Rule : Type 1
Rule = Frame → Sources → Value → Sources → Type 0

-- it becomes a node of this form here
abbrev pub IsNode : Place → Form → Value → Type 0
IsNode p f v = v ≡ whole (tree 0 p f)

-- the binders of a pattern's names behind others
abbrev pub with_names : Sources → Pattern → Sources
with_names s q = s ++ sources_of (bound_in q)

-- ---- leaves and primitives

-- a primitive is a node once it has all its arguments
abbrev pub IsGiven : Place → Given → Value → Type 0
IsGiven p (done f) v = IsNode p f v
IsGiven p (lacking h) v = v ≡ partly h

-- what is no primitive becomes nothing
abbrev pub IsPrimitive : Place → Option Given → Value → Type 0
IsPrimitive p None v = ⊥
IsPrimitive p (Some g) v = IsGiven p g v

-- a use has the binder of the last definition of its name that is visible; without one it is a primitive
abbrev pub IsUse : Place → Option ℕ → Option Given → Value → Type 0
IsUse p (Some b) g v = IsNode p (form.use_of b) v
IsUse p None g v = IsPrimitive p g v

-- ---- parts

-- a call of what this part became
abbrev pub IsCall : Place → Value → Tree → Value → Type 0
IsCall p (whole f) a v = IsNode p (form.call f a) v
IsCall p (partly h) a v = IsGiven p (given h a) v

-- a call of anything, of a primitive with a part of its arguments too
abbrev pub Calls : Place → Rule → Rule → Rule
Calls p a b k s v r = (f : Value) × (e : Tree) × (m : Sources) × a k s f m × b k m (whole e) r × IsCall p f e v

-- two parts, from left to right
abbrev pub Pairs : Place → Two → Rule → Rule → Rule
Pairs p h a b k s v r = (d : Tree) × (e : Tree) × (m : Sources) × a k s (whole d) m × b k m (whole e) r × IsNode p (two_form h d e) v

-- a call, or what else has two parts
abbrev pub Joins : Place → Two → Rule → Rule → Rule
Joins p shape.call a b = Calls p a b
Joins p (shape.arithmetic o) a b = Pairs p (shape.arithmetic o) a b
Joins p (shape.compare o) a b = Pairs p (shape.compare o) a b
Joins p shape.and_of a b = Pairs p shape.and_of a b
Joins p shape.or_of a b = Pairs p shape.or_of a b
Joins p shape.make a b = Pairs p shape.make a b
Joins p shape.fetch a b = Pairs p shape.fetch a b
Joins p shape.map_find a b = Pairs p shape.map_find a b

-- parts in a row become these trees
abbrev pub InRow : List Rule → Frame → Sources → List Tree → Sources → Type 0
InRow [] k s ts r = (ts ≡ []) × (s ≡ r)
InRow (a ∷ as_) k s ts r = (t : Tree) × (us : List Tree) × (m : Sources) × a k s (whole t) m × InRow as_ k m us r × (ts ≡ t ∷ us)

-- the parts of a tuple, or the tree itself
abbrev pub parts_in : Tree → List Tree
parts_in (tree i p (form.tuple us)) = listed us
parts_in t = t ∷ []

-- by whether the constructor has two fields or more
abbrev pub arguments_in : Bool → List Tree → List Tree
arguments_in true (t ∷ []) = parts_in t
arguments_in true [] = []
arguments_in true (t ∷ (u ∷ ts)) = t ∷ u ∷ ts
arguments_in false ts = ts

-- The arguments of a constructor with so many fields. The one part in its parentheses is an argument, or its own parts are, if it is a tuple
-- and the constructor has two fields or more.
abbrev pub arguments_of : Arguments → Option ℕ → List Tree → List Tree
arguments_of Apart fields ts = ts
arguments_of Listed fields ts = arguments_in (takes_more fields) ts

-- a row of parts; of a constructor each part is an argument
abbrev pub row_form : Row → List Arity → List Tree → Form
row_form shape.tuple cs ts = form.tuple (trees_of ts)
row_form (shape.build c w) cs ts = form.build c Apart (trees_of (arguments_of w (arity_in cs c) ts))
row_form shape.list_of cs ts = form.list_of (trees_of ts)
row_form shape.chain cs ts = form.chain (trees_of ts)

-- ---- patterns

-- what stands under a pattern whose names have the binders behind these
abbrev pub Under : Rule → Pattern → Sources → Frame → Sources → Tree → Sources → Type 0
Under a q before k s t r = a (shown (length before) q k) s (whole t) r

-- a match on a binder, whose one arm has the names that stand behind it
abbrev pub match_on_it : ℕ → Pattern → Tree → Tree
match_on_it b q t =
    tree 0 (place_of_pattern q) (form.match_on (tree 0 (place_of_pattern q) (form.use_of b)) (more_cases (numbered (suc b) q) t no_cases))

-- A function. A parameter that is a tuple becomes a binder that was made, and the body a match on it.
abbrev pub IsFunction : Bool → Pattern → Rule → Frame → Sources → Pattern → Tree → Sources → Type 0
IsFunction false q a k s p t r = Under a q s k (with_names s q) t r × (p ≡ numbered (length s) q)
IsFunction true q a k s p t r =
    (u : Tree) × Under a q (s ++ None ∷ []) k (with_names (s ++ None ∷ []) q) u r × (p ≡ pattern (place_of_pattern q) (bind (length s)))
    × (t ≡ match_on_it (length s) q u)

-- by whether the parameter is a tuple
abbrev pub Functions : Pattern → Rule → Frame → Sources → Pattern → Tree → Sources → Type 0
Functions q a = IsFunction (is_tuple q) q a

-- arms, each with the binders of its pattern before those of its body
abbrev pub InArms : List (Arm Rule) → Frame → Sources → Cases → Sources → Type 0
InArms [] k s cs r = (cs ≡ no_cases) × (s ≡ r)
InArms (a ∷ as_) k s cs r =
    (t : Tree) × (ds : Cases) × (m : Sources) × Under a.body a.pattern s k (with_names s a.pattern) t m × InArms as_ k m ds r
    × (cs ≡ more_cases (numbered (length s) a.pattern) t ds)

-- A match. One that was written as a `let` has the binders of its pattern before those of what is matched.
abbrev pub Matches : Bool → Place → Rule → List (Arm Rule) → Rule
Matches false p a as_ k s v r = (e : Tree) × (cs : Cases) × (m : Sources) × a k s (whole e) m × InArms as_ k m cs r × IsNode p (form.match_on e cs) v
Matches true p a [] k s v r = (e : Tree) × a k s (whole e) r × IsNode p (form.match_on e no_cases) v
Matches true p a (b ∷ bs) k s v r =
    (e : Tree) × (t : Tree) × (cs : Cases) × (m : Sources) × (l : Sources) × a k (with_names s b.pattern) (whole e) m × Under b.body b.pattern s k m t l × InArms bs k l cs r
    × IsNode p (form.match_on e (more_cases (numbered (length s) b.pattern) t cs)) v

-- ---- items

-- an item, and the function of a recursive definition
abbrev pub item_at : Place → ItemForm → ItemTree
item_at p f = record { place = p; form = f }

abbrev pub function_at : Place → Pattern → Tree → Recursive
function_at p q t = record { id = 0; place = p; parameter = q; body = t }

module _ (names : List (List ℕ)) where
  -- a node without parts, by what is visible
  abbrev pub IsLeaf : Place → Leaf → Frame → Value → Type 0
  IsLeaf p (shape.use_of x) k v = IsUse p (arity_in k.variables x) (primitive_named (text_of names x)) v
  IsLeaf p (shape.qualified m x) k v = IsPrimitive p (primitive_in (text_of names m) (text_of names x)) v
  IsLeaf p (shape.whole m) k v = IsNode p (form.whole m) v
  IsLeaf p (shape.flag b) k v = IsNode p (form.flag b) v
  IsLeaf p shape.unit k v = IsNode p form.unit v
  IsLeaf p shape.assert_false k v = IsNode p form.assert_false v
  IsLeaf p shape.map_empty k v = IsNode p form.map_empty v

  -- the rule of each shape
  abbrev pub ruling : Algebra Rule
  ruling = record {
    leaf = λ t h k s v r. IsLeaf (place_of t) h k v × (s ≡ r);
    one = λ t h a k s v r. (e : Tree) × a k s (whole e) r × IsNode (place_of t) (one_form h e) v;
    two = λ t h a b. Joins (place_of t) h a b;
    three = λ t h a b c k s v r.
        (d : Tree) × (e : Tree) × (f : Tree) × (m : Sources) × (l : Sources) × a k s (whole d) m × b k m (whole e) l × c k l (whole f) r
        × IsNode (place_of t) (three_form h d e f) v;
    row = λ t h as_ k s v r. (ts : List Tree) × InRow as_ k s ts r × IsNode (place_of t) (row_form h k.constructors ts) v;
    function = λ t q a k s v r. (p : Pattern) × (e : Tree) × Functions q a k s p e r × IsNode (place_of t) (form.fun p e) v;
    let_in = λ t q a b k s v r.
        (e : Tree) × (f : Tree) × (m : Sources) × a k (with_names s q) (whole e) m × Under b q s k m f r × IsNode (place_of t) (form.let_in (numbered (length s) q) e f) v;
    let_rec = λ t f i l q a b k s v r.
        (p : Pattern) × (e : Tree) × (g : Tree) × (m : Sources) × Functions q a (named (length s) f k) (s ++ Some f ∷ []) p e m
        × b (named (length s) f k) m (whole g) r × IsNode (place_of t) (form.let_rec (length s) 0 l p e g) v;
    match_on = λ t a as_. Matches (is_let t) (place_of t) a as_;
  }

  -- what a tree becomes
  abbrev pub Becomes : Tree → Rule
  Becomes = fold ruling

  -- ---- items

  -- A definition of a datatype leaves its constructors; other items become items, each with its names visible to those behind it.
  abbrev pub ItemBecomes : Place → ItemForm → (Frame → Sources → List ItemTree → Sources → Type 0) → Frame → Sources → List ItemTree → Sources → Type 0
  ItemBecomes p (type_of d) rest k s js r = rest (frame_with k.variables (with_constructors k.constructors d.constructors)) s js r
  ItemBecomes p (let_of q e) rest k s js r =
      (t : Tree) × (hs : List ItemTree) × (m : Sources) × Becomes e k (with_names s q) (whole t) m × rest (shown (length s) q k) m hs r
      × (js ≡ item_at p (let_of (numbered (length s) q) t) ∷ hs)
  ItemBecomes p (let_rec_of f g) rest k s js r =
      (q : Pattern) × (t : Tree) × (hs : List ItemTree) × (m : Sources)
      × Functions g.parameter (Becomes g.body) (named (length s) f k) (s ++ Some f ∷ []) q t m × rest (named (length s) f k) m hs r
      × (js ≡ item_at p (let_rec_of (length s) (function_at g.place q t)) ∷ hs)

  abbrev pub ItemsBecome : List ItemTree → Frame → Sources → List ItemTree → Sources → Type 0
  ItemsBecome [] k s js r = (js ≡ []) × (s ≡ r)
  ItemsBecome (i ∷ is) k s js r = ItemBecomes i.place i.form (ItemsBecome is) k s js r

  -- these are the definitions of a program with their names bound, and the source names of their binders
  abbrev pub Resolves : List ItemTree → Bound_tree → Type 0
  Resolves is b = ItemsBecome is first_frame [] (bare_items b.items) b.sources

-- each program without complaints has them, as they are made
abbrev pub MadeResolves : Type 0
MadeResolves = (names : List (List ℕ)) (is : List ItemTree) → of_program names is ≡ [] → Resolves names is (program_made names is)

-- and no others
abbrev pub OneTree : Type 0
OneTree =
    (names : List (List ℕ)) (is : List ItemTree) (a b : Bound_tree) → Resolves names is a → Resolves names is b → (bare_items a.items ≡ bare_items b.items) × (a.sources ≡ b.sources)
