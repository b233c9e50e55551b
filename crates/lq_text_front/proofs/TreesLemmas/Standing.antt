-- The patterns of a node stand where a text can have them, where those of its parts do.
use Rattle.std.proofs.Common.{◌≡◌, ℕ, Bool, true, false, List, [], ◌∷◌, ◌++◌, refl, ap, ◌∙◌}
use Rattle.std.proofs.lemmas.Bool.{and_from, and_parts}
use Rattle.lq_base_names.specs.declared.place.Place.{Place}
use Rattle.lq_text_tree.specs.Items.{Datatype, ItemTree, type_of, let_of, let_rec_of}
use Rattle.lq_text_tree.specs.Pattern.{Pattern, pattern, any, bind, nothing, tuple_of, build_of}
use Rattle.lq_text_tree.specs.Tree as form
use Rattle.lq_text_tree.specs.Tree.{Tree, tree, Form}
use Rattle.lq_text_tree.specs.TreeView.{Case, Recursive, trees_of, cases_of}
use Rattle.lq_text_walk.specs.Walk.Fold.{fold_all, fold_cases}
use Rattle.lq_text_walk.specs.Walk.Visits.{Visit, leave, leave_item, leave_function, declare, show, hide, show_name, hide_name, under, around, in_row, in_arms, in_match, is_let, visiting, visits_of, visits_of_item, visits_of_items}
use Rattle.lq_text_scope.specs.Uses.{shape_in}
use Rattle.lq_text_actions.specs.Expressions.{let_form}
use Rattle.lq_text_walk.specs.Scoped.Uses.{is_parameter}
use Rattle.lq_text_resolve.specs.Resolution.Parameters.{all_stand, is_taken, stands, takes_well}

abbrev pub Stand : List Visit → Type 0
Stand vs = all_stand vs ≡ true

abbrev pub Good : Tree → Type 0
Good t = Stand (visits_of t)

abbrev pub Goods : List Tree → Type 0
Goods [] = Unit {0}
Goods (t ∷ ts) = Good t × Goods ts

abbrev pub GoodArms : List Case → Type 0
GoodArms [] = Unit {0}
GoodArms (c ∷ cs) = Good c.body × GoodArms cs

pub goods-more : (es : List Tree) (b : Tree) → Goods es → Good b → Goods (es ++ b ∷ [])
goods-more [] b gs g = (g, tt)
goods-more (e ∷ es) b gs g = (gs.0, goods-more es b gs.1 g)

pub arms-more : (as_ : List Case) (c : Case) → GoodArms as_ → Good c.body → GoodArms (as_ ++ c ∷ [])
arms-more [] c gs g = (g, tt)
arms-more (a ∷ as_) c gs g = (gs.0, arms-more as_ c gs.1 g)

pub stand-both : (vs ws : List Visit) → Stand vs → Stand ws → Stand (vs ++ ws)
stand-both [] ws first second = second
stand-both (v ∷ vs) ws first second =
    let both = and_parts (stands v) (all_stand vs) first in
    and_from (stands v) (all_stand (vs ++ ws)) both.0 (stand-both vs ws both.1 second)

stand-under : (p : Pattern) (vs : List Visit) → Stand vs → Stand (under p vs)
stand-under p vs s = stand-both vs (hide p ∷ []) s refl

pub good-node : (t : Tree) (vs : List Visit) → visits_of t ≡ around t vs → takes_well (shape_in t) ≡ true → Stand vs → Good t
good-node t vs is well s =
    ap all_stand is ∙ and_from (takes_well (shape_in t)) (all_stand (vs ++ leave t ∷ [])) well (stand-both vs (leave t ∷ []) s refl)

-- ---- shapes

pub good-leaf : (t : Tree) → visits_of t ≡ around t [] → takes_well (shape_in t) ≡ true → Good t
good-leaf t is well = good-node t [] is well refl

pub good-one : (t a : Tree) → visits_of t ≡ around t (visits_of a) → takes_well (shape_in t) ≡ true → Good a → Good t
good-one t a is well first = good-node t (visits_of a) is well first

pub good-two : (t a b : Tree) → visits_of t ≡ around t (visits_of a ++ visits_of b) → takes_well (shape_in t) ≡ true → Good a → Good b → Good t
good-two t a b is well first second =
    good-node t (visits_of a ++ visits_of b) is well (stand-both (visits_of a) (visits_of b) first second)

pub good-three : (t a b c : Tree) → visits_of t ≡ around t (visits_of a ++ (visits_of b ++ visits_of c)) → takes_well (shape_in t) ≡ true → Good a → Good b → Good c
    → Good t
good-three t a b c is well first second third =
    good-node t (visits_of a ++ (visits_of b ++ visits_of c)) is well
    (stand-both (visits_of a) (visits_of b ++ visits_of c) first (stand-both (visits_of b) (visits_of c) second third))

stand-row : (es : List Tree) → Goods es → Stand (in_row (fold_all visiting (trees_of es)))
stand-row [] gs = refl
stand-row (e ∷ es) gs = stand-both (visits_of e) (in_row (fold_all visiting (trees_of es))) gs.0 (stand-row es gs.1)

pub good-row : (t : Tree) (es : List Tree) → visits_of t ≡ around t (in_row (fold_all visiting (trees_of es))) → takes_well (shape_in t) ≡ true → Goods es → Good t
good-row t es is well gs = good-node t (in_row (fold_all visiting (trees_of es))) is well (stand-row es gs)

pub good-function : (i : ℕ) (p : Place) (q : Pattern) (b : Tree) → is_taken q ≡ true → Good b → Good (tree i p (form.fun q b))
good-function i p q b well g = good-node (tree i p (form.fun q b)) (declare q ∷ under q (visits_of b)) refl well (stand-under q (visits_of b) g)

pub good-let : (i : ℕ) (p : Place) (q : Pattern) (e b : Tree) → Good e → Good b → Good (tree i p (form.let_in q e b))
good-let i p q e b first second =
    good-node (tree i p (form.let_in q e b)) (declare q ∷ (visits_of e ++ under q (visits_of b))) refl refl
    (stand-both (visits_of e) (under q (visits_of b)) first (stand-under q (visits_of b) second))

stand-function : (r : Recursive) → is_taken r.parameter ≡ true → Good r.body → Stand (under r.parameter (visits_of r.body) ++ leave_function r ∷ [])
stand-function r well g =
    stand-both (under r.parameter (visits_of r.body)) (leave_function r ∷ []) (stand-under r.parameter (visits_of r.body) g) (and_from (is_taken r.parameter) true well refl)

pub good-recursive : (i f : ℕ) (p : Place) (r : Recursive) (b : Tree) → is_taken r.parameter ≡ true → Good r.body → Good b
    → Good (tree i p (form.let_rec f r.id r.place r.parameter r.body b))
good-recursive i f p r b well first second =
    let inside = under r.parameter (visits_of r.body) ++ leave_function r ∷ [] in
    good-node (tree i p (form.let_rec f r.id r.place r.parameter r.body b)) (show_name f ∷ ((declare r.parameter ∷ inside) ++ (visits_of b ++ hide_name f ∷ []))) refl refl
    (stand-both inside (visits_of b ++ hide_name f ∷ []) (stand-function r well first) (stand-both (visits_of b) (hide_name f ∷ []) second refl))

stand-arms : (cs : List Case) → GoodArms cs → Stand (in_arms (fold_cases visiting (cases_of cs)))
stand-arms [] gs = refl
stand-arms (c ∷ cs) gs =
    stand-both (under c.pattern (visits_of c.body)) (in_arms (fold_cases visiting (cases_of cs))) (stand-under c.pattern (visits_of c.body) gs.0) (stand-arms cs gs.1)

stand-match : (first : Bool) (e : Tree) (cs : List Case) → Good e → GoodArms cs → Stand (in_match first (visits_of e) (fold_cases visiting (cases_of cs)))
stand-match false e cs g gs = stand-both (visits_of e) (in_arms (fold_cases visiting (cases_of cs))) g (stand-arms cs gs)
stand-match true e [] g gs = stand-both (visits_of e) [] g refl
stand-match true e (c ∷ cs) g gs = stand-both (visits_of e) (under c.pattern (visits_of c.body) ++ in_arms (fold_cases visiting (cases_of cs))) g (stand-arms (c ∷ cs) gs)

pub good-match : (i : ℕ) (p : Place) (e : Tree) (cs : List Case) → Good e → GoodArms cs → Good (tree i p (form.match_on e (cases_of cs)))
good-match i p e cs g gs =
    let t = tree i p (form.match_on e (cases_of cs)) in
    good-node t (in_match (is_let t) (visits_of e) (fold_cases visiting (cases_of cs))) refl refl (stand-match (is_let t) e cs g gs)

-- a `let`, which is a match where a tuple stands on its left
pub good-binding : (i : ℕ) (p : Place) (q : Pattern) (e b : Tree) → Good e → Good b → Good (tree i p (let_form q e b))
good-binding i p (pattern m any) e b first second = good-let i p (pattern m any) e b first second
good-binding i p (pattern m (bind x)) e b first second = good-let i p (pattern m (bind x)) e b first second
good-binding i p (pattern m nothing) e b first second = good-let i p (pattern m nothing) e b first second
good-binding i p (pattern m (tuple_of ps)) e b first second = good-match i p e ((record { pattern = pattern m (tuple_of ps); body = b }) ∷ []) first (second, tt)
good-binding i p (pattern m (build_of c o ps)) e b first second = good-let i p (pattern m (build_of c o ps)) e b first second

-- ---- items

abbrev pub GoodItem : ItemTree → Type 0
GoodItem i = Stand (visits_of_item i)

abbrev pub AllGood : List ItemTree → Type 0
AllGood [] = Unit {0}
AllGood (i ∷ is) = GoodItem i × AllGood is

pub items-more : (is : List ItemTree) (i : ItemTree) → AllGood is → GoodItem i → AllGood (is ++ i ∷ [])
items-more [] i gs g = (g, tt)
items-more (j ∷ is) i gs g = (gs.0, items-more is i gs.1 g)

pub items-stand : (is : List ItemTree) → AllGood is → Stand (visits_of_items is)
items-stand [] gs = refl
items-stand (i ∷ is) gs = stand-both (visits_of_item i) (visits_of_items is) gs.0 (items-stand is gs.1)

pub good-type : (p : Place) (d : Datatype) → GoodItem (record { place = p; form = type_of d })
good-type p d = refl

pub good-item-let : (p : Place) (q : Pattern) (e : Tree) → is_parameter q ≡ true → Good e → GoodItem (record { place = p; form = let_of q e })
good-item-let p q e well g =
    and_from (is_parameter q) (all_stand ((declare q ∷ (visits_of e ++ show q ∷ [])) ++ leave_item (record { place = p; form = let_of q e }) ∷ [])) well
    (stand-both (visits_of e ++ show q ∷ []) (leave_item (record { place = p; form = let_of q e }) ∷ []) (stand-both (visits_of e) (show q ∷ []) g refl) refl)

pub good-item-rec : (p : Place) (f : ℕ) (r : Recursive) → is_taken r.parameter ≡ true → Good r.body → GoodItem (record { place = p; form = let_rec_of f r })
good-item-rec p f r well g =
    let inside = under r.parameter (visits_of r.body) ++ leave_function r ∷ [] in
    stand-both inside (leave_item (record { place = p; form = let_rec_of f r }) ∷ []) (stand-function r well g) refl
