-- What a walk over a program meets, one after another: each node before its parts and behind them, in the order of the text, and
-- where patterns stand, hold and hold no longer.
use Rattle.std.specs.Prelude.{ℕ, Bool, true, false, ◌&&◌, ◌||◌, nat_lt, ◌==◌, List, [], ◌∷◌, ◌++◌, if◌then◌else◌}
use Rattle.lq_base_names.specs.declared.place.Place.{Place}
use Rattle.lq_text_tree.specs.Items.{ItemTree, ItemForm, type_of, let_of, let_rec_of}
use Rattle.lq_text_tree.specs.Pattern.{Pattern, pattern, any}
use Rattle.lq_text_tree.specs.Tree.{Tree, tree, Form, match_on, let_rec, Cases, no_cases, more_cases}
use Rattle.lq_text_tree.specs.TreeView.{Recursive}
use Rattle.lq_text_walk.specs.Walk.Fold.{Arm, Algebra, fold}

pub data Visit : Type 0 where
  -- an item, before and behind its parts
  enter_item : ItemTree → Visit
  leave_item : ItemTree → Visit
  -- a node, before and behind its parts
  enter : Tree → Visit
  leave : Tree → Visit
  -- the function of a recursive definition, behind its body
  leave_function : Recursive → Visit
  -- here the pattern stands; from here its names are visible; from here no longer
  declare : Pattern → Visit
  show : Pattern → Visit
  hide : Pattern → Visit
  -- the name of a recursive definition stands here and is visible from here; from here no longer
  show_name : ℕ → Visit
  hide_name : ℕ → Visit

abbrev pub place_of : Tree → Place
place_of (tree i p f) = p

abbrev pub place_of_pattern : Pattern → Place
place_of_pattern (pattern p f) = p

-- one place of a text lies before another
abbrev pub is_before : Place → Place → Bool
is_before p q = nat_lt p.line q.line || (p.line == q.line && nat_lt p.column q.column)

-- A match on this with these arms was written as a `let`: its one pattern stands before what is matched.
abbrev pub has_let : Tree → Cases → Bool
has_let e (more_cases q b no_cases) = is_before (place_of_pattern q) (place_of e)
has_let e no_cases = false
has_let e (more_cases q b (more_cases r c cs)) = false

abbrev pub is_let : Tree → Bool
is_let (tree i p (match_on e cs)) = has_let e cs
is_let t = false

-- the function of a recursive definition
abbrev pub function_of : Tree → Recursive
function_of (tree n m (let_rec f i q p e b)) = record { id = i; place = q; parameter = p; body = e }
function_of (tree n m f) = record { id = n; place = m; parameter = pattern m any; body = tree n m f }

abbrev pub in_row : List (List Visit) → List Visit
in_row [] = []
in_row (v ∷ vs) = v ++ in_row vs

-- a body in which a pattern's names are visible
abbrev pub under : Pattern → List Visit → List Visit
under p b = show p ∷ (b ++ hide p ∷ [])

abbrev pub in_arms : List (Arm (List Visit)) → List Visit
in_arms [] = []
in_arms (a ∷ as_) = declare a.pattern ∷ (under a.pattern a.body ++ in_arms as_)

-- the arms behind what is matched, also where the first pattern stood before it
abbrev pub arms_behind : Bool → List (Arm (List Visit)) → List Visit
arms_behind false as_ = in_arms as_
arms_behind true [] = []
arms_behind true (a ∷ as_) = under a.pattern a.body ++ in_arms as_

abbrev pub first_declared : Bool → List (Arm (List Visit)) → List Visit
first_declared false as_ = []
first_declared true [] = []
first_declared true (a ∷ as_) = declare a.pattern ∷ []

abbrev pub in_match : Bool → List Visit → List (Arm (List Visit)) → List Visit
in_match first e as_ = first_declared first as_ ++ (e ++ arms_behind first as_)

-- a function, behind its name
abbrev pub in_function : Recursive → List Visit → List Visit
in_function r b = declare r.parameter ∷ (under r.parameter b ++ leave_function r ∷ [])

-- a node with the visits of its parts
abbrev pub around : Tree → List Visit → List Visit
around t vs = enter t ∷ (vs ++ leave t ∷ [])

abbrev pub visiting : Algebra (List Visit)
visiting = record {
  leaf = λ t h. around t [];
  one = λ t h a. around t a;
  two = λ t h a b. around t (a ++ b);
  three = λ t h a b c. around t (a ++ (b ++ c));
  row = λ t h as_. around t (in_row as_);
  function = λ t p b. around t (declare p ∷ under p b);
  let_in = λ t p e b. around t (declare p ∷ (e ++ under p b));
  let_rec = λ t f i q p e b. around t (show_name f ∷ (in_function (function_of t) e ++ (b ++ hide_name f ∷ [])));
  match_on = λ t e as_. around t (in_match (is_let t) e as_);
}

-- the visits of a tree
abbrev pub visits_of : Tree → List Visit
visits_of = fold visiting

abbrev pub visits_of_form : ItemForm → List Visit
visits_of_form (type_of d) = []
visits_of_form (let_of p e) = declare p ∷ (visits_of e ++ show p ∷ [])
visits_of_form (let_rec_of f r) = show_name f ∷ in_function r (visits_of r.body)

-- the visits of an item, and of a program
abbrev pub visits_of_item : ItemTree → List Visit
visits_of_item i = enter_item i ∷ (visits_of_form i.form ++ leave_item i ∷ [])

abbrev pub visits_of_items : List ItemTree → List Visit
visits_of_items [] = []
visits_of_items (i ∷ is) = visits_of_item i ++ visits_of_items is
