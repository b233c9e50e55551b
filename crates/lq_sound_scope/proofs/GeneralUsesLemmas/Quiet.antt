-- Inside of an item no item is left.
use Rattle.std.proofs.Common.{ℕ, Bool, true, false, List, [], ◌∷◌, ◌++◌}
use Rattle.lq_base_names.specs.declared.place.Place.{Place}
use Rattle.lq_text_tree.specs.Items.{ItemForm, type_of, let_of, let_rec_of}
use Rattle.lq_text_tree.specs.Pattern.{Pattern}
use Rattle.lq_text_tree.specs.Tree as form
use Rattle.lq_text_tree.specs.Tree.{Tree, tree, Form, Trees, no_trees, more_trees, Cases, no_cases, more_cases}
use Rattle.lq_text_tree.specs.TreeView.{Recursive}
use Rattle.lq_text_walk.specs.Walk.Fold.{Arm, fold_all, fold_cases}
use Rattle.lq_text_walk.specs.Walk.Visits.{Visit, leave_item, enter, leave, leave_function, declare, show, hide, show_name, hide_name, visiting, visits_of, visits_of_form, around, under, in_row, in_arms, in_match, in_function, is_let}

-- a visit that leaves no item
abbrev pub StaysInside : Visit → Type 0
StaysInside (leave_item i) = ⊥
StaysInside v = Unit {0}

abbrev pub AllStay : List Visit → Type 0
AllStay [] = Unit {0}
AllStay (v ∷ vs) = StaysInside v × AllStay vs

-- visits that do
record Stay (us : List Visit) : Type 0 where
  all : AllStay us

all_both : (us vs : List Visit) → AllStay us → AllStay vs → AllStay (us ++ vs)
all_both [] vs h l = l
all_both (u ∷ us) vs h l = (h.0, all_both us vs h.1 l)

nothing : Stay []
nothing = record { all = tt }

both : {us vs : List Visit} → Stay us → Stay vs → Stay (us ++ vs)
both {us = us} {vs = vs} h l = record { all = all_both us vs h.all l.all }

-- a visit before others, and one behind them
begun : {us : List Visit} (v : Visit) → StaysInside v → Stay us → Stay (v ∷ us)
begun v own h = record { all = (own, h.all) }

ended : {us : List Visit} (v : Visit) → StaysInside v → Stay us → Stay (us ++ v ∷ [])
ended v own h = both h (begun v own nothing)

node : {us : List Visit} (e : Tree) → Stay us → Stay (around e us)
node e h = begun (enter e) tt (ended (leave e) tt h)

under_pattern : {us : List Visit} (q : Pattern) → Stay us → Stay (under q us)
under_pattern q h = begun (show q) tt (ended (hide q) tt h)

bound : {us : List Visit} (q : Pattern) → Stay us → Stay (declare q ∷ under q us)
bound q h = begun (declare q) tt (under_pattern q h)

function : {us : List Visit} (r : Recursive) → Stay us → Stay (in_function r us)
function r h = both (bound r.parameter h) (begun (leave_function r) tt nothing)

-- the first pattern of a match before what is matched
matched : (w : Bool) (us : List Visit) (as_ : List (Arm (List Visit))) → Stay us → Stay (in_arms as_) → Stay (in_match w us as_)
matched false us as_ h l = both h l
matched true us [] h l = both h nothing
matched true us (a ∷ as_) h l = begun (declare a.pattern) tt (both h (record { all = l.all.1 }))

recursive : {us vs : List Visit} (f : ℕ) (r : Recursive) → Stay us → Stay vs → Stay (show_name f ∷ (in_function r us ++ (vs ++ hide_name f ∷ [])))
recursive f r h l = begun (show_name f) tt (both (function r h) (ended (hide_name f) tt l))

mutual
  in_tree : (e : Tree) → Stay (visits_of e)
  in_tree (tree i p f) = in_form i p f

  in_form : (i : ℕ) (p : Place) (f : Form) → Stay (visits_of (tree i p f))
  in_form i p (form.whole m) = node (tree i p (form.whole m)) nothing
  in_form i p (form.flag b) = node (tree i p (form.flag b)) nothing
  in_form i p form.unit = node (tree i p form.unit) nothing
  in_form i p (form.use_of x) = node (tree i p (form.use_of x)) nothing
  in_form i p (form.qualified m x) = node (tree i p (form.qualified m x)) nothing
  in_form i p (form.fun q b) = node (tree i p (form.fun q b)) (bound q (in_tree b))
  in_form i p (form.tuple es) = node (tree i p (form.tuple es)) (row es)
  in_form i p (form.build c w es) = node (tree i p (form.build c w es)) (row es)
  in_form i p (form.list_of es) = node (tree i p (form.list_of es)) (row es)
  in_form i p (form.let_in q e b) = node (tree i p (form.let_in q e b)) (begun (declare q) tt (both (in_tree e) (under_pattern q (in_tree b))))
  in_form i p (form.let_rec f j r q b e) =
      node (tree i p (form.let_rec f j r q b e)) (recursive f (record { id = j; place = r; parameter = q; body = b }) (in_tree b) (in_tree e))
  in_form i p (form.call d e) = node (tree i p (form.call d e)) (both (in_tree d) (in_tree e))
  in_form i p (form.arithmetic o d e) = node (tree i p (form.arithmetic o d e)) (both (in_tree d) (in_tree e))
  in_form i p (form.negated e) = node (tree i p (form.negated e)) (in_tree e)
  in_form i p (form.compare o d e) = node (tree i p (form.compare o d e)) (both (in_tree d) (in_tree e))
  in_form i p (form.not_of e) = node (tree i p (form.not_of e)) (in_tree e)
  in_form i p (form.and_of d e) = node (tree i p (form.and_of d e)) (both (in_tree d) (in_tree e))
  in_form i p (form.or_of d e) = node (tree i p (form.or_of d e)) (both (in_tree d) (in_tree e))
  in_form i p (form.if_else c d e) = node (tree i p (form.if_else c d e)) (both (in_tree c) (both (in_tree d) (in_tree e)))
  in_form i p (form.match_on e cs) =
      let o = tree i p (form.match_on e cs) in node o (matched (is_let o) (visits_of e) (fold_cases visiting cs) (in_tree e) (cases cs))
  in_form i p (form.chain es) = node (tree i p (form.chain es)) (row es)
  in_form i p (form.assert e) = node (tree i p (form.assert e)) (in_tree e)
  in_form i p form.assert_false = node (tree i p form.assert_false) nothing
  in_form i p (form.make d e) = node (tree i p (form.make d e)) (both (in_tree d) (in_tree e))
  in_form i p (form.length_of e) = node (tree i p (form.length_of e)) (in_tree e)
  in_form i p (form.fetch d e) = node (tree i p (form.fetch d e)) (both (in_tree d) (in_tree e))
  in_form i p (form.store c d e) = node (tree i p (form.store c d e)) (both (in_tree c) (both (in_tree d) (in_tree e)))
  in_form i p (form.print e) = node (tree i p (form.print e)) (in_tree e)
  in_form i p (form.read e) = node (tree i p (form.read e)) (in_tree e)
  in_form i p form.map_empty = node (tree i p form.map_empty) nothing
  in_form i p (form.map_add c d e) = node (tree i p (form.map_add c d e)) (both (in_tree c) (both (in_tree d) (in_tree e)))
  in_form i p (form.map_find d e) = node (tree i p (form.map_find d e)) (both (in_tree d) (in_tree e))

  row : (es : Trees) → Stay (in_row (fold_all visiting es))
  row no_trees = nothing
  row (more_trees e es) = both (in_tree e) (row es)

  cases : (cs : Cases) → Stay (in_arms (fold_cases visiting cs))
  cases no_cases = nothing
  cases (more_cases q e cs) = both (bound q (in_tree e)) (cases cs)

inside : (f : ItemForm) → Stay (visits_of_form f)
inside (type_of d) = nothing
inside (let_of q e) = begun (declare q) tt (ended (show q) tt (in_tree e))
inside (let_rec_of f r) = begun (show_name f) tt (function r (in_tree r.body))

pub form_stays : (f : ItemForm) → AllStay (visits_of_form f)
form_stays f = (inside f).all
