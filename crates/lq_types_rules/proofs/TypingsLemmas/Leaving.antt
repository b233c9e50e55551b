-- The nodes that the visits of a program leave are its nodes, a case a shape.
use Rattle.std.proofs.Common.{◌≡◌, ℕ, List, [], ◌∷◌, ◌++◌, refl, sym, ap, ap₂, ◌∙◌, append_assoc}
use Rattle.std.proofs.lemmas.List.{append-nil}
use Rattle.std.specs.Prelude.{Bool, true, false}
use Rattle.lq_base_names.specs.declared.place.Place.{Place}
use Rattle.lq_text_tree.specs.Items.{ItemTree, ItemForm, type_of, let_of, let_rec_of}
use Rattle.lq_text_tree.specs.Pattern.{Pattern}
use Rattle.lq_text_tree.specs.Tree as form
use Rattle.lq_text_tree.specs.Tree.{Tree, tree, Form, Trees, no_trees, more_trees, Cases, no_cases, more_cases}
use Rattle.lq_text_tree.specs.TreeView.{Recursive}
use Rattle.lq_text_walk.specs.Walk.Fold.{Arm, fold_all, fold_cases}
use Rattle.lq_text_walk.specs.Walk.Visits.{Visit, enter_item, leave_item, enter, declare, show, hide, show_name, hide_name, visiting, visits_of, visits_of_form, visits_of_items, around, under, in_row, in_arms, in_match, in_function, is_let}
use Rattle.lq_text_walk.specs.Scoped.Numbers.{numbering, nodes_of, nodes_of_form, nodes_of_items, numbers_in, numbers_in_arms}
use Rattle.lq_types_rules.specs.Typings.Fronts.{left_at, left_in}

pub left_append : (us vs : List Visit) → left_in (us ++ vs) ≡ left_in us ++ left_in vs
left_append [] vs = refl
left_append (u ∷ us) vs = ap (λ (xs : List ℕ). left_at u ++ xs) (left_append us vs) ∙ sym (append_assoc (left_at u) (left_in us) (left_in vs))

-- visits that leave these nodes
record LeavesNodes (us : List Visit) (ns : List ℕ) : Type 0 where
  is : left_in us ≡ ns

nothing_left : LeavesNodes [] []
nothing_left = record { is = refl }

both_left : {us vs : List Visit} {ms ns : List ℕ} → LeavesNodes us ms → LeavesNodes vs ns → LeavesNodes (us ++ vs) (ms ++ ns)
both_left {us = us} {vs = vs} h l = record { is = left_append us vs ∙ ap₂ (λ (xs : List ℕ) (ys : List ℕ). xs ++ ys) h.is l.is }

-- a visit before others, and one behind them, that leave no node
begun : {us : List Visit} {ns : List ℕ} (v : Visit) → left_at v ≡ [] → LeavesNodes us ns → LeavesNodes (v ∷ us) ns
begun {us = us} v none h = record { is = ap (λ (xs : List ℕ). xs ++ left_in us) none ∙ h.is }

ended : {us : List Visit} {ns : List ℕ} (v : Visit) → left_at v ≡ [] → LeavesNodes us ns → LeavesNodes (us ++ v ∷ []) ns
ended {us = us} {ns = ns} v none h =
    record { is = left_append us (v ∷ []) ∙ ap₂ (λ (xs : List ℕ) (ys : List ℕ). xs ++ (ys ++ [])) h.is none ∙ append-nil ns }

node_left : {us : List Visit} {ns : List ℕ} (i : ℕ) (p : Place) (f : Form) → LeavesNodes us ns → LeavesNodes (around (tree i p f) us) (ns ++ i ∷ [])
node_left i p f h = begun (enter (tree i p f)) refl (both_left h (record { is = refl }))

under_left : {us : List Visit} {ns : List ℕ} (q : Pattern) → LeavesNodes us ns → LeavesNodes (under q us) ns
under_left q h = begun (show q) refl (ended (hide q) refl h)

bound_left : {us : List Visit} {ns : List ℕ} (q : Pattern) → LeavesNodes us ns → LeavesNodes (declare q ∷ under q us) ns
bound_left q h = begun (declare q) refl (under_left q h)

function_left : {us : List Visit} {ns : List ℕ} (r : Recursive) → LeavesNodes us ns → LeavesNodes (in_function r us) (ns ++ r.id ∷ [])
function_left r h = both_left (bound_left r.parameter h) (record { is = refl })

-- the first pattern of a match leaves none
match_left : {ns : List ℕ} (w : Bool) (us : List Visit) (as_ : List (Arm (List Visit))) → LeavesNodes (us ++ in_arms as_) ns
    → LeavesNodes (in_match w us as_) ns
match_left false us as_ h = h
match_left true us [] h = h
match_left true us (a ∷ as_) h =
    let rest = under a.pattern a.body ++ in_arms as_ in
    record { is = left_append us rest ∙ sym (left_append us (declare a.pattern ∷ rest)) ∙ h.is }

rec_left : {us vs : List Visit} {ms ns : List ℕ} (f i : ℕ) (q : Place) (p : Pattern) (e : Tree) → LeavesNodes us ms → LeavesNodes vs ns
    → LeavesNodes (show_name f ∷ (in_function (record { id = i; place = q; parameter = p; body = e }) us ++ (vs ++ hide_name f ∷ []))) (ms ++ (i ∷ ns))
rec_left {ms = ms} {ns = ns} f i q p e h l =
    let both = both_left (function_left (record { id = i; place = q; parameter = p; body = e }) h) (ended (hide_name f) refl l) in
    begun (show_name f) refl (record { is = both.is ∙ append_assoc ms (i ∷ []) ns })

mutual
  tree_left : (e : Tree) → LeavesNodes (visits_of e) (nodes_of e)
  tree_left (tree i p f) = form_left i p f

  form_left : (i : ℕ) (p : Place) (f : Form) → LeavesNodes (visits_of (tree i p f)) (nodes_of (tree i p f))
  form_left i p (form.whole m) = node_left i p (form.whole m) nothing_left
  form_left i p (form.flag b) = node_left i p (form.flag b) nothing_left
  form_left i p form.unit = node_left i p form.unit nothing_left
  form_left i p (form.use_of x) = node_left i p (form.use_of x) nothing_left
  form_left i p (form.qualified m x) = node_left i p (form.qualified m x) nothing_left
  form_left i p (form.fun q b) = node_left i p (form.fun q b) (bound_left q (tree_left b))
  form_left i p (form.tuple es) = node_left i p (form.tuple es) (row_left es)
  form_left i p (form.build c w es) = node_left i p (form.build c w es) (row_left es)
  form_left i p (form.list_of es) = node_left i p (form.list_of es) (row_left es)
  form_left i p (form.let_in q e b) = node_left i p (form.let_in q e b) (begun (declare q) refl (both_left (tree_left e) (under_left q (tree_left b))))
  form_left i p (form.let_rec f j r q b e) = node_left i p (form.let_rec f j r q b e) (rec_left f j r q b (tree_left b) (tree_left e))
  form_left i p (form.call d e) = node_left i p (form.call d e) (both_left (tree_left d) (tree_left e))
  form_left i p (form.arithmetic o d e) = node_left i p (form.arithmetic o d e) (both_left (tree_left d) (tree_left e))
  form_left i p (form.negated e) = node_left i p (form.negated e) (tree_left e)
  form_left i p (form.compare o d e) = node_left i p (form.compare o d e) (both_left (tree_left d) (tree_left e))
  form_left i p (form.not_of e) = node_left i p (form.not_of e) (tree_left e)
  form_left i p (form.and_of d e) = node_left i p (form.and_of d e) (both_left (tree_left d) (tree_left e))
  form_left i p (form.or_of d e) = node_left i p (form.or_of d e) (both_left (tree_left d) (tree_left e))
  form_left i p (form.if_else c d e) = node_left i p (form.if_else c d e) (both_left (tree_left c) (both_left (tree_left d) (tree_left e)))
  form_left i p (form.match_on e cs) =
      node_left i p (form.match_on e cs) (match_left (is_let (tree i p (form.match_on e cs))) (visits_of e) (fold_cases visiting cs) (both_left (tree_left e) (cases_left cs)))
  form_left i p (form.chain es) = node_left i p (form.chain es) (row_left es)
  form_left i p (form.assert e) = node_left i p (form.assert e) (tree_left e)
  form_left i p form.assert_false = node_left i p form.assert_false nothing_left
  form_left i p (form.make d e) = node_left i p (form.make d e) (both_left (tree_left d) (tree_left e))
  form_left i p (form.length_of e) = node_left i p (form.length_of e) (tree_left e)
  form_left i p (form.fetch d e) = node_left i p (form.fetch d e) (both_left (tree_left d) (tree_left e))
  form_left i p (form.store c d e) = node_left i p (form.store c d e) (both_left (tree_left c) (both_left (tree_left d) (tree_left e)))
  form_left i p (form.print e) = node_left i p (form.print e) (tree_left e)
  form_left i p (form.read e) = node_left i p (form.read e) (tree_left e)
  form_left i p form.map_empty = node_left i p form.map_empty nothing_left
  form_left i p (form.map_add c d e) = node_left i p (form.map_add c d e) (both_left (tree_left c) (both_left (tree_left d) (tree_left e)))
  form_left i p (form.map_find d e) = node_left i p (form.map_find d e) (both_left (tree_left d) (tree_left e))

  row_left : (es : Trees) → LeavesNodes (in_row (fold_all visiting es)) (numbers_in (fold_all numbering es))
  row_left no_trees = nothing_left
  row_left (more_trees e es) = both_left (tree_left e) (row_left es)

  cases_left : (cs : Cases) → LeavesNodes (in_arms (fold_cases visiting cs)) (numbers_in_arms (fold_cases numbering cs))
  cases_left no_cases = nothing_left
  cases_left (more_cases q e cs) = both_left (bound_left q (tree_left e)) (cases_left cs)

form_nodes : (f : ItemForm) → LeavesNodes (visits_of_form f) (nodes_of_form f)
form_nodes (type_of d) = nothing_left
form_nodes (let_of q e) = begun (declare q) refl (ended (show q) refl (tree_left e))
form_nodes (let_rec_of f r) = begun (show_name f) refl (function_left r (tree_left r.body))

item_nodes : (is : List ItemTree) → LeavesNodes (visits_of_items is) (nodes_of_items is)
item_nodes [] = nothing_left
item_nodes (i ∷ is) = both_left (begun (enter_item i) refl (ended (leave_item i) refl (form_nodes i.form))) (item_nodes is)

-- the nodes that the visits of a program leave are its nodes
pub items_left : (is : List ItemTree) → left_in (visits_of_items is) ≡ nodes_of_items is
items_left is = (item_nodes is).is
