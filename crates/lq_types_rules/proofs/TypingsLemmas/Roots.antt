-- The number of a node is among those of its tree.
use Rattle.std.proofs.Common.{ℕ, List, [], ◌∷◌, ◌++◌}
use Rattle.lq_base_names.specs.declared.place.Place.{Place}
use Rattle.lq_text_tree.specs.Items.{ItemForm, type_of, let_of, let_rec_of}
use Rattle.lq_text_tree.specs.Tree as form
use Rattle.lq_text_tree.specs.Tree.{Tree, tree, Form, Trees, Cases}
use Rattle.lq_text_walk.specs.Walk.Fold.{fold_all, fold_cases}
use Rattle.lq_text_walk.specs.Scoped.Numbers.{numbering, nodes_of, nodes_of_form, numbers_in, numbers_in_arms}
use Rattle.lq_types_rules.specs.Equations.Rows.{number_of}
use Rattle.lq_types_rules.specs.Typings.Principal.{own_node}
use Rattle.lq_types_rules.proofs.TypingsLemmas.Lists.{AllOf, all_right}

module _ (P : ℕ → Type 0) where
  last_one : (xs : List ℕ) (i : ℕ) → AllOf P (xs ++ i ∷ []) → P i
  last_one xs i h = (all_right P xs (i ∷ []) h).0

  form_root : (i : ℕ) (p : Place) (f : Form) → AllOf P (nodes_of (tree i p f)) → P i
  form_root i p (form.whole m) h = h.0
  form_root i p (form.flag b) h = h.0
  form_root i p form.unit h = h.0
  form_root i p (form.use_of x) h = h.0
  form_root i p (form.qualified m x) h = h.0
  form_root i p (form.fun q b) h = last_one (nodes_of b) i h
  form_root i p (form.tuple es) h = last_one (numbers_in (fold_all numbering es)) i h
  form_root i p (form.build c w es) h = last_one (numbers_in (fold_all numbering es)) i h
  form_root i p (form.list_of es) h = last_one (numbers_in (fold_all numbering es)) i h
  form_root i p (form.let_in q e b) h = last_one (nodes_of e ++ nodes_of b) i h
  form_root i p (form.let_rec f j r q b e) h = last_one (nodes_of b ++ (j ∷ nodes_of e)) i h
  form_root i p (form.call d e) h = last_one (nodes_of d ++ nodes_of e) i h
  form_root i p (form.arithmetic o d e) h = last_one (nodes_of d ++ nodes_of e) i h
  form_root i p (form.negated e) h = last_one (nodes_of e) i h
  form_root i p (form.compare o d e) h = last_one (nodes_of d ++ nodes_of e) i h
  form_root i p (form.not_of e) h = last_one (nodes_of e) i h
  form_root i p (form.and_of d e) h = last_one (nodes_of d ++ nodes_of e) i h
  form_root i p (form.or_of d e) h = last_one (nodes_of d ++ nodes_of e) i h
  form_root i p (form.if_else c d e) h = last_one (nodes_of c ++ (nodes_of d ++ nodes_of e)) i h
  form_root i p (form.match_on e cs) h = last_one (nodes_of e ++ numbers_in_arms (fold_cases numbering cs)) i h
  form_root i p (form.chain es) h = last_one (numbers_in (fold_all numbering es)) i h
  form_root i p (form.assert e) h = last_one (nodes_of e) i h
  form_root i p form.assert_false h = h.0
  form_root i p (form.make d e) h = last_one (nodes_of d ++ nodes_of e) i h
  form_root i p (form.length_of e) h = last_one (nodes_of e) i h
  form_root i p (form.fetch d e) h = last_one (nodes_of d ++ nodes_of e) i h
  form_root i p (form.store c d e) h = last_one (nodes_of c ++ (nodes_of d ++ nodes_of e)) i h
  form_root i p (form.print e) h = last_one (nodes_of e) i h
  form_root i p (form.read e) h = last_one (nodes_of e) i h
  form_root i p form.map_empty h = h.0
  form_root i p (form.map_add c d e) h = last_one (nodes_of c ++ (nodes_of d ++ nodes_of e)) i h
  form_root i p (form.map_find d e) h = last_one (nodes_of d ++ nodes_of e) i h

  pub root : (e : Tree) → AllOf P (nodes_of e) → P (number_of e)
  root (tree i p f) h = form_root i p f h

  -- the node that has a definition's own type is one of the definition
  pub own : (f : ItemForm) → AllOf P (nodes_of_form f) → AllOf P (own_node f)
  own (type_of d) h = tt
  own (let_of q e) h = (root e h, tt)
  own (let_rec_of f r) h = (last_one (nodes_of r.body) r.id h, tt)
