-- Flattening: nested lets go into the block around them. The blocks of `fun`, `if` and `match` stay their own.
use Rattle.std.specs.Prelude.{ℕ, List, [], ◌∷◌, ◌++◌}
use Rattle.lq_base_names.specs.declared.place.Place.{Place}
use Rattle.lq_text_tree.specs.Items.{ItemTree, ItemForm, type_of, let_of, let_rec_of}
use Rattle.lq_text_tree.specs.Pattern.{Pattern, bound_in}
use Rattle.lq_text_tree.specs.Tree as form
use Rattle.lq_text_tree.specs.Tree.{Tree, tree, Form, Trees, no_trees, more_trees, Cases, no_cases, more_cases}
use Rattle.lq_meaning_normal_form.specs.Outcomes.Naming.{named_items}

-- `let p = e in` and `let rec f = fun p -> e in`, each with the number and the place of its node
pub data Let : Type 0 where
  let_one : ℕ → Place → Pattern → Tree → Let
  let_function : ℕ → Place → ℕ → ℕ → Place → Pattern → Tree → Let

pub record FlatBlock : Type 0 where
  pub lets : List Let
  pub last : Tree

abbrev pub put_in : List Let → Tree → Tree
put_in [] t = t
put_in (let_one i p q e ∷ ls) t = tree i p (form.let_in q e (put_in ls t))
put_in (let_function i p f j m q e ∷ ls) t = tree i p (form.let_rec f j m q e (put_in ls t))

abbrev pub as_tree : FlatBlock → Tree
as_tree B = put_in B.lets B.last

-- no let
abbrev pub alone : Tree → FlatBlock
alone t = record { lets = []; last = t }

abbrev mutual
  pub flat : Tree → FlatBlock
  flat (tree i p f) = flat_form i p f

  pub flat_form : ℕ → Place → Form → FlatBlock
  -- the lets of the bound expression, this one, those of the body
  flat_form i p (form.let_in q e b) =
      let E = flat e in let B = flat b in record { lets = E.lets ++ let_one i p q E.last ∷ B.lets; last = B.last }
  flat_form i p (form.let_rec f j m q b e) =
      let E = flat e in record { lets = let_function i p f j m q (as_tree (flat b)) ∷ E.lets; last = E.last }
  -- every other form, with its parts as blocks of their own (an atom is its own block)
  flat_form i p (form.fun q b) = alone (tree i p (form.fun q (as_tree (flat b))))
  flat_form i p (form.tuple es) = alone (tree i p (form.tuple (flat_all es)))
  flat_form i p (form.build c l es) = alone (tree i p (form.build c l (flat_all es)))
  flat_form i p (form.list_of es) = alone (tree i p (form.list_of (flat_all es)))
  flat_form i p (form.call f a) = alone (tree i p (form.call (as_tree (flat f)) (as_tree (flat a))))
  flat_form i p (form.arithmetic o a b) = alone (tree i p (form.arithmetic o (as_tree (flat a)) (as_tree (flat b))))
  flat_form i p (form.negated e) = alone (tree i p (form.negated (as_tree (flat e))))
  flat_form i p (form.compare o a b) = alone (tree i p (form.compare o (as_tree (flat a)) (as_tree (flat b))))
  flat_form i p (form.not_of e) = alone (tree i p (form.not_of (as_tree (flat e))))
  flat_form i p (form.and_of a b) = alone (tree i p (form.and_of (as_tree (flat a)) (as_tree (flat b))))
  flat_form i p (form.or_of a b) = alone (tree i p (form.or_of (as_tree (flat a)) (as_tree (flat b))))
  flat_form i p (form.if_else c a b) = alone (tree i p (form.if_else (as_tree (flat c)) (as_tree (flat a)) (as_tree (flat b))))
  flat_form i p (form.match_on e cs) = alone (tree i p (form.match_on (as_tree (flat e)) (flat_cases cs)))
  flat_form i p (form.chain es) = alone (tree i p (form.chain (flat_all es)))
  flat_form i p (form.assert e) = alone (tree i p (form.assert (as_tree (flat e))))
  flat_form i p (form.make a b) = alone (tree i p (form.make (as_tree (flat a)) (as_tree (flat b))))
  flat_form i p (form.length_of e) = alone (tree i p (form.length_of (as_tree (flat e))))
  flat_form i p (form.fetch a b) = alone (tree i p (form.fetch (as_tree (flat a)) (as_tree (flat b))))
  flat_form i p (form.store a b c) = alone (tree i p (form.store (as_tree (flat a)) (as_tree (flat b)) (as_tree (flat c))))
  flat_form i p (form.print e) = alone (tree i p (form.print (as_tree (flat e))))
  flat_form i p (form.read e) = alone (tree i p (form.read (as_tree (flat e))))
  flat_form i p f = alone (tree i p f)

  pub flat_all : Trees → Trees
  flat_all no_trees = no_trees
  flat_all (more_trees e es) = more_trees (as_tree (flat e)) (flat_all es)

  pub flat_cases : Cases → Cases
  flat_cases no_cases = no_cases
  flat_cases (more_cases q b cs) = more_cases q (as_tree (flat b)) (flat_cases cs)

abbrev pub flattened : Tree → Tree
flattened t = as_tree (flat t)

-- the names that lets bind
abbrev pub let_names : List Let → List ℕ
let_names [] = []
let_names (let_one i p q e ∷ ls) = bound_in q ++ let_names ls
let_names (let_function i p f j m q e ∷ ls) = f ∷ let_names ls

-- ---- programs

abbrev pub flattened_item : ItemForm → ItemForm
flattened_item (type_of d) = type_of d
flattened_item (let_of q e) = let_of q (flattened e)
flattened_item (let_rec_of f r) = let_rec_of f (record { id = r.id; place = r.place; parameter = r.parameter; body = flattened r.body })

abbrev pub flattened_items : List ItemTree → List ItemTree
flattened_items [] = []
flattened_items (i ∷ is) = record { place = i.place; form = flattened_item i.form } ∷ flattened_items is

-- the normal form of a program, with made names from this one on
abbrev pub normal_of : ℕ → List ItemTree → List ItemTree
normal_of k is = flattened_items (named_items k is)
