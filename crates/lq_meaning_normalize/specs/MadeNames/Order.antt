-- The names that a normal program binds, in the order in which naming binds them.
use Rattle.std.specs.Prelude.{ℕ, List, [], ◌∷◌, ◌++◌}
use Rattle.lq_text_tree.specs.Items.{ItemTree, ItemForm, type_of, let_of, let_rec_of}
use Rattle.lq_text_tree.specs.Pattern.{bound_in}
use Rattle.lq_text_tree.specs.Tree as form
use Rattle.lq_text_tree.specs.Tree.{Tree, tree, Form, Cases, no_cases, more_cases}

-- A name is bound behind all that is inside of what it is bound to, and a parameter or the names of an arm's pattern before the body. No other
-- form binds names in a normal tree, since its operands are pure.
abbrev mutual
  pub names_of : Tree → List ℕ
  names_of (tree i p f) = names_of_form f

  pub names_of_form : Form → List ℕ
  names_of_form (form.fun q b) = bound_in q ++ names_of b
  names_of_form (form.let_in q e b) = names_of e ++ (bound_in q ++ names_of b)
  names_of_form (form.let_rec f i p q e b) = f ∷ (bound_in q ++ (names_of e ++ names_of b))
  names_of_form (form.if_else c a b) = names_of a ++ names_of b
  names_of_form (form.match_on e cs) = names_of_cases cs
  names_of_form f = []

  pub names_of_cases : Cases → List ℕ
  names_of_cases no_cases = []
  names_of_cases (more_cases q b cs) = bound_in q ++ (names_of b ++ names_of_cases cs)

abbrev pub names_of_item : ItemForm → List ℕ
names_of_item (type_of d) = []
names_of_item (let_of q e) = names_of e ++ bound_in q
names_of_item (let_rec_of f r) = f ∷ (bound_in r.parameter ++ names_of r.body)

abbrev pub names_of_items : List ItemTree → List ℕ
names_of_items [] = []
names_of_items (i ∷ is) = names_of_item i.form ++ names_of_items is
