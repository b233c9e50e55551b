-- Which trees have a rule of the normal form at each node, and that the pass makes the normal form of those.
use Rattle.std.specs.Prelude.{◌≡◌, ℕ, Bool, true, false, ◌&&◌, List, [], ◌∷◌, ◌++◌}
use Rattle.lq_text_tree.specs.Items.{ItemTree, ItemForm, type_of, let_of, let_rec_of}
use Rattle.lq_text_tree.specs.Tree as form
use Rattle.lq_text_tree.specs.Tree.{Tree, tree, Form, Trees, no_trees, more_trees, Cases, no_cases, more_cases}
use Rattle.lq_meaning_normal_form.specs.Outcomes.Flattening.{Let}
use Rattle.lq_meaning_normal_form.specs.Outcomes.Naming.{stands, is_pure}
use Rattle.lq_meaning_normal_form.specs.Outcomes.OnePass.{Normal, normal}
use Rattle.lq_meaning_normalize.specs.Pass.Forming.{Formed, formed}

-- No name with a dot, no chain without parts, and no map with a key: those have no rule.
abbrev mutual
  pub has_rules : Tree → Bool
  has_rules (tree i p f) = form_has_rules f

  pub form_has_rules : Form → Bool
  form_has_rules (form.qualified m x) = false
  form_has_rules (form.map_add a b c) = false
  form_has_rules (form.map_find a b) = false
  form_has_rules (form.chain no_trees) = false
  form_has_rules (form.chain (more_trees e es)) = has_rules e && all_have_rules es
  form_has_rules (form.fun q b) = has_rules b
  form_has_rules (form.tuple es) = all_have_rules es
  form_has_rules (form.build c w es) = all_have_rules es
  form_has_rules (form.list_of es) = all_have_rules es
  form_has_rules (form.let_in q e b) = has_rules e && has_rules b
  form_has_rules (form.let_rec f j n q b e) = has_rules b && has_rules e
  form_has_rules (form.call a b) = has_rules a && has_rules b
  form_has_rules (form.arithmetic o a b) = has_rules a && has_rules b
  form_has_rules (form.negated a) = has_rules a
  form_has_rules (form.compare o a b) = has_rules a && has_rules b
  form_has_rules (form.not_of a) = has_rules a
  form_has_rules (form.and_of a b) = has_rules a && has_rules b
  form_has_rules (form.or_of a b) = has_rules a && has_rules b
  form_has_rules (form.if_else a b c) = has_rules a && (has_rules b && has_rules c)
  form_has_rules (form.match_on e cs) = has_rules e && cases_have_rules cs
  form_has_rules (form.assert a) = has_rules a
  form_has_rules (form.make a b) = has_rules a && has_rules b
  form_has_rules (form.length_of a) = has_rules a
  form_has_rules (form.fetch a b) = has_rules a && has_rules b
  form_has_rules (form.store a b c) = has_rules a && (has_rules b && has_rules c)
  form_has_rules (form.print a) = has_rules a
  form_has_rules (form.read a) = has_rules a
  form_has_rules f = true

  pub all_have_rules : Trees → Bool
  all_have_rules no_trees = true
  all_have_rules (more_trees e es) = has_rules e && all_have_rules es

  pub cases_have_rules : Cases → Bool
  cases_have_rules no_cases = true
  cases_have_rules (more_cases q b cs) = has_rules b && cases_have_rules cs

-- the same of the items of a program, none of which is a datatype
abbrev pub item_has_rules : ItemForm → Bool
item_has_rules (type_of d) = false
item_has_rules (let_of q e) = has_rules e
item_has_rules (let_rec_of f r) = has_rules r.body

abbrev pub items_have_rules : List ItemTree → Bool
items_have_rules [] = true
items_have_rules (i ∷ is) = item_has_rules i.form && items_have_rules is

-- what the pass makes behind these lets, where it makes the normal form, and knows what stands and what is pure
abbrev pub over : List Let → Normal → Bool → Bool → Formed
over ls N s b = record { lets = ls ++ N.lets; next = N.next; last = N.last; stands = s; pure = b }

abbrev pub PassAgrees : Type 0
PassAgrees = (ls : List Let) (k : ℕ) (t : Tree) → has_rules t ≡ true → formed ls k t ≡ over ls (normal k t) (stands t) (is_pure t)
