-- Programs whose trees differ only in numbers of nodes, and in places at which nothing can fault or end the input.
use Rattle.std.specs.Prelude.{◌≡◌, List, map}
use Rattle.lq_base_names.specs.declared.operation.ArithOp.{ArithOp}
use Rattle.lq_base_names.specs.declared.operation.ArithOp.TheVariants as op
use Rattle.lq_base_names.specs.declared.place.Place.{Place}
use Rattle.lq_base_names.specs.declared.place.TextKind.TheVariants.{Program}
use Rattle.lq_text_tree.specs.Items.{ItemTree, ItemForm, type_of, let_of, let_rec_of}
use Rattle.lq_text_tree.specs.Pattern.{Pattern, pattern, PatternForm, any, bind, nothing, tuple_of, build_of, Patterns, no_patterns, more_patterns}
use Rattle.lq_text_tree.specs.Tree as form
use Rattle.lq_text_tree.specs.Tree.{Tree, tree, Form, Trees, no_trees, more_trees, Cases, no_cases, more_cases}
use Rattle.lq_meaning_steps.specs.Model.FromTree.{items_of}

-- the same for all nodes whose place doesn't count
abbrev pub nowhere : Place
nowhere = record { text = Program; line = 0; column = 0 }

abbrev mutual
  pub bare_pattern : Pattern → Pattern
  bare_pattern (pattern p f) = pattern nowhere (bare_pattern_form f)

  pub bare_pattern_form : PatternForm → PatternForm
  bare_pattern_form any = any
  bare_pattern_form (bind x) = bind x
  bare_pattern_form nothing = nothing
  bare_pattern_form (tuple_of qs) = tuple_of (bare_patterns qs)
  bare_pattern_form (build_of c p qs) = build_of c nowhere (bare_patterns qs)

  pub bare_patterns : Patterns → Patterns
  bare_patterns no_patterns = no_patterns
  bare_patterns (more_patterns q qs) = more_patterns (bare_pattern q) (bare_patterns qs)

-- a parameter that is a tuple or a constructor is matched at its place
abbrev pub bare_parameter : Pattern → Pattern
bare_parameter (pattern p any) = pattern nowhere any
bare_parameter (pattern p (bind x)) = pattern nowhere (bind x)
bare_parameter (pattern p nothing) = pattern nowhere nothing
bare_parameter (pattern p (tuple_of qs)) = pattern p (tuple_of (bare_patterns qs))
bare_parameter (pattern p (build_of c n qs)) = pattern p (build_of c nowhere (bare_patterns qs))

-- the place of a quotient and of a remainder, whose divisor may be 0
abbrev pub divided_at : Place → ArithOp → Place
divided_at p op.Add = nowhere
divided_at p op.Sub = nowhere
divided_at p op.Mul = nowhere
divided_at p op.Div = p
divided_at p op.Mod = p

-- what counts of the place of a node: where it can fault or end the input
abbrev pub place_of : Place → Form → Place
place_of p (form.whole n) = nowhere
place_of p (form.flag b) = nowhere
place_of p form.unit = nowhere
place_of p (form.use_of x) = nowhere
place_of p (form.qualified m x) = nowhere
place_of p (form.fun q b) = nowhere
place_of p (form.tuple es) = nowhere
place_of p (form.build c r es) = nowhere
place_of p (form.list_of es) = nowhere
place_of p (form.let_in q e b) = nowhere
place_of p (form.let_rec f i n q b e) = nowhere
place_of p (form.call f a) = nowhere
place_of p (form.arithmetic o a b) = divided_at p o
place_of p (form.negated e) = nowhere
place_of p (form.compare o a b) = nowhere
place_of p (form.not_of e) = nowhere
place_of p (form.and_of a b) = nowhere
place_of p (form.or_of a b) = nowhere
place_of p (form.if_else c a b) = nowhere
place_of p (form.match_on e cs) = p
place_of p (form.chain es) = nowhere
place_of p (form.assert e) = p
place_of p form.assert_false = p
place_of p (form.make n e) = p
place_of p (form.length_of e) = nowhere
place_of p (form.fetch a i) = p
place_of p (form.store a i e) = p
place_of p (form.print e) = nowhere
place_of p (form.read e) = p
place_of p form.map_empty = nowhere
place_of p (form.map_add k e m) = nowhere
place_of p (form.map_find k m) = nowhere

-- the tree without numbers of nodes and without the places that don't count
abbrev mutual
  pub bare : Tree → Tree
  bare (tree i p f) = tree 0 (place_of p f) (bare_form f)

  pub bare_form : Form → Form
  bare_form (form.whole n) = form.whole n
  bare_form (form.flag b) = form.flag b
  bare_form form.unit = form.unit
  bare_form (form.use_of x) = form.use_of x
  bare_form (form.qualified m x) = form.qualified m x
  bare_form (form.fun q b) = form.fun (bare_parameter q) (bare b)
  bare_form (form.tuple es) = form.tuple (bare_all es)
  bare_form (form.build c r es) = form.build c r (bare_all es)
  bare_form (form.list_of es) = form.list_of (bare_all es)
  bare_form (form.let_in q e b) = form.let_in (bare_parameter q) (bare e) (bare b)
  bare_form (form.let_rec f i n q b e) = form.let_rec f 0 nowhere (bare_parameter q) (bare b) (bare e)
  bare_form (form.call f a) = form.call (bare f) (bare a)
  bare_form (form.arithmetic o a b) = form.arithmetic o (bare a) (bare b)
  bare_form (form.negated e) = form.negated (bare e)
  bare_form (form.compare o a b) = form.compare o (bare a) (bare b)
  bare_form (form.not_of e) = form.not_of (bare e)
  bare_form (form.and_of a b) = form.and_of (bare a) (bare b)
  bare_form (form.or_of a b) = form.or_of (bare a) (bare b)
  bare_form (form.if_else c a b) = form.if_else (bare c) (bare a) (bare b)
  bare_form (form.match_on e cs) = form.match_on (bare e) (bare_cases cs)
  bare_form (form.chain es) = form.chain (bare_all es)
  bare_form (form.assert e) = form.assert (bare e)
  bare_form form.assert_false = form.assert_false
  bare_form (form.make n e) = form.make (bare n) (bare e)
  bare_form (form.length_of e) = form.length_of (bare e)
  bare_form (form.fetch a i) = form.fetch (bare a) (bare i)
  bare_form (form.store a i e) = form.store (bare a) (bare i) (bare e)
  bare_form (form.print e) = form.print (bare e)
  bare_form (form.read e) = form.read (bare e)
  bare_form form.map_empty = form.map_empty
  bare_form (form.map_add k e m) = form.map_add (bare k) (bare e) (bare m)
  bare_form (form.map_find k m) = form.map_find (bare k) (bare m)

  pub bare_all : Trees → Trees
  bare_all no_trees = no_trees
  bare_all (more_trees e es) = more_trees (bare e) (bare_all es)

  pub bare_cases : Cases → Cases
  bare_cases no_cases = no_cases
  bare_cases (more_cases q e cs) = more_cases (bare_pattern q) (bare e) (bare_cases cs)

abbrev pub bare_item_form : ItemForm → ItemForm
bare_item_form (type_of d) = type_of d
bare_item_form (let_of q e) = let_of (bare_parameter q) (bare e)
bare_item_form (let_rec_of f r) = let_rec_of f (record { id = 0; place = nowhere; parameter = bare_parameter r.parameter; body = bare r.body })

abbrev pub bare_item : ItemTree → ItemTree
bare_item i = record { place = nowhere; form = bare_item_form i.form }

-- programs that are the same without these have the same items, and so the same steps and outcomes
abbrev pub OtherPlacesDontCount : Type 0
OtherPlacesDontCount = (is js : List ItemTree) → map bare_item is ≡ map bare_item js → items_of is ≡ items_of js
