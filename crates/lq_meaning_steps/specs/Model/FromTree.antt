-- The expression that a scoped tree stands for, and the items of a program.
use Rattle.std.specs.Prelude.{List, [], ◌∷◌}
use Rattle.lq_base_names.specs.declared.operation.ArithOp.{ArithOp}
use Rattle.lq_base_names.specs.declared.operation.ArithOp.TheVariants as op
use Rattle.lq_base_names.specs.declared.place.Place.{Place}
use Rattle.lq_text_tree.specs.Items.{ItemTree, ItemForm, type_of, let_of, let_rec_of}
use Rattle.lq_text_tree.specs.Pattern as source
use Rattle.lq_text_tree.specs.Tree as form
use Rattle.lq_text_tree.specs.Tree.{Tree, tree, Form, Trees, no_trees, more_trees, Cases, no_cases, more_cases}
use Rattle.lq_meaning_steps.specs.Model.Core.{Pattern, any, bind, nothing, tuple_of, build_of, Patterns, no_patterns, more_patterns, Parameter, ignored, variable, empty, matched, negate, invert, assert, length_of, print, read, Arithmetic, sum, difference, product, quotient, remainder, arithmetic, comparison, make, fetch, store, tuple, build, list_of, Core, val, use_of, fun, row, let_in, let_rec, call, one, two, three, and_of, or_of, if_else, match_on, seq, assert_false, Cores, none, more, Arms, no_arms, more_arms, v_whole, v_flag, v_unit}
use Rattle.lq_meaning_steps.specs.Model.Program.{Item, let_item, rec_item}

-- an expression that has no step and is no value
abbrev pub nothing_to_do : Core
nothing_to_do = call (val v_unit) (val v_unit)

-- a pattern without places
abbrev mutual
  pub pattern_of : source.Pattern → Pattern
  pattern_of (source.pattern p f) = pattern_form f

  pub pattern_form : source.PatternForm → Pattern
  pattern_form source.any = any
  pattern_form (source.bind x) = bind x
  pattern_form source.nothing = nothing
  pattern_form (source.tuple_of qs) = tuple_of (patterns_of qs)
  pattern_form (source.build_of c p qs) = build_of c (patterns_of qs)

  pub patterns_of : source.Patterns → Patterns
  patterns_of source.no_patterns = no_patterns
  patterns_of (source.more_patterns q qs) = more_patterns (pattern_of q) (patterns_of qs)

-- the place of a parameter counts where it is a tuple or a constructor, which a value is matched against
abbrev pub parameter_of : source.Pattern → Parameter
parameter_of (source.pattern p source.any) = ignored
parameter_of (source.pattern p (source.bind x)) = variable x
parameter_of (source.pattern p source.nothing) = empty
parameter_of (source.pattern p (source.tuple_of qs)) = matched p (tuple_of (patterns_of qs))
parameter_of (source.pattern p (source.build_of c n qs)) = matched p (build_of c (patterns_of qs))

-- the place of a node counts where it is a quotient or a remainder
abbrev pub arithmetic_at : Place → ArithOp → Arithmetic
arithmetic_at p op.Add = sum
arithmetic_at p op.Sub = difference
arithmetic_at p op.Mul = product
arithmetic_at p op.Div = quotient p
arithmetic_at p op.Mod = remainder p

-- The place of a node goes where the node can fault or end the input. A scoped tree has no qualified name, and forms of maps have no
-- meaning yet. The parts of a chain follow one another.
abbrev mutual
  pub core_of : Tree → Core
  core_of (tree i p f) = core_form p f

  pub core_form : Place → Form → Core
  core_form p (form.whole n) = val (v_whole n)
  core_form p (form.flag b) = val (v_flag b)
  core_form p form.unit = val v_unit
  core_form p (form.use_of x) = use_of x
  core_form p (form.qualified m x) = nothing_to_do
  core_form p (form.fun q b) = fun (parameter_of q) (core_of b)
  core_form p (form.tuple es) = row tuple (cores_of es)
  core_form p (form.build c arguments es) = row (build c) (cores_of es)
  core_form p (form.list_of es) = row list_of (cores_of es)
  core_form p (form.let_in q e b) = let_in (parameter_of q) (core_of e) (core_of b)
  core_form p (form.let_rec f i n q b e) = let_rec f (parameter_of q) (core_of b) (core_of e)
  core_form p (form.call f a) = call (core_of f) (core_of a)
  core_form p (form.arithmetic o a b) = two (arithmetic (arithmetic_at p o)) (core_of a) (core_of b)
  core_form p (form.negated e) = one negate (core_of e)
  core_form p (form.compare o a b) = two (comparison o) (core_of a) (core_of b)
  core_form p (form.not_of e) = one invert (core_of e)
  core_form p (form.and_of a b) = and_of (core_of a) (core_of b)
  core_form p (form.or_of a b) = or_of (core_of a) (core_of b)
  core_form p (form.if_else c a b) = if_else (core_of c) (core_of a) (core_of b)
  core_form p (form.match_on e cs) = match_on p (core_of e) (arms_of cs)
  core_form p (form.chain no_trees) = val v_unit
  core_form p (form.chain (more_trees e es)) = rest_of es (core_of e)
  core_form p (form.assert e) = one (assert p) (core_of e)
  core_form p form.assert_false = assert_false p
  core_form p (form.make n e) = two (make p) (core_of n) (core_of e)
  core_form p (form.length_of e) = one length_of (core_of e)
  core_form p (form.fetch a i) = two (fetch p) (core_of a) (core_of i)
  core_form p (form.store a i e) = three (store p) (core_of a) (core_of i) (core_of e)
  core_form p (form.print e) = one print (core_of e)
  core_form p (form.read e) = one (read p) (core_of e)
  core_form p form.map_empty = nothing_to_do
  core_form p (form.map_add k e m) = nothing_to_do
  core_form p (form.map_find k m) = nothing_to_do

  pub cores_of : Trees → Cores
  cores_of no_trees = none
  cores_of (more_trees e es) = more (core_of e) (cores_of es)

  -- what follows an expression in a chain
  pub rest_of : Trees → Core → Core
  rest_of no_trees c = c
  rest_of (more_trees e es) c = seq c (rest_of es (core_of e))

  pub arms_of : Cases → Arms
  arms_of no_cases = no_arms
  arms_of (more_cases q e cs) = more_arms (pattern_of q) (core_of e) (arms_of cs)

-- definitions of types take no step
abbrev pub with_item : ItemForm → List Item → List Item
with_item (type_of d) is = is
with_item (let_of q e) is = let_item (parameter_of q) (core_of e) ∷ is
with_item (let_rec_of f r) is = rec_item f (parameter_of r.parameter) (core_of r.body) ∷ is

abbrev pub items_of : List ItemTree → List Item
items_of [] = []
items_of (i ∷ is) = with_item i.form (items_of is)
