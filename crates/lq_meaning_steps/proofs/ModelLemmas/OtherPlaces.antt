-- The meaning of a program doesn't depend on numbers of nodes, nor on places at which nothing can fault or end the input.
use Rattle.std.proofs.Common.{◌≡◌, List, [], ◌∷◌, map, refl, sym, ap, ap₂, ◌∙◌}
use Rattle.lq_base_names.specs.declared.operation.ArithOp.{ArithOp}
use Rattle.lq_base_names.specs.declared.operation.ArithOp.TheVariants as op
use Rattle.lq_base_names.specs.declared.place.Place.{Place}
use Rattle.lq_text_tree.specs.Items.{ItemTree, ItemForm, type_of, let_of, let_rec_of}
use Rattle.lq_text_tree.specs.Pattern as source
use Rattle.lq_text_tree.specs.Tree as form
use Rattle.lq_text_tree.specs.Tree.{Tree, tree, Form, Trees, no_trees, more_trees, Cases, no_cases, more_cases}
use Rattle.lq_meaning_steps.specs.Model.Core.{tuple_of, build_of, more_patterns, matched, negate, invert, assert, length_of, print, read, arithmetic, comparison, make, fetch, store, tuple, build, list_of, Core, fun, row, let_in, let_rec, call, one, two, three, and_of, or_of, if_else, match_on, seq, more, more_arms}
use Rattle.lq_meaning_steps.specs.Model.Program.{Item, let_item, rec_item}
use Rattle.lq_meaning_steps.specs.Model.FromTree.{pattern_of, pattern_form, patterns_of, parameter_of, arithmetic_at, core_of, core_form, cores_of, rest_of, arms_of, with_item, items_of}
use Rattle.lq_meaning_steps.specs.Model.Places.{bare_pattern, bare_pattern_form, bare_patterns, bare_parameter, divided_at, place_of, bare, bare_form, bare_all, bare_cases, bare_item_form, bare_item, OtherPlacesDontCount}
use Rattle.lq_meaning_steps.proofs.ModelLemmas.Substitution.{ap₃}

mutual
  pattern_bare : (q : source.Pattern) → pattern_of (bare_pattern q) ≡ pattern_of q
  pattern_bare (source.pattern p f) = pattern_form_bare f

  pattern_form_bare : (f : source.PatternForm) → pattern_form (bare_pattern_form f) ≡ pattern_form f
  pattern_form_bare source.any = refl
  pattern_form_bare (source.bind x) = refl
  pattern_form_bare source.nothing = refl
  pattern_form_bare (source.tuple_of qs) = ap tuple_of (patterns_bare qs)
  pattern_form_bare (source.build_of c p qs) = ap (build_of c) (patterns_bare qs)

  patterns_bare : (qs : source.Patterns) → patterns_of (bare_patterns qs) ≡ patterns_of qs
  patterns_bare source.no_patterns = refl
  patterns_bare (source.more_patterns q qs) = ap₂ more_patterns (pattern_bare q) (patterns_bare qs)

parameter_bare : (q : source.Pattern) → parameter_of (bare_parameter q) ≡ parameter_of q
parameter_bare (source.pattern p source.any) = refl
parameter_bare (source.pattern p (source.bind x)) = refl
parameter_bare (source.pattern p source.nothing) = refl
parameter_bare (source.pattern p (source.tuple_of qs)) = ap (λ l. matched p (tuple_of l)) (patterns_bare qs)
parameter_bare (source.pattern p (source.build_of c n qs)) = ap (λ l. matched p (build_of c l)) (patterns_bare qs)

arithmetic_bare : (p : Place) (o : ArithOp) → arithmetic_at (divided_at p o) o ≡ arithmetic_at p o
arithmetic_bare p op.Add = refl
arithmetic_bare p op.Sub = refl
arithmetic_bare p op.Mul = refl
arithmetic_bare p op.Div = refl
arithmetic_bare p op.Mod = refl

mutual
  core_bare : (t : Tree) → core_of (bare t) ≡ core_of t
  core_bare (tree i p f) = form_bare f p

  form_bare : (f : Form) (p : Place) → core_form (place_of p f) (bare_form f) ≡ core_form p f
  form_bare (form.whole n) p = refl
  form_bare (form.flag b) p = refl
  form_bare form.unit p = refl
  form_bare (form.use_of x) p = refl
  form_bare (form.qualified m x) p = refl
  form_bare (form.fun q b) p = ap₂ fun (parameter_bare q) (core_bare b)
  form_bare (form.tuple es) p = ap (row tuple) (cores_bare es)
  form_bare (form.build c r es) p = ap (row (build c)) (cores_bare es)
  form_bare (form.list_of es) p = ap (row list_of) (cores_bare es)
  form_bare (form.let_in q e b) p = ap₃ let_in (parameter_bare q) (core_bare e) (core_bare b)
  form_bare (form.let_rec f i n q b e) p = ap₃ (let_rec f) (parameter_bare q) (core_bare b) (core_bare e)
  form_bare (form.call f a) p = ap₂ call (core_bare f) (core_bare a)
  form_bare (form.arithmetic o a b) p = ap₃ (λ x c d. two (arithmetic x) c d) (arithmetic_bare p o) (core_bare a) (core_bare b)
  form_bare (form.negated e) p = ap (one negate) (core_bare e)
  form_bare (form.compare o a b) p = ap₂ (two (comparison o)) (core_bare a) (core_bare b)
  form_bare (form.not_of e) p = ap (one invert) (core_bare e)
  form_bare (form.and_of a b) p = ap₂ and_of (core_bare a) (core_bare b)
  form_bare (form.or_of a b) p = ap₂ or_of (core_bare a) (core_bare b)
  form_bare (form.if_else c a b) p = ap₃ if_else (core_bare c) (core_bare a) (core_bare b)
  form_bare (form.match_on e cs) p = ap₂ (match_on p) (core_bare e) (arms_bare cs)
  form_bare (form.chain no_trees) p = refl
  form_bare (form.chain (more_trees e es)) p = rest_bare es (core_of (bare e)) (core_of e) (core_bare e)
  form_bare (form.assert e) p = ap (one (assert p)) (core_bare e)
  form_bare form.assert_false p = refl
  form_bare (form.make n e) p = ap₂ (two (make p)) (core_bare n) (core_bare e)
  form_bare (form.length_of e) p = ap (one length_of) (core_bare e)
  form_bare (form.fetch a i) p = ap₂ (two (fetch p)) (core_bare a) (core_bare i)
  form_bare (form.store a i e) p = ap₃ (three (store p)) (core_bare a) (core_bare i) (core_bare e)
  form_bare (form.print e) p = ap (one print) (core_bare e)
  form_bare (form.read e) p = ap (one (read p)) (core_bare e)
  form_bare form.map_empty p = refl
  form_bare (form.map_add k e m) p = refl
  form_bare (form.map_find k m) p = refl

  cores_bare : (es : Trees) → cores_of (bare_all es) ≡ cores_of es
  cores_bare no_trees = refl
  cores_bare (more_trees e es) = ap₂ more (core_bare e) (cores_bare es)

  rest_bare : (es : Trees) (c d : Core) → c ≡ d → rest_of (bare_all es) c ≡ rest_of es d
  rest_bare no_trees c d h = h
  rest_bare (more_trees e es) c d h = ap₂ seq h (rest_bare es (core_of (bare e)) (core_of e) (core_bare e))

  arms_bare : (cs : Cases) → arms_of (bare_cases cs) ≡ arms_of cs
  arms_bare no_cases = refl
  arms_bare (more_cases q e cs) = ap₃ more_arms (pattern_bare q) (core_bare e) (arms_bare cs)

item_bare : (f : ItemForm) (is js : List Item) → is ≡ js → with_item (bare_item_form f) is ≡ with_item f js
item_bare (type_of d) is js h = h
item_bare (let_of q e) is js h = ap₃ (λ a b l. let_item a b ∷ l) (parameter_bare q) (core_bare e) h
item_bare (let_rec_of f r) is js h = ap₃ (λ a b l. rec_item f a b ∷ l) (parameter_bare r.parameter) (core_bare r.body) h

items_bare : (is : List ItemTree) → items_of (map bare_item is) ≡ items_of is
items_bare [] = refl
items_bare (i ∷ is) = item_bare i.form (items_of (map bare_item is)) (items_of is) (items_bare is)

pub other_places_dont_count : OtherPlacesDontCount
other_places_dont_count is js h = sym (items_bare is) ∙ ap items_of h ∙ items_bare js
