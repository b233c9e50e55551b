-- What the lines of the grammar read is a tree as texts have it.
use Rattle.std.proofs.Common.{◌≡◌, ℕ, true, false, refl, List, [], ◌∷◌, ◌++◌}
use Rattle.std.proofs.lemmas.Bool.{or_left}
use Rattle.lq_base_names.specs.declared.place.Place.{Place}
use Rattle.lq_text_tree.specs.Items.{ItemTree, ItemForm, type_of, let_of, let_rec_of}
use Rattle.lq_text_tree.specs.Pattern.{Pattern, pattern, any, bind, nothing, tuple_of, build_of}
use Rattle.lq_text_tree.specs.Tree as form
use Rattle.lq_text_tree.specs.Tree.{Tree, tree, Form}
use Rattle.lq_text_tree.specs.TreeView.{Case, trees_of, cases_of}
use Rattle.lq_text_walk.specs.Walk.Fold.{fold_all, fold_cases}
use Rattle.lq_text_walk.specs.Walk.Shape as shape
use Rattle.lq_text_grammar.specs.declared.kind.Kind.{Kind}
use Rattle.lq_text_actions.specs.Expressions.{let_form, assert_form}
use Rattle.lq_text_walk.specs.Scoped.Uses.{is_parameter}
use Rattle.lq_text_resolve.specs.Binding.Binding.{is_tuple}
use Rattle.lq_text_resolve.specs.Resolution.Parameters.{is_taken}
use Rattle.lq_text_parser.specs.Syntax.Expressions.{Reads, Level, Joins, ors, ands, equals, differs, less, at_most, greater, at_least, conses, adds, subtracts, multiplies, divides, leaves_rest, Phrase, a_seq, row, an_expression, a_tail, a_definition, a_binding, a_recursive, arms, more_arms, members, line, chain_at, behind_minus, an_application, arguments_of, an_operand, behind_atom, indexes, an_atom, items, application_assert, application_build, application_call, application_constant, application_not, arguments_end, arguments_more, arms_end, arms_more, arms_one, atom_alone, atom_block, atom_constant, atom_false, atom_indexed, atom_inside, atom_list, atom_name, atom_number, atom_qualified, atom_true, atom_unit, binary_one, binary_two, binding_inside, binding_plain, binding_tuple, chain_end, chain_more, chain_of, definition_any, definition_name, definition_unit, expression_fun, expression_if, expression_let, expression_match, expression_one, expression_rec, expression_store, expression_tuple, expression_when, indexes_end, indexes_more, items_end, items_last, items_more, members_end, members_more, minus_limit, minus_number, minus_of, negation_application, negation_minus, operand_of, recursive_fun, recursive_name, row_end, row_more, seq_more, seq_one, tail_end, tail_more}
use Rattle.lq_text_parser.specs.Syntax.Items.{ReadsItem, item_type, item_let, item_rec, ReadsItems, items_end as program_end, items_more as program_more}
use Rattle.lq_text_parser.specs.Syntax.Tokens.{Token, place_at}
use Rattle.lq_meaning_normal_form.specs.Types.Written.{HasPart, Each, EachBody, IsWritten, Takes, being_written}

abbrev pub EachTree : List Tree → Type 0
EachTree es = Each (fold_all being_written (trees_of es))

abbrev pub EachArm : List Case → Type 0
EachArm cs = EachBody (fold_cases being_written (cases_of cs))

-- there is a part
abbrev IsSome : List Tree → Type 0
IsSome [] = ⊥
IsSome (e ∷ es) = Unit {0}

some-more : (es : List Tree) (b : Tree) → IsSome (es ++ b ∷ [])
some-more [] b = tt
some-more (e ∷ es) b = tt

each-more : (es : List Tree) (b : Tree) → EachTree es → IsWritten b → EachTree (es ++ b ∷ [])
each-more [] b gs g = (g, tt)
each-more (e ∷ es) b gs g = (gs.0, each-more es b gs.1 g)

arms-with : (cs : List Case) (c : Case) → EachArm cs → IsWritten c.body → EachArm (cs ++ c ∷ [])
arms-with [] c gs g = (g, tt)
arms-with (a ∷ as_) c gs g = (gs.0, arms-with as_ c gs.1 g)

some-part : (es : List Tree) → IsSome es → HasPart shape.chain (fold_all being_written (trees_of es))
some-part [] s = s
some-part (e ∷ es) s = tt

-- what is known of what was read
abbrev Fits : Phrase → Type 0
Fits (a_seq t c) = IsWritten t
Fits (row es fs) = IsSome es → EachTree es → IsSome fs × EachTree fs
Fits (an_expression t c) = IsWritten t
Fits (a_tail k t) = IsWritten t
Fits (a_definition p t) = Takes p × IsWritten t
Fits (a_binding p t) = (is_taken p ≡ true) × IsWritten t
Fits (a_recursive f r) = IsWritten r.body
Fits (arms rs bs) = EachArm rs → EachArm bs
Fits (more_arms rs bs) = EachArm rs → EachArm bs
Fits (members es fs) = EachTree es → EachTree fs
Fits (line l w t c) = IsWritten t
Fits (chain_at l p a c b d) = IsWritten a → IsWritten b
Fits (behind_minus p t c) = IsWritten t
Fits (an_application w t c) = IsWritten t
Fits (arguments_of p a c b d) = IsWritten a → IsWritten b
Fits (an_operand w t c) = IsWritten t
Fits (behind_atom w p a c b d) = IsWritten a → IsWritten b
Fits (indexes p a x b y) = IsWritten a → IsWritten x → IsWritten b × IsWritten y
Fits (an_atom t c) = IsWritten t
Fits (items es fs) = EachTree es → EachTree fs

asserted : (i : ℕ) (p : Place) (a : Tree) → IsWritten a → IsWritten (tree i p (assert_form a))
asserted i p (tree h z (form.whole n)) g = g
asserted i p (tree h z (form.flag true)) g = g
asserted i p (tree h z (form.flag false)) g = tt
asserted i p (tree h z form.unit) g = g
asserted i p (tree h z (form.use_of x)) g = g
asserted i p (tree h z (form.qualified m x)) g = g
asserted i p (tree h z (form.fun q b)) g = g
asserted i p (tree h z (form.tuple es)) g = g
asserted i p (tree h z (form.build c w es)) g = g
asserted i p (tree h z (form.list_of es)) g = g
asserted i p (tree h z (form.let_in q e b)) g = g
asserted i p (tree h z (form.let_rec f j r q b e)) g = g
asserted i p (tree h z (form.call a b)) g = g
asserted i p (tree h z (form.arithmetic o a b)) g = g
asserted i p (tree h z (form.negated e)) g = g
asserted i p (tree h z (form.compare o a b)) g = g
asserted i p (tree h z (form.not_of e)) g = g
asserted i p (tree h z (form.and_of a b)) g = g
asserted i p (tree h z (form.or_of a b)) g = g
asserted i p (tree h z (form.if_else c a b)) g = g
asserted i p (tree h z (form.match_on e cs)) g = g
asserted i p (tree h z (form.chain es)) g = g
asserted i p (tree h z (form.assert e)) g = g
asserted i p (tree h z form.assert_false) g = g
asserted i p (tree h z (form.make a b)) g = g
asserted i p (tree h z (form.length_of e)) g = g
asserted i p (tree h z (form.fetch a b)) g = g
asserted i p (tree h z (form.store a b c)) g = g
asserted i p (tree h z (form.print e)) g = g
asserted i p (tree h z (form.read e)) g = g
asserted i p (tree h z form.map_empty) g = g
asserted i p (tree h z (form.map_add a b c)) g = g
asserted i p (tree h z (form.map_find a b)) g = g

joined : {l : Level} {k : Kind} {f : Tree → Tree → Form} (i : ℕ) (p : Place) (a b : Tree) → Joins l k f → IsWritten a → IsWritten b → IsWritten (tree i p (f a b))
joined i p a b (ors e) g h = (g, h)
joined i p a b (ands e) g h = (g, h)
joined i p a b (equals e) g h = (g, h)
joined i p a b (differs e) g h = (g, h)
joined i p a b (less e) g h = (g, h)
joined i p a b (at_most e) g h = (g, h)
joined i p a b (greater e) g h = (g, h)
joined i p a b (at_least e) g h = (g, h)
joined i p a b (adds e) g h = (g, h)
joined i p a b (subtracts e) g h = (g, h)
joined i p a b (multiplies e) g h = (g, h)
joined i p a b (divides e) g h = (g, h)
joined i p a b (leaves_rest e) g h = (g, h)
joined i p a b (conses e) g h = (tt, (g, (h, tt)))

-- a `let`, which is a match where a tuple stands on its left
bound : (i : ℕ) (p : Place) (q : Pattern) (e b : Tree) → is_taken q ≡ true → IsWritten e → IsWritten b → IsWritten (tree i p (let_form q e b))
bound i p (pattern m any) e b t g h = (refl, g, h)
bound i p (pattern m (bind x)) e b t g h = (refl, g, h)
bound i p (pattern m nothing) e b t g h = (refl, g, h)
bound i p (pattern m (tuple_of ps)) e b t g h = (g, (h, tt))
bound i p (pattern m (build_of c o ps)) e b t g h = cc

fits : {x : Phrase} {n m : ℕ} {ts us : List Token} → Reads x n ts m us → Fits x
fits (seq_one d e) = fits d
fits (seq_more {es = es} d i e r) = let g = fits r tt (fits d, (fits e, tt)) in (some-part es g.0, g.1)
fits (row_end e) = λ s gs. (s, gs)
fits (row_more {es = es} {b = b} i d r) = λ s gs. fits r (some-more es b) (each-more es b gs (fits d))
fits (expression_let {p = q} {a = a} {b = b} {t = t} {j = j} i d k e) = let g = fits d in bound j t.place q a b g.0 g.1 (fits e)
fits (expression_rec i j d v e) = (fits d, fits e)
fits (expression_fun i p d) = fits d
fits (expression_match i d j o e) = (fits d, fits e tt)
fits (expression_if i d j e k f) = (fits d, fits e, fits f)
fits (expression_when i d k e s) = (fits d, fits e, tt)
fits (expression_store d i x j ix k e) = let g = fits ix (fits d) (fits x) in (g.0, g.1, fits e)
fits (expression_one d s) = fits d
fits (expression_tuple d i e r) = (tt, fits r (fits d, (fits e, tt)))
fits (members_end s) = λ gs. gs
fits (members_more {es = es} {b = b} i d r) = λ gs. fits r (each-more es b gs (fits d))
fits (tail_end i d) = fits d
fits (tail_more p d) = fits d
fits (definition_name i d) = (refl, fits d)
fits (definition_any i j d) = (refl, fits d)
fits (definition_unit i j k d) = (refl, fits d)
fits (binding_plain {p = p} d) = let g = fits d in (or_left (is_parameter p) (is_tuple p) g.0, g.1)
fits (binding_tuple a i b c j d) = (refl, fits d)
fits (binding_inside i a j b c k d) = (refl, fits d)
fits (recursive_name i p d) = fits d
fits (recursive_fun i j k p d) = fits d
fits (arms_one {rs = rs} {p = p} {b = b} q i d r) = λ gs. fits r (arms-with rs (record { pattern = p; body = b }) gs (fits d))
fits (arms_end s) = λ gs. gs
fits (arms_more i r) = λ gs. fits r gs
fits (binary_one b d s) = fits d
fits (binary_two {a = a} {b = c} {j = m} {ts = ts} b d j e) = joined m (place_at ts) a c j (fits d) (fits e)
fits (chain_of b d e) = fits e (fits d)
fits (chain_end b s) = λ g. g
fits (chain_more {p = p} {a = a} {b = c} {i = m} b j d e) = λ g. fits e (joined m p a c j g (fits d))
fits (negation_application d) = fits d
fits (negation_minus i d) = fits d
fits (minus_of s d) = fits d
fits (minus_number i s d e) = fits e (fits d tt)
fits (minus_limit i s d e) = fits e (fits d tt)
fits (application_assert {a = a} {t = t} {i = m} i d) = asserted m t.place a (fits d)
fits (application_not i d) = fits d
fits (application_build i d) = (tt, (fits d, tt))
fits (application_constant i s) = (tt, tt)
fits (application_call c d e) = fits e (fits d)
fits (arguments_end s) = λ g. g
fits (arguments_more d e) = λ g. fits e (g, fits d)
fits (operand_of d e) = fits e (fits d)
fits (atom_alone s) = λ g. g
fits (atom_indexed i d j e s) = λ g. fits e g (fits d)
fits (indexes_end s) = λ g h. (g, h)
fits (indexes_more i d j e) = λ g h. fits e (g, h) (fits d)
fits (atom_number i s) = tt
fits (atom_true i) = tt
fits (atom_false i) = tt
fits (atom_name i) = tt
fits (atom_qualified i j k) = tt
fits (atom_constant i s) = (tt, tt)
fits (atom_unit i j) = tt
fits (atom_inside i d j) = fits d
fits (atom_block i d j) = fits d
fits (atom_list i d) = (tt, fits d tt)
fits (items_end i) = λ gs. gs
fits (items_last {es = es} {a = a} d i) = λ gs. each-more es a gs (fits d)
fits (items_more {es = es} {a = a} d i r) = λ gs. fits r (each-more es a gs (fits d))

-- a definition of a datatype has no tree
abbrev pub TextIsWritten : ItemForm → Type 0
TextIsWritten (type_of d) = Unit {0}
TextIsWritten (let_of q e) = IsWritten e
TextIsWritten (let_rec_of f r) = IsWritten r.body

abbrev pub TextsAreWritten : List ItemTree → Type 0
TextsAreWritten [] = Unit {0}
TextsAreWritten (i ∷ is) = TextIsWritten i.form × TextsAreWritten is

items-with : (is : List ItemTree) (i : ItemTree) → TextsAreWritten is → TextIsWritten i.form → TextsAreWritten (is ++ i ∷ [])
items-with [] i gs g = (g, tt)
items-with (j ∷ is) i gs g = (gs.0, items-with is i gs.1 g)

item-fits : {i : ItemTree} {n m : ℕ} {ts us : List Token} → ReadsItem i n ts m us → TextIsWritten i.form
item-fits (item_type a b c d e f) = tt
item-fits (item_let i d) = (fits d).1
item-fits (item_rec i j d) = fits d

pub items-fit : {is js : List ItemTree} {n m : ℕ} {ts us : List Token} → ReadsItems is js n ts m us → TextsAreWritten is → TextsAreWritten js
items-fit (program_end s) gs = gs
items-fit (program_more {i = i} {is = is} d s r) gs = items-fit r (items-with is i gs (item-fits d))
