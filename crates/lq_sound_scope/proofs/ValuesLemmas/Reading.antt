-- In what the lines of the grammar read each match has an arm.
use Rattle.std.proofs.Common.{ℕ, false, List, [], ◌∷◌, ◌++◌}
use Rattle.lq_base_names.specs.declared.place.Place.{Place}
use Rattle.lq_text_tree.specs.Items.{ItemTree}
use Rattle.lq_text_tree.specs.Pattern.{Pattern, pattern, tuple_of}
use Rattle.lq_text_tree.specs.Tree as form
use Rattle.lq_text_tree.specs.Tree.{Tree, tree, Form}
use Rattle.lq_text_tree.specs.TreeView.{Case, trees_of, cases_of}
use Rattle.lq_text_walk.specs.Walk.Fold.{fold_all, fold_cases}
use Rattle.lq_text_grammar.specs.declared.kind.Kind.{Kind}
use Rattle.lq_text_actions.specs.Expressions.{let_form, assert_form}
use Rattle.lq_text_parser.specs.Syntax.Expressions.{Reads, Level, Joins, ors, ands, equals, differs, less, at_most, greater, at_least, conses, adds, subtracts, multiplies, divides, leaves_rest, Phrase, a_seq, row, an_expression, a_tail, a_definition, a_binding, a_recursive, arms, more_arms, members, line, chain_at, behind_minus, an_application, arguments_of, an_operand, behind_atom, indexes, an_atom, items, application_assert, application_build, application_call, application_constant, application_not, arguments_end, arguments_more, arms_end, arms_more, arms_one, atom_alone, atom_block, atom_constant, atom_false, atom_indexed, atom_inside, atom_list, atom_name, atom_number, atom_qualified, atom_true, atom_unit, binary_one, binary_two, binding_inside, binding_plain, binding_tuple, chain_end, chain_more, chain_of, definition_any, definition_name, definition_unit, expression_fun, expression_if, expression_let, expression_match, expression_one, expression_rec, expression_store, expression_tuple, expression_when, indexes_end, indexes_more, items_end, items_last, items_more, members_end, members_more, minus_limit, minus_number, minus_of, negation_application, negation_minus, operand_of, recursive_fun, recursive_name, row_end, row_more, seq_more, seq_one, tail_end, tail_more}
use Rattle.lq_text_parser.specs.Syntax.Items.{ReadsItem, item_type, item_let, item_rec, ReadsItems, items_end as program_end, items_more as program_more}
use Rattle.lq_text_parser.specs.Syntax.Tokens.{Token, place_at}
use Rattle.lq_meaning_normal_form.specs.Types.Written.{Each, EachBody}
use Rattle.lq_sound_scope.specs.Values.Arms.{SomeArms, arming, HasArms, ItemHasArms, HaveArms}

abbrev EachTree : List Tree → Type 0
EachTree es = Each (fold_all arming (trees_of es))

abbrev EachCase : List Case → Type 0
EachCase cs = EachBody (fold_cases arming (cases_of cs))

abbrev SomeCases : List Case → Type 0
SomeCases cs = SomeArms (fold_cases arming (cases_of cs))

each_more : (es : List Tree) (b : Tree) → EachTree es → HasArms b → EachTree (es ++ b ∷ [])
each_more [] b gs g = (g, tt)
each_more (e ∷ es) b gs g = (gs.0, each_more es b gs.1 g)

each_with : (cs : List Case) (c : Case) → EachCase cs → HasArms c.body → EachCase (cs ++ c ∷ [])
each_with [] c gs g = (g, tt)
each_with (a ∷ as_) c gs g = (gs.0, each_with as_ c gs.1 g)

arms_with : (cs : List Case) (c : Case) → EachCase cs → HasArms c.body → SomeCases (cs ++ c ∷ [])
arms_with [] c gs g = (g, tt)
arms_with (a ∷ as_) c gs g = (gs.0, each_with as_ c gs.1 g)

each_case : (cs : List Case) → SomeCases cs → EachCase cs
each_case [] gs = tt
each_case (a ∷ as_) gs = gs

-- what is known of what was read
abbrev Fits : Phrase → Type 0
Fits (a_seq t c) = HasArms t
Fits (row es fs) = EachTree es → EachTree fs
Fits (an_expression t c) = HasArms t
Fits (a_tail k t) = HasArms t
Fits (a_definition q t) = HasArms t
Fits (a_binding q t) = HasArms t
Fits (a_recursive f r) = HasArms r.body
Fits (arms rs bs) = EachCase rs → SomeCases bs
Fits (more_arms rs bs) = SomeCases rs → SomeCases bs
Fits (members es fs) = EachTree es → EachTree fs
Fits (line l w t c) = HasArms t
Fits (chain_at l p a c b d) = HasArms a → HasArms b
Fits (behind_minus p t c) = HasArms t
Fits (an_application w t c) = HasArms t
Fits (arguments_of p a c b d) = HasArms a → HasArms b
Fits (an_operand w t c) = HasArms t
Fits (behind_atom w p a c b d) = HasArms a → HasArms b
Fits (indexes p a x b y) = HasArms a → HasArms x → HasArms b × HasArms y
Fits (an_atom t c) = HasArms t
Fits (items es fs) = EachTree es → EachTree fs

-- `assert false` has no part
asserted : (i : ℕ) (p : Place) (a : Tree) → HasArms a → HasArms (tree i p (assert_form a))
asserted i p (tree h z (form.flag false)) g = tt
asserted i p (tree h z f) g = g

joined : {l : Level} {k : Kind} {f : Tree → Tree → Form} (i : ℕ) (p : Place) (a b : Tree) → Joins l k f → HasArms a → HasArms b → HasArms (tree i p (f a b))
joined i p a b (ors e) g h = (g, h)
joined i p a b (ands e) g h = (g, h)
joined i p a b (equals e) g h = (g, h)
joined i p a b (differs e) g h = (g, h)
joined i p a b (less e) g h = (g, h)
joined i p a b (at_most e) g h = (g, h)
joined i p a b (greater e) g h = (g, h)
joined i p a b (at_least e) g h = (g, h)
joined i p a b (adds e) g h = (g, h)
joined i p a b (subtracts e) g h = (g, h)
joined i p a b (multiplies e) g h = (g, h)
joined i p a b (divides e) g h = (g, h)
joined i p a b (leaves_rest e) g h = (g, h)
joined i p a b (conses e) g h = (g, (h, tt))

-- a `let`, which is a match where a tuple stands on its left
bound : (i : ℕ) (p : Place) (q : Pattern) (e b : Tree) → HasArms e → HasArms b → HasArms (tree i p (let_form q e b))
bound i p (pattern m (tuple_of qs)) e b g h = (g, (h, tt))
bound i p (pattern m f) e b g h = (g, h)

fits : {x : Phrase} {n m : ℕ} {ts us : List Token} → Reads x n ts m us → Fits x
fits (seq_one d e) = fits d
fits (seq_more d i e r) = fits r (fits d, (fits e, tt))
fits (row_end e) = λ gs. gs
fits (row_more {es = es} {b = b} i d r) = λ gs. fits r (each_more es b gs (fits d))
fits (expression_let {p = q} {a = a} {b = b} {t = t} {j = j} i d k e) = bound j t.place q a b (fits d) (fits e)
fits (expression_rec i j d v e) = (fits d, fits e)
fits (expression_fun i p d) = fits d
fits (expression_match i d j o e) = (fits d, fits e tt)
fits (expression_if i d j e k f) = (fits d, fits e, fits f)
fits (expression_when i d k e s) = (fits d, fits e, tt)
fits (expression_store d i x j ix k e) = let g = fits ix (fits d) (fits x) in (g.0, g.1, fits e)
fits (expression_one d s) = fits d
fits (expression_tuple d i e r) = fits r (fits d, (fits e, tt))
fits (members_end s) = λ gs. gs
fits (members_more {es = es} {b = b} i d r) = λ gs. fits r (each_more es b gs (fits d))
fits (tail_end i d) = fits d
fits (tail_more p d) = fits d
fits (definition_name i d) = fits d
fits (definition_any i j d) = fits d
fits (definition_unit i j k d) = fits d
fits (binding_plain d) = fits d
fits (binding_tuple a i b c j d) = fits d
fits (binding_inside i a j b c k d) = fits d
fits (recursive_name i p d) = fits d
fits (recursive_fun i j k p d) = fits d
fits (arms_one {rs = rs} {p = p} {b = b} q i d r) = λ gs. fits r (arms_with rs (record { pattern = p; body = b }) gs (fits d))
fits (arms_end s) = λ gs. gs
fits (arms_more {rs = rs} i r) = λ gs. fits r (each_case rs gs)
fits (binary_one b d s) = fits d
fits (binary_two {a = a} {b = c} {j = m} {ts = ts} b d j e) = joined m (place_at ts) a c j (fits d) (fits e)
fits (chain_of b d e) = fits e (fits d)
fits (chain_end b s) = λ g. g
fits (chain_more {p = p} {a = a} {b = c} {i = m} b j d e) = λ g. fits e (joined m p a c j g (fits d))
fits (negation_application d) = fits d
fits (negation_minus i d) = fits d
fits (minus_of s d) = fits d
fits (minus_number i s d e) = fits e (fits d tt)
fits (minus_limit i s d e) = fits e (fits d tt)
fits (application_assert {a = a} {t = t} {i = m} i d) = asserted m t.place a (fits d)
fits (application_not i d) = fits d
fits (application_build i d) = (fits d, tt)
fits (application_constant i s) = tt
fits (application_call c d e) = fits e (fits d)
fits (arguments_end s) = λ g. g
fits (arguments_more d e) = λ g. fits e (g, fits d)
fits (operand_of d e) = fits e (fits d)
fits (atom_alone s) = λ g. g
fits (atom_indexed i d j e s) = λ g. fits e g (fits d)
fits (indexes_end s) = λ g h. (g, h)
fits (indexes_more i d j e) = λ g h. fits e (g, h) (fits d)
fits (atom_number i s) = tt
fits (atom_true i) = tt
fits (atom_false i) = tt
fits (atom_name i) = tt
fits (atom_qualified i j k) = tt
fits (atom_constant i s) = tt
fits (atom_unit i j) = tt
fits (atom_inside i d j) = fits d
fits (atom_block i d j) = fits d
fits (atom_list i d) = fits d tt
fits (items_end i) = λ gs. gs
fits (items_last {es = es} {a = a} d i) = λ gs. each_more es a gs (fits d)
fits (items_more {es = es} {a = a} d i r) = λ gs. fits r (each_more es a gs (fits d))

items_with : (is : List ItemTree) (i : ItemTree) → HaveArms is → ItemHasArms i.form → HaveArms (is ++ i ∷ [])
items_with [] i gs g = (g, tt)
items_with (j ∷ is) i gs g = (gs.0, items_with is i gs.1 g)

item_fits : {i : ItemTree} {n m : ℕ} {ts us : List Token} → ReadsItem i n ts m us → ItemHasArms i.form
item_fits (item_type a b c d e f) = tt
item_fits (item_let i d) = fits d
item_fits (item_rec i j d) = fits d

pub items_fit : {is js : List ItemTree} {n m : ℕ} {ts us : List Token} → ReadsItems is js n ts m us → HaveArms is → HaveArms js
items_fit (program_end s) gs = gs
items_fit (program_more {i = i} {is = is} d s r) gs = items_fit r (items_with is i gs (item_fits d))
