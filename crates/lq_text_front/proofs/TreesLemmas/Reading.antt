-- What the lines of the grammar read has its patterns where a text can have them.
use Rattle.std.proofs.Common.{◌≡◌, ℕ, suc, pos, neg_ℤ, true, false, List, [], ◌∷◌, refl}
use Rattle.std.proofs.lemmas.Bool.{or_left}
use Rattle.lq_base_names.specs.NameTable.{cons_name}
use Rattle.lq_base_names.specs.declared.operation.ArithOp.TheVariants as op
use Rattle.lq_base_names.specs.declared.operation.CompareOp.TheVariants as order
use Rattle.lq_base_names.specs.declared.place.Place.{Place}
use Rattle.lq_text_tree.specs.declared.expr.Arguments.TheVariants.{Apart}
use Rattle.lq_text_tree.specs.Items.{ItemTree}
use Rattle.lq_text_tree.specs.Pattern.{Pattern}
use Rattle.lq_text_tree.specs.Tree as form
use Rattle.lq_text_tree.specs.Tree.{Tree, tree, Form, no_trees}
use Rattle.lq_text_tree.specs.TreeView.{trees_of}
use Rattle.lq_text_grammar.specs.declared.kind.Kind.{Kind}
use Rattle.lq_text_actions.specs.Expressions.{arguments, assert_form}
use Rattle.lq_text_actions.specs.Patterns.{place_of_pattern}
use Rattle.lq_text_walk.specs.Scoped.Uses.{is_parameter}
use Rattle.lq_text_resolve.specs.Binding.Binding.{is_tuple}
use Rattle.lq_text_resolve.specs.Resolution.Parameters.{is_taken}
use Rattle.lq_text_parser.specs.Syntax.Expressions.{Reads, Level, Joins, ors, ands, equals, differs, less, at_most, greater, at_least, conses, adds, subtracts, multiplies, divides, leaves_rest, Phrase, a_seq, row, an_expression, a_tail, a_definition, a_binding, a_recursive, arms, more_arms, members, line, chain_at, behind_minus, an_application, arguments_of, an_operand, behind_atom, indexes, an_atom, items, application_assert, application_build, application_call, application_constant, application_not, arguments_end, arguments_more, arms_end, arms_more, arms_one, atom_alone, atom_block, atom_constant, atom_false, atom_indexed, atom_inside, atom_list, atom_name, atom_number, atom_qualified, atom_true, atom_unit, binary_one, binary_two, binding_inside, binding_plain, binding_tuple, chain_end, chain_more, chain_of, definition_any, definition_name, definition_unit, expression_fun, expression_if, expression_let, expression_match, expression_one, expression_rec, expression_store, expression_tuple, expression_when, indexes_end, indexes_more, items_end, items_last, items_more, members_end, members_more, minus_limit, minus_number, minus_of, negation_application, negation_minus, operand_of, recursive_fun, recursive_name, row_end, row_more, seq_more, seq_one, tail_end, tail_more}
use Rattle.lq_text_parser.specs.Syntax.Items.{ReadsItem, item_type, item_let, item_rec, ReadsItems, items_end as program_end, items_more as program_more}
use Rattle.lq_text_parser.specs.Syntax.Patterns.{ReadsPattern, a_simple, a_parameter, simple_name, simple_any, parameter_simple, parameter_unit, parameter_tuple}
use Rattle.lq_text_parser.specs.Syntax.Tokens.{Token, place_at}
use Rattle.lq_text_front.proofs.TreesLemmas.Standing.{Good, Goods, GoodArms, AllGood, GoodItem, goods-more, arms-more, good-leaf, good-one, good-two, good-three, good-row, good-function, good-recursive, good-match, good-binding, items-more, good-type, good-item-let, good-item-rec}

simple-fits : {q : Pattern} {ts us : List Token} → ReadsPattern (a_simple q) ts us → is_parameter q ≡ true
simple-fits (simple_name i) = refl
simple-fits (simple_any i) = refl

parameter-fits : {q : Pattern} {ts us : List Token} → ReadsPattern (a_parameter q) ts us → is_taken q ≡ true
parameter-fits {q} (parameter_simple s) = or_left (is_parameter q) (is_tuple q) (simple-fits s)
parameter-fits (parameter_unit i j) = refl
parameter-fits (parameter_tuple i a j b c) = refl

-- what is known of what was read
abbrev Fits : Phrase → Type 0
Fits (a_seq t c) = Good t
Fits (row es fs) = Goods es → Goods fs
Fits (an_expression t c) = Good t
Fits (a_tail k t) = Good t
Fits (a_definition p t) = (is_parameter p ≡ true) × Good t
Fits (a_binding p t) = Good t
Fits (a_recursive f r) = (is_taken r.parameter ≡ true) × Good r.body
Fits (arms rs bs) = GoodArms rs → GoodArms bs
Fits (more_arms rs bs) = GoodArms rs → GoodArms bs
Fits (members es fs) = Goods es → Goods fs
Fits (line l w t c) = Good t
Fits (chain_at l p a c b d) = Good a → Good b
Fits (behind_minus p t c) = Good t
Fits (an_application w t c) = Good t
Fits (arguments_of p a c b d) = Good a → Good b
Fits (an_operand w t c) = Good t
Fits (behind_atom w p a c b d) = Good a → Good b
Fits (indexes p a x b y) = Good a → Good x → Good b × Good y
Fits (an_atom t c) = Good t
Fits (items es fs) = Goods es → Goods fs

good-call : (i : ℕ) (p : Place) (a b : Tree) → Good a → Good b → Good (tree i p (form.call a b))
good-call i p a b = good-two (tree i p (form.call a b)) a b refl refl

good-fetch : (i : ℕ) (p : Place) (a b : Tree) → Good a → Good b → Good (tree i p (form.fetch a b))
good-fetch i p a b = good-two (tree i p (form.fetch a b)) a b refl refl

good-assert : (i : ℕ) (p : Place) (a : Tree) → Good a → Good (tree i p (assert_form a))
good-assert i p (tree h z (form.whole n)) g = good-one (tree i p (form.assert (tree h z (form.whole n)))) (tree h z (form.whole n)) refl refl g
good-assert i p (tree h z (form.flag true)) g = good-one (tree i p (form.assert (tree h z (form.flag true)))) (tree h z (form.flag true)) refl refl g
good-assert i p (tree h z (form.flag false)) g = good-leaf (tree i p form.assert_false) refl refl
good-assert i p (tree h z form.unit) g = good-one (tree i p (form.assert (tree h z form.unit))) (tree h z form.unit) refl refl g
good-assert i p (tree h z (form.use_of x)) g = good-one (tree i p (form.assert (tree h z (form.use_of x)))) (tree h z (form.use_of x)) refl refl g
good-assert i p (tree h z (form.qualified m x)) g = good-one (tree i p (form.assert (tree h z (form.qualified m x)))) (tree h z (form.qualified m x)) refl refl g
good-assert i p (tree h z (form.fun q b)) g = good-one (tree i p (form.assert (tree h z (form.fun q b)))) (tree h z (form.fun q b)) refl refl g
good-assert i p (tree h z (form.tuple es)) g = good-one (tree i p (form.assert (tree h z (form.tuple es)))) (tree h z (form.tuple es)) refl refl g
good-assert i p (tree h z (form.build c w es)) g = good-one (tree i p (form.assert (tree h z (form.build c w es)))) (tree h z (form.build c w es)) refl refl g
good-assert i p (tree h z (form.list_of es)) g = good-one (tree i p (form.assert (tree h z (form.list_of es)))) (tree h z (form.list_of es)) refl refl g
good-assert i p (tree h z (form.let_in q e b)) g = good-one (tree i p (form.assert (tree h z (form.let_in q e b)))) (tree h z (form.let_in q e b)) refl refl g
good-assert i p (tree h z (form.let_rec f j r q b e)) g = good-one (tree i p (form.assert (tree h z (form.let_rec f j r q b e)))) (tree h z (form.let_rec f j r q b e)) refl refl g
good-assert i p (tree h z (form.call a b)) g = good-one (tree i p (form.assert (tree h z (form.call a b)))) (tree h z (form.call a b)) refl refl g
good-assert i p (tree h z (form.arithmetic o a b)) g = good-one (tree i p (form.assert (tree h z (form.arithmetic o a b)))) (tree h z (form.arithmetic o a b)) refl refl g
good-assert i p (tree h z (form.negated e)) g = good-one (tree i p (form.assert (tree h z (form.negated e)))) (tree h z (form.negated e)) refl refl g
good-assert i p (tree h z (form.compare o a b)) g = good-one (tree i p (form.assert (tree h z (form.compare o a b)))) (tree h z (form.compare o a b)) refl refl g
good-assert i p (tree h z (form.not_of e)) g = good-one (tree i p (form.assert (tree h z (form.not_of e)))) (tree h z (form.not_of e)) refl refl g
good-assert i p (tree h z (form.and_of a b)) g = good-one (tree i p (form.assert (tree h z (form.and_of a b)))) (tree h z (form.and_of a b)) refl refl g
good-assert i p (tree h z (form.or_of a b)) g = good-one (tree i p (form.assert (tree h z (form.or_of a b)))) (tree h z (form.or_of a b)) refl refl g
good-assert i p (tree h z (form.if_else c a b)) g = good-one (tree i p (form.assert (tree h z (form.if_else c a b)))) (tree h z (form.if_else c a b)) refl refl g
good-assert i p (tree h z (form.match_on e cs)) g = good-one (tree i p (form.assert (tree h z (form.match_on e cs)))) (tree h z (form.match_on e cs)) refl refl g
good-assert i p (tree h z (form.chain es)) g = good-one (tree i p (form.assert (tree h z (form.chain es)))) (tree h z (form.chain es)) refl refl g
good-assert i p (tree h z (form.assert e)) g = good-one (tree i p (form.assert (tree h z (form.assert e)))) (tree h z (form.assert e)) refl refl g
good-assert i p (tree h z form.assert_false) g = good-one (tree i p (form.assert (tree h z form.assert_false))) (tree h z form.assert_false) refl refl g
good-assert i p (tree h z (form.make a b)) g = good-one (tree i p (form.assert (tree h z (form.make a b)))) (tree h z (form.make a b)) refl refl g
good-assert i p (tree h z (form.length_of e)) g = good-one (tree i p (form.assert (tree h z (form.length_of e)))) (tree h z (form.length_of e)) refl refl g
good-assert i p (tree h z (form.fetch a b)) g = good-one (tree i p (form.assert (tree h z (form.fetch a b)))) (tree h z (form.fetch a b)) refl refl g
good-assert i p (tree h z (form.store a b c)) g = good-one (tree i p (form.assert (tree h z (form.store a b c)))) (tree h z (form.store a b c)) refl refl g
good-assert i p (tree h z (form.print e)) g = good-one (tree i p (form.assert (tree h z (form.print e)))) (tree h z (form.print e)) refl refl g
good-assert i p (tree h z (form.read e)) g = good-one (tree i p (form.assert (tree h z (form.read e)))) (tree h z (form.read e)) refl refl g
good-assert i p (tree h z form.map_empty) g = good-one (tree i p (form.assert (tree h z form.map_empty))) (tree h z form.map_empty) refl refl g
good-assert i p (tree h z (form.map_add a b c)) g = good-one (tree i p (form.assert (tree h z (form.map_add a b c)))) (tree h z (form.map_add a b c)) refl refl g
good-assert i p (tree h z (form.map_find a b)) g = good-one (tree i p (form.assert (tree h z (form.map_find a b)))) (tree h z (form.map_find a b)) refl refl g

good-join : {l : Level} {k : Kind} {f : Tree → Tree → Form} (i : ℕ) (p : Place) (a b : Tree) → Joins l k f → Good a → Good b → Good (tree i p (f a b))
good-join i p a b (ors e) = good-two (tree i p (form.or_of a b)) a b refl refl
good-join i p a b (ands e) = good-two (tree i p (form.and_of a b)) a b refl refl
good-join i p a b (equals e) = good-two (tree i p (form.compare order.Eq a b)) a b refl refl
good-join i p a b (differs e) = good-two (tree i p (form.compare order.Ne a b)) a b refl refl
good-join i p a b (less e) = good-two (tree i p (form.compare order.Lt a b)) a b refl refl
good-join i p a b (at_most e) = good-two (tree i p (form.compare order.Le a b)) a b refl refl
good-join i p a b (greater e) = good-two (tree i p (form.compare order.Gt a b)) a b refl refl
good-join i p a b (at_least e) = good-two (tree i p (form.compare order.Ge a b)) a b refl refl
good-join i p a b (adds e) = good-two (tree i p (form.arithmetic op.Add a b)) a b refl refl
good-join i p a b (subtracts e) = good-two (tree i p (form.arithmetic op.Sub a b)) a b refl refl
good-join i p a b (multiplies e) = good-two (tree i p (form.arithmetic op.Mul a b)) a b refl refl
good-join i p a b (divides e) = good-two (tree i p (form.arithmetic op.Div a b)) a b refl refl
good-join i p a b (leaves_rest e) = good-two (tree i p (form.arithmetic op.Mod a b)) a b refl refl
good-join i p a b (conses e) = λ g h. good-row (tree i p (form.build cons_name Apart (trees_of (a ∷ b ∷ [])))) (a ∷ b ∷ []) refl refl (g, (h, tt))

good-reads : {x : Phrase} {n m : ℕ} {ts us : List Token} → Reads x n ts m us → Fits x
good-reads (seq_one d e) = good-reads d
good-reads (seq_more {es = es} {k = k} {ts = ts} d i e r) = good-row (tree k (place_at ts) (form.chain (trees_of es))) es refl refl (good-reads r (good-reads d, (good-reads e, tt)))
good-reads (row_end e) = λ gs. gs
good-reads (row_more {es = es} {b = b} i d r) = λ gs. good-reads r (goods-more es b gs (good-reads d))
good-reads (expression_let {p = q} {a = a} {b = b} {t = t} {j = j} i d k e) = good-binding j t.place q a b (good-reads d) (good-reads e)
good-reads (expression_rec {f = f} {r = r} {b = b} {t = t} {j = k} i j d v e) = let g = good-reads d in good-recursive k f t.place r b g.0 g.1 (good-reads e)
good-reads (expression_fun {p = q} {b = b} {t = t} {i = k} i p d) = good-function k t.place q b (parameter-fits p) (good-reads d)
good-reads (expression_match {e = a} {rs = rs} {t = t} {j = k} i d j o e) = good-match k t.place a rs (good-reads d) (good-reads e tt)
good-reads (expression_if {e = a} {a = b} {b = c} {t = t} {k = m} i d j e k f) = good-three (tree m t.place (form.if_else a b c)) a b c refl refl (good-reads d) (good-reads e) (good-reads f)
good-reads (expression_when {e = a} {a = b} {t = t} {j = j} i d k e s) =
    good-three (tree (suc j) t.place (form.if_else a b (tree j t.place form.unit))) a b (tree j t.place form.unit) refl refl (good-reads d) (good-reads e) (good-leaf (tree j t.place form.unit) refl refl)
good-reads (expression_store {b = b} {y = y} {e = v} {m = m} {ts = ts} d i x j ix k e) =
    let g = good-reads ix (good-reads d) (good-reads x) in good-three (tree m (place_at ts) (form.store b y v)) b y v refl refl g.0 g.1 (good-reads e)
good-reads (expression_one d s) = good-reads d
good-reads (expression_tuple {es = es} {k = k} {ts = ts} d i e r) = good-row (tree k (place_at ts) (form.tuple (trees_of es))) es refl refl (good-reads r (good-reads d, (good-reads e, tt)))
good-reads (members_end s) = λ gs. gs
good-reads (members_more {es = es} {b = b} i d r) = λ gs. good-reads r (goods-more es b gs (good-reads d))
good-reads (tail_end i d) = good-reads d
good-reads (tail_more {p = q} {b = b} {i = i} p d) = good-function i (place_of_pattern q) q b (parameter-fits p) (good-reads d)
good-reads (definition_name i d) = (refl, good-reads d)
good-reads (definition_any i j d) = (refl, good-reads d)
good-reads (definition_unit i j k d) = (refl, good-reads d)
good-reads (binding_plain d) = (good-reads d).1
good-reads (binding_tuple a i b c j d) = good-reads d
good-reads (binding_inside i a j b c k d) = good-reads d
good-reads (recursive_name i p d) = (parameter-fits p, good-reads d)
good-reads (recursive_fun i j k p d) = (parameter-fits p, good-reads d)
good-reads (arms_one {rs = rs} {p = p} {b = b} q i d r) = λ gs. good-reads r (arms-more rs (record { pattern = p; body = b }) gs (good-reads d))
good-reads (arms_end s) = λ gs. gs
good-reads (arms_more i r) = λ gs. good-reads r gs
good-reads (binary_one b d s) = good-reads d
good-reads (binary_two {a = a} {b = c} {j = m} {ts = ts} b d j e) = good-join m (place_at ts) a c j (good-reads d) (good-reads e)
good-reads (chain_of b d e) = good-reads e (good-reads d)
good-reads (chain_end b s) = λ g. g
good-reads (chain_more {p = p} {a = a} {b = c} {i = m} b j d e) = λ g. good-reads e (good-join m p a c j g (good-reads d))
good-reads (negation_application d) = good-reads d
good-reads (negation_minus i d) = good-reads d
good-reads (minus_of {p = p} {a = a} {i = i} s d) = good-one (tree i p (form.negated a)) a refl refl (good-reads d)
good-reads (minus_number {p = p} {v = v} {n = n} i s d e) = good-reads e (good-reads d (good-leaf (tree n p (form.whole (neg_ℤ (pos v)))) refl refl))
good-reads (minus_limit {p = p} {v = v} {n = n} i s d e) = good-reads e (good-reads d (good-leaf (tree n p (form.whole (neg_ℤ (pos v)))) refl refl))
good-reads (application_assert {a = a} {t = t} {i = m} i d) = good-assert m t.place a (good-reads d)
good-reads (application_not {a = a} {t = t} {i = m} i d) = good-one (tree m t.place (form.not_of a)) a refl refl (good-reads d)
good-reads (application_build {x = x} {a = a} {c = c} {t = t} {i = m} i d) =
    good-row (tree m t.place (form.build x (arguments c) (trees_of (a ∷ [])))) (a ∷ []) refl refl (good-reads d, tt)
good-reads (application_constant {x = x} {t = t} {n = n} i s) = good-row (tree n t.place (form.build x Apart (trees_of []))) [] refl refl tt
good-reads (application_call c d e) = good-reads e (good-reads d)
good-reads (arguments_end s) = λ g. g
good-reads (arguments_more {p = p} {a = a} {b = b} {i = m} d e) = λ g. good-reads e (good-call m p a b g (good-reads d))
good-reads (operand_of d e) = good-reads e (good-reads d)
good-reads (atom_alone s) = λ g. g
good-reads (atom_indexed {p = p} {b = b} {y = y} {j = m} i d j e s) = λ g. let h = good-reads e g (good-reads d) in good-fetch m p b y h.0 h.1
good-reads (indexes_end s) = λ g h. (g, h)
good-reads (indexes_more {p = p} {a = a} {x = x} {n = n} i d j e) = λ g h. good-reads e (good-fetch n p a x g h) (good-reads d)
good-reads (atom_number {v = v} {n = n} {t = t} i s) = good-leaf (tree n t.place (form.whole (pos v))) refl refl
good-reads (atom_true {n = n} {t = t} i) = good-leaf (tree n t.place (form.flag true)) refl refl
good-reads (atom_false {n = n} {t = t} i) = good-leaf (tree n t.place (form.flag false)) refl refl
good-reads (atom_name {x = x} {n = n} {t = t} i) = good-leaf (tree n t.place (form.use_of x)) refl refl
good-reads (atom_qualified {m = m} {x = x} {n = n} {t = t} i j k) = good-leaf (tree n t.place (form.qualified m x)) refl refl
good-reads (atom_constant {x = x} {n = n} {t = t} i s) = good-row (tree n t.place (form.build x Apart (trees_of []))) [] refl refl tt
good-reads (atom_unit {n = n} {t = t} i j) = good-leaf (tree n t.place form.unit) refl refl
good-reads (atom_inside i d j) = good-reads d
good-reads (atom_block i d j) = good-reads d
good-reads (atom_list {es = es} {t = t} {i = m} i d) = good-row (tree m t.place (form.list_of (trees_of es))) es refl refl (good-reads d tt)
good-reads (items_end i) = λ gs. gs
good-reads (items_last {es = es} {a = a} d i) = λ gs. goods-more es a gs (good-reads d)
good-reads (items_more {es = es} {a = a} d i r) = λ gs. good-reads r (goods-more es a gs (good-reads d))

good-item : {i : ItemTree} {n m : ℕ} {ts us : List Token} → ReadsItem i n ts m us → GoodItem i
good-item (item_type {x = x} {ps = ps} {cs = cs} {t = t} {u = u} a b c d e f) =
    good-type t.place (record { name = x; place = u.place; parameters = ps; constructors = cs })
good-item (item_let {p = q} {b = b} {t = t} i d) = let g = good-reads d in good-item-let t.place q b g.0 g.1
good-item (item_rec {f = f} {r = r} {t = t} i j d) = let g = good-reads d in good-item-rec t.place f r g.0 g.1

pub good-items : {is js : List ItemTree} {n m : ℕ} {ts us : List Token} → ReadsItems is js n ts m us → AllGood is → AllGood js
good-items (program_end s) gs = gs
good-items (program_more {i = i} {is = is} d s r) gs = good-items r (items-more is i gs (good-item d))
