-- How many nodes and binders the tokens of a program pay for.
use Rattle.std.proofs.Common.{◌≡◌, ◌≤◌, ℕ, suc, ◌+◌, ◌*◌, true, false, Bool, List, [], ◌∷◌, ◌++◌, length, refl, arith, length-append}
use Rattle.lq_base_names.specs.NameTable.{cons_name}
use Rattle.lq_base_names.specs.declared.operation.ArithOp.TheVariants as op
use Rattle.lq_base_names.specs.declared.operation.CompareOp.TheVariants as order
use Rattle.lq_base_names.specs.declared.place.Place.{Place}
use Rattle.lq_text_grammar.specs.declared.kind.Kind.{Kind}
use Rattle.lq_text_tree.specs.declared.expr.Arguments.TheVariants.{Apart}
use Rattle.lq_text_tree.specs.Items.{ItemTree}
use Rattle.lq_text_tree.specs.Pattern.{Pattern, pattern, any, bind, nothing, tuple_of, build_of, bound_in, bound_in_all}
use Rattle.lq_text_tree.specs.PatternView.{patterns_of}
use Rattle.lq_text_tree.specs.Tree as form
use Rattle.lq_text_tree.specs.Tree.{Tree, tree, Form}
use Rattle.lq_text_tree.specs.TreeView.{Case, Recursive, trees_of, cases_of}
use Rattle.lq_text_walk.specs.Walk.Fold.{fold_all, fold_cases}
use Rattle.lq_text_walk.specs.Walk.Visits.{Visit, declare, show, leave_item, around, under, in_row, in_arms, in_match, is_let, visiting, visits_of, visits_of_form, visits_of_item, visits_of_items}
use Rattle.lq_text_actions.specs.Expressions.{arguments, let_form, assert_form}
use Rattle.lq_text_actions.specs.Patterns.{place_of_pattern}
use Rattle.lq_text_parser.specs.Syntax.Expressions.{Reads, Level, Joins, ors, ands, equals, differs, less, at_most, greater, at_least, conses, adds, subtracts, multiplies, divides, leaves_rest, RowEnd, plain, semicolon, Phrase, a_seq, row, an_expression, a_tail, a_definition, a_binding, a_recursive, arms, more_arms, members, line, chain_at, behind_minus, an_application, arguments_of, an_operand, behind_atom, indexes, an_atom, items, application_assert, application_build, application_call, application_constant, application_not, arguments_end, arguments_more, arms_end, arms_more, arms_one, atom_alone, atom_block, atom_constant, atom_false, atom_indexed, atom_inside, atom_list, atom_name, atom_number, atom_qualified, atom_true, atom_unit, binary_one, binary_two, binding_inside, binding_plain, binding_tuple, chain_end, chain_more, chain_of, definition_any, definition_name, definition_unit, expression_fun, expression_if, expression_let, expression_match, expression_one, expression_rec, expression_store, expression_tuple, expression_when, indexes_end, indexes_more, items_end, items_last, items_more, members_end, members_more, minus_limit, minus_number, minus_of, negation_application, negation_minus, operand_of, recursive_fun, recursive_name, row_end, row_more, seq_more, seq_one, tail_end, tail_more}
use Rattle.lq_text_parser.specs.Syntax.Items.{DefinitionPhrase, ReadsDefinition, parameters_none, parameters_one, parameters_many, parameters_end, parameters_more, constructor, constructors_end, constructors_more, fields_none, fields_some, fields_end, fields_more, ReadsItem, item_type, item_let, item_rec, ReadsItems, items_end as program_end, items_more as program_more}
use Rattle.lq_text_parser.specs.Syntax.Patterns as pat
use Rattle.lq_text_parser.specs.Syntax.Patterns.{PatternPhrase, ReadsPattern, a_simple, a_parameter, a_pattern, inside, simple_name, simple_any, parameter_simple, parameter_unit, parameter_tuple, inside_end, inside_more, pattern_simple, pattern_unit, pattern_nil, pattern_cons, pattern_tuple, pattern_inside, pattern_alone, pattern_one, pattern_many}
use Rattle.lq_text_parser.specs.Syntax.Types as ty
use Rattle.lq_text_parser.specs.Syntax.Types.{TypePhrase, ReadsType, type_product, type_arrow, product_one, product_more, applied_variable, applied_name, applied_inside, applied_row, names_end, names_more}
use Rattle.lq_text_parser.specs.Syntax.Tokens.{Token, place_at, Maybe, there, missing, Taken, taken, lacking}
use Rattle.lq_text_front.proofs.TreesLemmas.Counting.{costs, costs-append, costs-under, function-costs, recursive-costs, around-costs}

-- what a tree, the trees of a row and arms cost
abbrev tree_cost : Tree → ℕ
tree_cost t = costs (visits_of t)

abbrev row_cost : List Tree → ℕ
row_cost es = costs (in_row (fold_all visiting (trees_of es)))

abbrev arms_cost : List Case → ℕ
arms_cost cs = costs (in_arms (fold_cases visiting (cases_of cs)))

abbrev bound_count : Pattern → ℕ
bound_count q = length (bound_in q)

abbrev bounds_count : List Pattern → ℕ
bounds_count qs = length (bound_in_all (patterns_of qs))

rows-more : (es : List Tree) (b : Tree) → row_cost (es ++ b ∷ []) ≡ row_cost es + tree_cost b
rows-more [] b = let end = costs-append (visits_of b) [] in omega (arith, end)
rows-more (e ∷ es) b =
    let more = rows-more es b in let first = costs-append (visits_of e) (in_row (fold_all visiting (trees_of (es ++ b ∷ [])))) in
    let second = costs-append (visits_of e) (in_row (fold_all visiting (trees_of es))) in
    omega (arith, more, first, second)

arm-costs : (q : Pattern) (b : Tree) (vs : List Visit) → costs (declare q ∷ (under q (visits_of b) ++ vs)) ≡ 3 + bound_count q + tree_cost b + costs vs
arm-costs q b vs = let both = costs-append (under q (visits_of b)) vs in let same = costs-under q (visits_of b) in omega (arith, both, same)

arms-more-cost : (cs : List Case) (c : Case) → arms_cost (cs ++ c ∷ []) ≡ arms_cost cs + (3 + bound_count c.pattern + tree_cost c.body)
arms-more-cost [] c = let one = arm-costs c.pattern c.body [] in omega (arith, one)
arms-more-cost (d ∷ cs) c =
    let more = arms-more-cost cs c in
    let first = arm-costs d.pattern d.body (in_arms (fold_cases visiting (cases_of (cs ++ c ∷ [])))) in
    let second = arm-costs d.pattern d.body (in_arms (fold_cases visiting (cases_of cs))) in
    omega (arith, more, first, second)

patterns-more : (qs : List Pattern) (q : Pattern) → bounds_count (qs ++ q ∷ []) ≡ bounds_count qs + bound_count q
patterns-more [] q = let end = length-append (bound_in q) [] in omega (arith, end)
patterns-more (r ∷ qs) q =
    let more = patterns-more qs q in let first = length-append (bound_in r) (bound_in_all (patterns_of (qs ++ q ∷ []))) in
    let second = length-append (bound_in r) (bound_in_all (patterns_of qs)) in
    omega (arith, more, first, second)

two-patterns : (a b : Pattern) → bounds_count (a ∷ b ∷ []) ≡ bound_count a + bound_count b
two-patterns a b = let first = length-append (bound_in a) (bound_in_all (patterns_of (b ∷ []))) in let second = length-append (bound_in b) [] in omega (arith, first, second)

one-pattern : (a : Pattern) → bounds_count (a ∷ []) ≡ bound_count a
one-pattern a = let first = length-append (bound_in a) [] in omega (arith, first)

-- ---- nodes

one-node : (t a : Tree) → visits_of t ≡ around t (visits_of a) → tree_cost t ≡ suc (tree_cost a)
one-node t a is = rw is (around-costs t (visits_of a))

two-node : (t a b : Tree) → visits_of t ≡ around t (visits_of a ++ visits_of b) → tree_cost t ≡ suc (tree_cost a + tree_cost b)
two-node t a b is = rw is (let all = around-costs t (visits_of a ++ visits_of b) in let both = costs-append (visits_of a) (visits_of b) in omega (arith, all, both))

three-node : (t a b c : Tree) → visits_of t ≡ around t (visits_of a ++ (visits_of b ++ visits_of c)) → tree_cost t ≡ suc (tree_cost a + tree_cost b + tree_cost c)
three-node t a b c is =
    rw is (let all = around-costs t (visits_of a ++ (visits_of b ++ visits_of c)) in let both = costs-append (visits_of a) (visits_of b ++ visits_of c) in
    let rest = costs-append (visits_of b) (visits_of c) in omega (arith, all, both, rest))

row-node : (t : Tree) (es : List Tree) → visits_of t ≡ around t (in_row (fold_all visiting (trees_of es))) → tree_cost t ≡ suc (row_cost es)
row-node t es is = rw is (around-costs t (in_row (fold_all visiting (trees_of es))))

fun-node : (i : ℕ) (p : Place) (q : Pattern) (b : Tree) → tree_cost (tree i p (form.fun q b)) ≡ 4 + bound_count q + tree_cost b
fun-node i p q b = let all = around-costs (tree i p (form.fun q b)) (declare q ∷ under q (visits_of b)) in let same = costs-under q (visits_of b) in omega (arith, all, same)

let-node : (i : ℕ) (p : Place) (q : Pattern) (e b : Tree) → tree_cost (tree i p (form.let_in q e b)) ≡ 4 + bound_count q + tree_cost e + tree_cost b
let-node i p q e b =
    let all = around-costs (tree i p (form.let_in q e b)) (declare q ∷ (visits_of e ++ under q (visits_of b))) in
    let both = costs-append (visits_of e) (under q (visits_of b)) in let same = costs-under q (visits_of b) in
    omega (arith, all, both, same)

match-costs : (first : Bool) (e : Tree) (cs : List Case) → costs (in_match first (visits_of e) (fold_cases visiting (cases_of cs))) ≡ tree_cost e + arms_cost cs
match-costs false e cs = let both = costs-append (visits_of e) (in_arms (fold_cases visiting (cases_of cs))) in omega (arith, both)
match-costs true e [] = let both = costs-append (visits_of e) [] in omega (arith, both)
match-costs true e (c ∷ cs) = let both = costs-append (visits_of e) (under c.pattern (visits_of c.body) ++ in_arms (fold_cases visiting (cases_of cs))) in omega (arith, both)

match-node : (i : ℕ) (p : Place) (e : Tree) (cs : List Case) → tree_cost (tree i p (form.match_on e (cases_of cs))) ≡ suc (tree_cost e + arms_cost cs)
match-node i p e cs =
    let t = tree i p (form.match_on e (cases_of cs)) in
    let all = around-costs t (in_match (is_let t) (visits_of e) (fold_cases visiting (cases_of cs))) in let inside = match-costs (is_let t) e cs in
    omega (arith, all, inside)

binding-node : (i : ℕ) (p : Place) (q : Pattern) (e b : Tree) → tree_cost (tree i p (let_form q e b)) ≡ 4 + bound_count q + tree_cost e + tree_cost b
binding-node i p (pattern m any) e b = let-node i p (pattern m any) e b
binding-node i p (pattern m (bind x)) e b = let-node i p (pattern m (bind x)) e b
binding-node i p (pattern m nothing) e b = let-node i p (pattern m nothing) e b
binding-node i p (pattern m (tuple_of ps)) e b =
    let q = pattern m (tuple_of ps) in
    let all = match-node i p e ((record { pattern = q; body = b }) ∷ []) in let one = arm-costs q b [] in omega (arith, all, one)
binding-node i p (pattern m (build_of c o ps)) e b = let-node i p (pattern m (build_of c o ps)) e b

recursive-node : (i f : ℕ) (p : Place) (r : Recursive) (b : Tree) → tree_cost (tree i p (form.let_rec f r.id r.place r.parameter r.body b)) ≡ 6 + bound_count r.parameter + tree_cost r.body + tree_cost b
recursive-node i f p r b = let all = recursive-costs (tree i p (form.let_rec f r.id r.place r.parameter r.body b)) f r (visits_of r.body) (visits_of b) in omega (arith, all)

assert-node : (i : ℕ) (p : Place) (a : Tree) → tree_cost (tree i p (assert_form a)) ≤ suc (tree_cost a)
assert-node i p (tree h z (form.whole n)) = let one = one-node (tree i p (form.assert (tree h z (form.whole n)))) (tree h z (form.whole n)) refl in omega (arith, one)
assert-node i p (tree h z (form.flag true)) = let one = one-node (tree i p (form.assert (tree h z (form.flag true)))) (tree h z (form.flag true)) refl in omega (arith, one)
assert-node i p (tree h z (form.flag false)) = omega arith
assert-node i p (tree h z form.unit) = let one = one-node (tree i p (form.assert (tree h z form.unit))) (tree h z form.unit) refl in omega (arith, one)
assert-node i p (tree h z (form.use_of x)) = let one = one-node (tree i p (form.assert (tree h z (form.use_of x)))) (tree h z (form.use_of x)) refl in omega (arith, one)
assert-node i p (tree h z (form.qualified m x)) = let one = one-node (tree i p (form.assert (tree h z (form.qualified m x)))) (tree h z (form.qualified m x)) refl in omega (arith, one)
assert-node i p (tree h z (form.fun q b)) = let one = one-node (tree i p (form.assert (tree h z (form.fun q b)))) (tree h z (form.fun q b)) refl in omega (arith, one)
assert-node i p (tree h z (form.tuple es)) = let one = one-node (tree i p (form.assert (tree h z (form.tuple es)))) (tree h z (form.tuple es)) refl in omega (arith, one)
assert-node i p (tree h z (form.build c w es)) = let one = one-node (tree i p (form.assert (tree h z (form.build c w es)))) (tree h z (form.build c w es)) refl in omega (arith, one)
assert-node i p (tree h z (form.list_of es)) = let one = one-node (tree i p (form.assert (tree h z (form.list_of es)))) (tree h z (form.list_of es)) refl in omega (arith, one)
assert-node i p (tree h z (form.let_in q e b)) = let one = one-node (tree i p (form.assert (tree h z (form.let_in q e b)))) (tree h z (form.let_in q e b)) refl in omega (arith, one)
assert-node i p (tree h z (form.let_rec f j r q b e)) = let one = one-node (tree i p (form.assert (tree h z (form.let_rec f j r q b e)))) (tree h z (form.let_rec f j r q b e)) refl in omega (arith, one)
assert-node i p (tree h z (form.call a b)) = let one = one-node (tree i p (form.assert (tree h z (form.call a b)))) (tree h z (form.call a b)) refl in omega (arith, one)
assert-node i p (tree h z (form.arithmetic o a b)) = let one = one-node (tree i p (form.assert (tree h z (form.arithmetic o a b)))) (tree h z (form.arithmetic o a b)) refl in omega (arith, one)
assert-node i p (tree h z (form.negated e)) = let one = one-node (tree i p (form.assert (tree h z (form.negated e)))) (tree h z (form.negated e)) refl in omega (arith, one)
assert-node i p (tree h z (form.compare o a b)) = let one = one-node (tree i p (form.assert (tree h z (form.compare o a b)))) (tree h z (form.compare o a b)) refl in omega (arith, one)
assert-node i p (tree h z (form.not_of e)) = let one = one-node (tree i p (form.assert (tree h z (form.not_of e)))) (tree h z (form.not_of e)) refl in omega (arith, one)
assert-node i p (tree h z (form.and_of a b)) = let one = one-node (tree i p (form.assert (tree h z (form.and_of a b)))) (tree h z (form.and_of a b)) refl in omega (arith, one)
assert-node i p (tree h z (form.or_of a b)) = let one = one-node (tree i p (form.assert (tree h z (form.or_of a b)))) (tree h z (form.or_of a b)) refl in omega (arith, one)
assert-node i p (tree h z (form.if_else c a b)) = let one = one-node (tree i p (form.assert (tree h z (form.if_else c a b)))) (tree h z (form.if_else c a b)) refl in omega (arith, one)
assert-node i p (tree h z (form.match_on e cs)) = let one = one-node (tree i p (form.assert (tree h z (form.match_on e cs)))) (tree h z (form.match_on e cs)) refl in omega (arith, one)
assert-node i p (tree h z (form.chain es)) = let one = one-node (tree i p (form.assert (tree h z (form.chain es)))) (tree h z (form.chain es)) refl in omega (arith, one)
assert-node i p (tree h z (form.assert e)) = let one = one-node (tree i p (form.assert (tree h z (form.assert e)))) (tree h z (form.assert e)) refl in omega (arith, one)
assert-node i p (tree h z form.assert_false) = let one = one-node (tree i p (form.assert (tree h z form.assert_false))) (tree h z form.assert_false) refl in omega (arith, one)
assert-node i p (tree h z (form.make a b)) = let one = one-node (tree i p (form.assert (tree h z (form.make a b)))) (tree h z (form.make a b)) refl in omega (arith, one)
assert-node i p (tree h z (form.length_of e)) = let one = one-node (tree i p (form.assert (tree h z (form.length_of e)))) (tree h z (form.length_of e)) refl in omega (arith, one)
assert-node i p (tree h z (form.fetch a b)) = let one = one-node (tree i p (form.assert (tree h z (form.fetch a b)))) (tree h z (form.fetch a b)) refl in omega (arith, one)
assert-node i p (tree h z (form.store a b c)) = let one = one-node (tree i p (form.assert (tree h z (form.store a b c)))) (tree h z (form.store a b c)) refl in omega (arith, one)
assert-node i p (tree h z (form.print e)) = let one = one-node (tree i p (form.assert (tree h z (form.print e)))) (tree h z (form.print e)) refl in omega (arith, one)
assert-node i p (tree h z (form.read e)) = let one = one-node (tree i p (form.assert (tree h z (form.read e)))) (tree h z (form.read e)) refl in omega (arith, one)
assert-node i p (tree h z form.map_empty) = let one = one-node (tree i p (form.assert (tree h z form.map_empty))) (tree h z form.map_empty) refl in omega (arith, one)
assert-node i p (tree h z (form.map_add a b c)) = let one = one-node (tree i p (form.assert (tree h z (form.map_add a b c)))) (tree h z (form.map_add a b c)) refl in omega (arith, one)
assert-node i p (tree h z (form.map_find a b)) = let one = one-node (tree i p (form.assert (tree h z (form.map_find a b)))) (tree h z (form.map_find a b)) refl in omega (arith, one)

join-node : {l : Level} {k : Kind} {f : Tree → Tree → Form} (i : ℕ) (p : Place) (a b : Tree) → Joins l k f → tree_cost (tree i p (f a b)) ≡ suc (tree_cost a + tree_cost b)
join-node i p a b (ors e) = two-node (tree i p (form.or_of a b)) a b refl
join-node i p a b (ands e) = two-node (tree i p (form.and_of a b)) a b refl
join-node i p a b (equals e) = two-node (tree i p (form.compare order.Eq a b)) a b refl
join-node i p a b (differs e) = two-node (tree i p (form.compare order.Ne a b)) a b refl
join-node i p a b (less e) = two-node (tree i p (form.compare order.Lt a b)) a b refl
join-node i p a b (at_most e) = two-node (tree i p (form.compare order.Le a b)) a b refl
join-node i p a b (greater e) = two-node (tree i p (form.compare order.Gt a b)) a b refl
join-node i p a b (at_least e) = two-node (tree i p (form.compare order.Ge a b)) a b refl
join-node i p a b (adds e) = two-node (tree i p (form.arithmetic op.Add a b)) a b refl
join-node i p a b (subtracts e) = two-node (tree i p (form.arithmetic op.Sub a b)) a b refl
join-node i p a b (multiplies e) = two-node (tree i p (form.arithmetic op.Mul a b)) a b refl
join-node i p a b (divides e) = two-node (tree i p (form.arithmetic op.Div a b)) a b refl
join-node i p a b (leaves_rest e) = two-node (tree i p (form.arithmetic op.Mod a b)) a b refl
join-node i p a b (conses e) =
    let row = row-node (tree i p (form.build cons_name Apart (trees_of (a ∷ b ∷ [])))) (a ∷ b ∷ []) refl in
    let first = rows-more (a ∷ []) b in let second = rows-more [] a in
    omega (arith, row, first, second)

-- ---- patterns: each token pays for eight

abbrev PatternPaid : PatternPhrase → List Token → List Token → Type 0
PatternPaid (a_simple q) ts us = bound_count q + 7 + 8 * length us ≤ 8 * length ts
PatternPaid (a_parameter q) ts us = bound_count q + 7 + 8 * length us ≤ 8 * length ts
PatternPaid (a_pattern q) ts us = bound_count q + 7 + 8 * length us ≤ 8 * length ts
PatternPaid (pat.members rs cs) ts us = bounds_count cs + 8 * length us ≤ bounds_count rs + 8 * length ts
PatternPaid (inside rs cs) ts us = bounds_count cs + 8 * length us ≤ bounds_count rs + 8 * length ts

pattern-paid : {x : PatternPhrase} {ts us : List Token} → ReadsPattern x ts us → PatternPaid x ts us
pattern-paid (simple_name i) = omega arith
pattern-paid (simple_any i) = omega arith
pattern-paid (parameter_simple s) = pattern-paid s
pattern-paid (parameter_unit i j) = omega arith
pattern-paid (parameter_tuple {a = a} {b = b} i d j e r) =
    let x = pattern-paid d in let y = pattern-paid e in let z = pattern-paid r in let two = two-patterns a b in omega (arith, x, y, z, two)
pattern-paid (inside_end i) = omega arith
pattern-paid (inside_more {rs = rs} {b = b} i d r) = let x = pattern-paid d in let z = pattern-paid r in let more = patterns-more rs b in omega (arith, x, z, more)
pattern-paid (pattern_simple s g) = pattern-paid s
pattern-paid (pattern_unit i j) = omega arith
pattern-paid (pattern_nil i j) = omega arith
pattern-paid (pattern_cons {a = a} {b = b} d i e) = let x = pattern-paid d in let y = pattern-paid e in let two = two-patterns a b in omega (arith, x, y, two)
pattern-paid (pattern_tuple {a = a} {b = b} d i e r) =
    let x = pattern-paid d in let y = pattern-paid e in let z = pattern-paid r in let two = two-patterns a b in omega (arith, x, y, z, two)
pattern-paid (pattern_inside i d j) = let x = pattern-paid d in omega (arith, x)
pattern-paid (pattern_alone i g) = omega arith
pattern-paid (pattern_one {a = a} i d) = let x = pattern-paid d in let one = one-pattern a in omega (arith, x, one)
pattern-paid (pattern_many {a = a} i j d r) = let x = pattern-paid d in let z = pattern-paid r in let one = one-pattern a in omega (arith, x, z, one)
pattern-paid (pat.members_end s) = omega arith
pattern-paid (pat.members_more {rs = rs} {b = b} i d r) = let x = pattern-paid d in let z = pattern-paid r in let more = patterns-more rs b in omega (arith, x, z, more)

-- ---- expressions

abbrev Paid : Phrase → List Token → List Token → Type 0
Paid (a_seq t c) ts us = tree_cost t + 1 + 8 * length us ≤ 8 * length ts
Paid (row es fs) ts us = row_cost fs + 8 * length us ≤ row_cost es + 8 * length ts
Paid (an_expression t c) ts us = tree_cost t + 1 + 8 * length us ≤ 8 * length ts
Paid (a_tail k t) ts us = tree_cost t + 1 + 8 * length us ≤ 8 * length ts
Paid (a_definition p t) ts us = bound_count p + tree_cost t + 8 + 8 * length us ≤ 8 * length ts
Paid (a_binding p t) ts us = bound_count p + tree_cost t + 8 + 8 * length us ≤ 8 * length ts
Paid (a_recursive f r) ts us = bound_count r.parameter + tree_cost r.body + 8 + 8 * length us ≤ 8 * length ts
Paid (arms rs bs) ts us = arms_cost bs + 8 * length us ≤ arms_cost rs + 8 * length ts
Paid (more_arms rs bs) ts us = arms_cost bs + 8 * length us ≤ arms_cost rs + 8 * length ts
Paid (members es fs) ts us = row_cost fs + 8 * length us ≤ row_cost es + 8 * length ts
Paid (line l w t c) ts us = tree_cost t + 1 + 8 * length us ≤ 8 * length ts
Paid (chain_at l p a c b d) ts us = tree_cost b + 8 * length us ≤ tree_cost a + 8 * length ts
Paid (behind_minus p t c) ts us = tree_cost t + 8 * length us ≤ 8 * length ts
Paid (an_application w t c) ts us = tree_cost t + 1 + 8 * length us ≤ 8 * length ts
Paid (arguments_of p a c b d) ts us = tree_cost b + 8 * length us ≤ tree_cost a + 8 * length ts
Paid (an_operand w t c) ts us = tree_cost t + 1 + 8 * length us ≤ 8 * length ts
Paid (behind_atom w p a c b d) ts us = tree_cost b + 8 * length us ≤ tree_cost a + 8 * length ts
Paid (indexes p a x b y) ts us = tree_cost b + tree_cost y + 8 * length us ≤ tree_cost a + tree_cost x + 8 * length ts
Paid (an_atom t c) ts us = tree_cost t + 1 + 8 * length us ≤ 8 * length ts
Paid (items es fs) ts us = row_cost fs + 8 * length us ≤ row_cost es + 8 * length ts

row-end-paid : {ts us : List Token} → RowEnd ts us → length us ≤ length ts
row-end-paid (plain s) = omega arith
row-end-paid (semicolon i s) = omega arith

maybe-paid : {k : Kind} {ts us : List Token} → Maybe k ts us → length us ≤ length ts
maybe-paid (there i) = omega arith
maybe-paid missing = omega arith

taken-paid : {k : Kind} {ts us : List Token} → Taken k ts us → length us ≤ length ts
taken-paid (taken i) = omega arith
taken-paid (lacking s) = omega arith

two-rows : (a b : Tree) → row_cost (a ∷ b ∷ []) ≡ tree_cost a + tree_cost b
two-rows a b = let first = rows-more (a ∷ []) b in let second = rows-more [] a in omega (arith, first, second)

paid : {x : Phrase} {n m : ℕ} {ts us : List Token} → Reads x n ts m us → Paid x ts us
paid (seq_one d e) = let hd = paid d in let end = row-end-paid e in omega (arith, hd, end)
paid (seq_more {a = a} {b = b} {es = es} {t = t} {k = k} {ts = ts} d i e r) = let hd = paid d in let he = paid e in let hr = paid r in let two = two-rows a b in let all = row-node (tree k (place_at ts) (form.chain (trees_of es))) es refl in omega (arith, hd, he, hr, two, all)
paid (row_end e) = let end = row-end-paid e in omega (arith, end)
paid (row_more {es = es} {b = b} i d r) = let hd = paid d in let hr = paid r in let more = rows-more es b in omega (arith, hd, hr, more)
paid (expression_let {p = q} {a = a} {b = b} {t = t} {j = j} i d k e) = let hd = paid d in let he = paid e in let all = binding-node j t.place q a b in omega (arith, hd, he, all)
paid (expression_rec {f = f} {r = r} {b = b} {t = t} {j = k} i j d v e) = let hd = paid d in let he = paid e in let all = recursive-node k f t.place r b in omega (arith, hd, he, all)
paid (expression_fun {p = q} {b = b} {t = t} {i = k} i p d) = let hd = paid d in let first = pattern-paid p in let all = fun-node k t.place q b in omega (arith, hd, first, all)
paid (expression_match {e = a} {rs = rs} {t = t} {j = k} i d j o e) = let hd = paid d in let he = paid e in let bar = maybe-paid o in let all = match-node k t.place a rs in omega (arith, hd, he, bar, all)
paid (expression_if {e = a} {a = b} {b = c} {t = t} {k = m} i d j e k f) = let hd = paid d in let he = paid e in let hf = paid f in let all = three-node (tree m t.place (form.if_else a b c)) a b c refl in omega (arith, hd, he, hf, all)
paid (expression_when {e = a} {a = b} {t = t} {j = j} i d k e s) = let hd = paid d in let he = paid e in let all = three-node (tree (suc j) t.place (form.if_else a b (tree j t.place form.unit))) a b (tree j t.place form.unit) refl in omega (arith, hd, he, all)
paid (expression_store {b = b} {y = y} {e = v} {m = m} {ts = ts} d i x j ix k e) = let hd = paid d in let hx = paid x in let hix = paid ix in let he = paid e in let all = three-node (tree m (place_at ts) (form.store b y v)) b y v refl in omega (arith, hd, hx, hix, he, all)
paid (expression_one d s) = let hd = paid d in omega (arith, hd)
paid (expression_tuple {a = a} {b = b} {es = es} {k = k} {ts = ts} d i e r) = let hd = paid d in let he = paid e in let hr = paid r in let two = two-rows a b in let all = row-node (tree k (place_at ts) (form.tuple (trees_of es))) es refl in omega (arith, hd, he, hr, two, all)
paid (members_end s) = omega arith
paid (members_more {es = es} {b = b} i d r) = let hd = paid d in let hr = paid r in let more = rows-more es b in omega (arith, hd, hr, more)
paid (tail_end i d) = let hd = paid d in omega (arith, hd)
paid (tail_more {p = q} {b = b} {i = i} p d) = let hd = paid d in let first = pattern-paid p in let all = fun-node i (place_of_pattern q) q b in omega (arith, hd, first, all)
paid (definition_name i d) = let hd = paid d in omega (arith, hd)
paid (definition_any i j d) = let hd = paid d in omega (arith, hd)
paid (definition_unit i j k d) = let hd = paid d in omega (arith, hd)
paid (binding_plain d) = let hd = paid d in omega (arith, hd)
paid (binding_tuple {p = p} {q = q} a i b c j d) = let hd = paid d in let x = pattern-paid a in let y = pattern-paid b in let z = pattern-paid c in let two = two-patterns p q in omega (arith, hd, x, y, z, two)
paid (binding_inside {p = p} {q = q} i a j b c k d) = let hd = paid d in let x = pattern-paid a in let y = pattern-paid b in let z = pattern-paid c in let two = two-patterns p q in omega (arith, hd, x, y, z, two)
paid (recursive_name i p d) = let hd = paid d in let first = pattern-paid p in omega (arith, hd, first)
paid (recursive_fun i j k p d) = let hd = paid d in let first = pattern-paid p in omega (arith, hd, first)
paid (arms_one {rs = rs} {p = p} {b = b} q i d r) = let hd = paid d in let hr = paid r in let first = pattern-paid q in let more = arms-more-cost rs (record { pattern = p; body = b }) in omega (arith, hd, hr, first, more)
paid (arms_end s) = omega arith
paid (arms_more i r) = let hr = paid r in omega (arith, hr)
paid (binary_one b d s) = let hd = paid d in omega (arith, hd)
paid (binary_two {a = a} {b = c} {j = m} {ts = ts} b d j e) = let hd = paid d in let he = paid e in let all = join-node m (place_at ts) a c j in omega (arith, hd, he, all)
paid (chain_of b d e) = let hd = paid d in let he = paid e in omega (arith, hd, he)
paid (chain_end b s) = omega arith
paid (chain_more {p = p} {a = a} {b = c} {i = m} b j d e) = let hd = paid d in let he = paid e in let all = join-node m p a c j in omega (arith, hd, he, all)
paid (negation_application d) = let hd = paid d in omega (arith, hd)
paid (negation_minus i d) = let hd = paid d in omega (arith, hd)
paid (minus_of {p = p} {a = a} {i = i} s d) = let hd = paid d in let all = one-node (tree i p (form.negated a)) a refl in omega (arith, hd, all)
paid (minus_number i s d e) = let hd = paid d in let he = paid e in omega (arith, hd, he)
paid (minus_limit i s d e) = let hd = paid d in let he = paid e in omega (arith, hd, he)
paid (application_assert {a = a} {t = t} {i = m} i d) = let hd = paid d in let all = assert-node m t.place a in omega (arith, hd, all)
paid (application_not {a = a} {t = t} {i = m} i d) = let hd = paid d in let all = one-node (tree m t.place (form.not_of a)) a refl in omega (arith, hd, all)
paid (application_build {x = x} {a = a} {c = c} {t = t} {i = m} i d) = let hd = paid d in let one = rows-more [] a in let all = row-node (tree m t.place (form.build x (arguments c) (trees_of (a ∷ [])))) (a ∷ []) refl in omega (arith, hd, one, all)
paid (application_constant i s) = omega arith
paid (application_call c d e) = let hd = paid d in let he = paid e in omega (arith, hd, he)
paid (arguments_end s) = omega arith
paid (arguments_more {p = p} {a = a} {b = b} {i = m} d e) = let hd = paid d in let he = paid e in let all = two-node (tree m p (form.call a b)) a b refl in omega (arith, hd, he, all)
paid (operand_of d e) = let hd = paid d in let he = paid e in omega (arith, hd, he)
paid (atom_alone s) = omega arith
paid (atom_indexed {p = p} {b = b} {y = y} {j = m} i d j e s) = let hd = paid d in let he = paid e in let all = two-node (tree m p (form.fetch b y)) b y refl in omega (arith, hd, he, all)
paid (indexes_end s) = omega arith
paid (indexes_more {p = p} {a = a} {x = x} {n = n} i d j e) = let hd = paid d in let he = paid e in let all = two-node (tree n p (form.fetch a x)) a x refl in omega (arith, hd, he, all)
paid (atom_number i s) = omega arith
paid (atom_true i) = omega arith
paid (atom_false i) = omega arith
paid (atom_name i) = omega arith
paid (atom_qualified i j k) = omega arith
paid (atom_constant i s) = omega arith
paid (atom_unit i j) = omega arith
paid (atom_inside i d j) = let hd = paid d in omega (arith, hd)
paid (atom_block i d j) = let hd = paid d in omega (arith, hd)
paid (atom_list {es = es} {t = t} {i = m} i d) = let hd = paid d in let all = row-node (tree m t.place (form.list_of (trees_of es))) es refl in omega (arith, hd, all)
paid (items_end i) = omega arith
paid (items_last {es = es} {a = a} d i) = let hd = paid d in let more = rows-more es a in omega (arith, hd, more)
paid (items_more {es = es} {a = a} d i r) = let hd = paid d in let hr = paid r in let more = rows-more es a in omega (arith, hd, hr, more)

-- ---- items

item-costs : (i : ItemTree) → costs (visits_of_item i) ≡ costs (visits_of_form i.form)
item-costs i = let both = costs-append (visits_of_form i.form) (leave_item i ∷ []) in omega (arith, both)

-- a definition of a datatype adds nothing, and takes tokens
types-paid : {x : TypePhrase} {ts us : List Token} → ReadsType x ts us → length us ≤ length ts
types-paid (type_product d s) = let hd = types-paid d in omega (arith, hd)
types-paid (type_arrow d i e) = let hd = types-paid d in let he = types-paid e in omega (arith, hd, he)
types-paid (product_one d s) = let hd = types-paid d in omega (arith, hd)
types-paid (product_more d i e r) = let hd = types-paid d in let he = types-paid e in let hr = types-paid r in omega (arith, hd, he, hr)
types-paid (ty.members_end s) = omega arith
types-paid (ty.members_more i d r) = let hd = types-paid d in let hr = types-paid r in omega (arith, hd, hr)
types-paid (applied_variable i d) = let hd = types-paid d in omega (arith, hd)
types-paid (applied_name i d) = let hd = types-paid d in omega (arith, hd)
types-paid (applied_inside i d j e) = let hd = types-paid d in let he = types-paid e in omega (arith, hd, he)
types-paid (applied_row i d j e r k f) = let hd = types-paid d in let he = types-paid e in let hr = types-paid r in let hf = types-paid f in omega (arith, hd, he, hr, hf)
types-paid (ty.inside_end i) = omega arith
types-paid (ty.inside_more i d r) = let hd = types-paid d in let hr = types-paid r in omega (arith, hd, hr)
types-paid (names_end s) = omega arith
types-paid (names_more i d) = let hd = types-paid d in omega (arith, hd)

definition-paid : {x : DefinitionPhrase} {ts us : List Token} → ReadsDefinition x ts us → length us ≤ length ts
definition-paid parameters_none = omega arith
definition-paid (parameters_one i) = omega arith
definition-paid (parameters_many i j r) = let hr = definition-paid r in omega (arith, hr)
definition-paid (parameters_end i) = omega arith
definition-paid (parameters_more i j r) = let hr = definition-paid r in omega (arith, hr)
definition-paid (constructor i d e) = let hd = definition-paid d in let he = definition-paid e in omega (arith, hd, he)
definition-paid (constructors_end s) = omega arith
definition-paid (constructors_more i d) = let hd = definition-paid d in omega (arith, hd)
definition-paid (fields_none s) = omega arith
definition-paid (fields_some i d e) = let hd = types-paid d in let he = definition-paid e in omega (arith, hd, he)
definition-paid (fields_end s) = omega arith
definition-paid (fields_more i d e) = let hd = types-paid d in let he = definition-paid e in omega (arith, hd, he)

item-paid : {i : ItemTree} {n m : ℕ} {ts us : List Token} → ReadsItem i n ts m us → costs (visits_of_form i.form) + 8 * length us ≤ 8 * length ts
item-paid (item_type a b c d e f) = let x = definition-paid b in let y = definition-paid f in let bar = maybe-paid e in omega (arith, x, y, bar)
item-paid (item_let {p = q} {b = b} i d) =
    let x = paid d in let both = costs-append (visits_of b) (show q ∷ []) in omega (arith, x, both)
item-paid (item_rec {f = f} {r = r} i j d) = let x = paid d in let all = function-costs r (visits_of r.body) in omega (arith, x, all)

items-append : (is js : List ItemTree) → costs (visits_of_items (is ++ js)) ≡ costs (visits_of_items is) + costs (visits_of_items js)
items-append [] js = omega arith
items-append (i ∷ is) js =
    let more = items-append is js in let first = costs-append (visits_of_item i) (visits_of_items (is ++ js)) in
    let second = costs-append (visits_of_item i) (visits_of_items is) in
    omega (arith, more, first, second)

pub items-paid : {is js : List ItemTree} {n m : ℕ} {ts us : List Token} → ReadsItems is js n ts m us
    → costs (visits_of_items js) + 8 * length us ≤ costs (visits_of_items is) + 8 * length ts
items-paid (program_end s) = omega arith
items-paid (program_more {i = i} {is = is} d s r) =
    let x = item-paid d in let y = items-paid r in let bar = taken-paid s in let more = items-append is (i ∷ []) in
    let one = costs-append (visits_of_item i) [] in let same = item-costs i in
    omega (arith, x, y, bar, more, one, same)
