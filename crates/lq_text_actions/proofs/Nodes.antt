-- The actions on expressions find what they need.
use Rattle.std.specs.Prelude.{max, nat_lt, pos, neg_ℤ}
use Rattle.std.proofs.Common.{◌≡◌, ℕ, suc, ◌+◌, ◌≤◌, refl, true, false, Some, List, [], ◌∷◌, arith}
use Rattle.std.proofs.Math.Nat.{max-le, le_trans}
use Rattle.std.proofs.lemmas.Bool.{lt-ltb, le-ltb}
use Rattle.lq_base_names.specs.declared.limits.TheConstants.{LITERAL_LIMIT}
use Rattle.lq_base_names.specs.declared.place.Place.{Place}
use Rattle.lq_text_tree.specs.declared.expr.Arguments.TheVariants.{Apart}
use Rattle.lq_text_tree.specs.Levels.{nesting, nesting_in, nesting_of_cases}
use Rattle.lq_text_tree.specs.Pattern.{Pattern, pattern, tuple_of}
use Rattle.lq_text_tree.specs.Tree.{Tree, tree, Form, whole, flag, unit, use_of, qualified, tuple, build, list_of, call, arithmetic, negated, compare, not_of, and_of, or_of, chain}
use Rattle.lq_text_tree.specs.TreeView.{trees_of, cases_of}
use Rattle.lq_text_grammar.specs.declared.symbol.BlockAction.{BlockAction}
use Rattle.lq_text_grammar.specs.declared.symbol.BlockAction.TheVariants.{Function, FunctionHere, Recursive as RecursiveFunction, RecursiveHere, LetIn, LetRecIn, NoArms, AppendArm, MatchOf, IfElse, IfOnly, AssertOf, NotOf, ChainOf, TupleOf, ListLiteral, NoTrees, TwoTrees, AppendTree}
use Rattle.lq_text_grammar.specs.declared.symbol.OperandAction.{OperandAction}
use Rattle.lq_text_grammar.specs.declared.symbol.OperandAction.TheVariants.{Literal, NegativeLiteral, Truth, Untruth, UseOf, QualifiedOf, ConstantOf, BuildOf, UnitHere, Enclosed, BlockOf, ElementOf, FetchOf, StoreOf, CallOf, NegateOf, ConsOf, AndOf, OrOf, ArithOf, CompareOf}
use Rattle.lq_text_grammar.specs.declared.symbol.Action.TheVariants.{Block, Operand}
use Rattle.lq_text_actions.specs.Value.{Lexeme, by_name, by_number, Commas, bare, absent, mark, named, expression, expressions, element, arms, recursive, pattern_read, with_node}
use Rattle.lq_text_actions.specs.Patterns.{cons_name}
use Rattle.lq_text_actions.specs.Expressions.{literal, negative_literal, of_name, at_mark, of_one, of_two, of_row, build_one, in_parentheses, enclose, element_of, fetch_of, store_of, operand_made, function_of, function_here, recursive_of, recursive_here, let_form, let_of_all, let_rec_of_all, append_arm, match_of, if_of, if_only, assert_form, two_trees, append_tree, block_made}
use Rattle.lq_text_actions.proofs.Sorts.{a_mark, a_name, a_tree, some_trees, an_element, some_arms, a_function, a_pattern, Need}
use Rattle.lq_text_actions.proofs.Signatures.{action_signature, keeps, sinks}
use Rattle.lq_text_actions.proofs.Nesting.{Held, Gives, Makes, gives-makes, trees-append, cases-append}
use Rattle.lq_text_actions.proofs.Contents.{FitsAfter, on_name, on_below, on_up_to}
use Rattle.lq_text_actions.proofs.Rows.{leaf_gives}

-- a node with nothing below it
leaf_makes : (form : Form) (place : Place) → nesting_in form ≡ 0 → Makes [] a_tree (λ n vs. with_node n place form absent vs)
leaf_makes form place flat bound n vs h = (expression (tree n place form) place absent, suc n, refl, refl, omega (arith, flat), omega arith)

literal_makes : (v : ℕ) (place : Place) → nat_lt v LITERAL_LIMIT ≡ true → Makes [] a_tree (λ n vs. literal n v vs place)
literal_makes v place small bound n vs h = (expression (tree n place (whole (pos v))) place absent, suc n, rw small refl, refl, omega arith, omega arith)

negative_makes : (v : ℕ) → nat_lt LITERAL_LIMIT v ≡ false → Makes (keeps a_mark ∷ []) a_tree (λ n vs. negative_literal n v vs)
negative_makes v small bound n (mark p ∷ vs) h = (expression (tree n p (whole (neg_ℤ (pos v)))) p absent, suc n, rw small refl, refl, omega arith, omega arith)
negative_makes v small bound n vs h = absurd cc

of_name_makes : (form : ℕ → Form) → ((x : ℕ) → nesting_in (form x) ≡ 0) → Makes (keeps a_name ∷ []) a_tree (of_name form)
of_name_makes form flat bound n (named x p ∷ vs) h = (_, _, refl, refl, omega (arith, flat x), omega arith)
of_name_makes form flat bound n vs h = absurd cc

at_mark_makes : (form : Form) → nesting_in form ≡ 0 → Makes (keeps a_mark ∷ []) a_tree (at_mark form)
at_mark_makes form flat bound n (mark p ∷ vs) h = (_, _, refl, refl, omega (arith, flat), omega arith)
at_mark_makes form flat bound n vs h = absurd cc

of_one_makes : (form : Tree → Form) → ((e : Tree) → nesting_in (form e) ≤ nesting e + 1) → Makes (sinks a_tree ∷ keeps a_mark ∷ []) a_tree (of_one form)
of_one_makes form deep bound n (expression e q c ∷ mark p ∷ vs) h = (_, _, refl, refl, le_trans (deep e) h.1, omega arith)
of_one_makes form deep bound n vs h = absurd cc

of_two_makes : (form : Tree → Tree → Form) → ((a b : Tree) → nesting_in (form a b) ≡ max (nesting a) (nesting b + 1)) → Makes (sinks a_tree ∷ keeps a_tree ∷ []) a_tree (of_two form)
of_two_makes form deep bound n (expression b q d ∷ expression a p c ∷ vs) h = (_, _, refl, refl, rw (deep a b) (max-le h.2.1 h.1), omega arith)
of_two_makes form deep bound n vs h = absurd cc

of_row_makes : (need : Need) (form : List Tree → Form) (commas : Commas) → need.sort ≡ some_trees → ((es : List Tree) (p : Place) (bound : ℕ) → Held bound (need ∷ []) (expressions es p ∷ []) → nesting_in (form es) ≤ bound) → Makes (need ∷ []) a_tree (of_row form commas)
of_row_makes need form commas is deep bound n (expressions es p ∷ vs) h = (_, _, refl, refl, deep es p bound (h.0, h.1, tt), omega arith)
of_row_makes need form commas is deep bound n vs h = absurd cc

build_makes : Makes (keeps a_tree ∷ keeps a_name ∷ []) a_tree build_one
build_makes bound n (expression e q c ∷ named x p ∷ vs) h = (_, _, refl, refl, omega (arith, h.1), omega arith)
build_makes bound n vs h = absurd cc

enclose_gives : (commas : Commas → Commas) → Gives (keeps a_tree ∷ keeps a_mark ∷ []) a_tree (enclose commas)
enclose_gives commas bound (expression e q c ∷ mark p ∷ vs) h = (_, refl, refl, h.1)
enclose_gives commas bound vs h = absurd cc

element_gives : Gives (sinks a_tree ∷ keeps a_tree ∷ []) an_element element_of
element_gives bound (expression i q d ∷ expression a p c ∷ vs) h = (_, refl, refl, max-le h.2.1 h.1)
element_gives bound vs h = absurd cc

fetch_makes : Makes (keeps an_element ∷ []) a_tree fetch_of
fetch_makes bound n (element a i p ∷ vs) h = (_, _, refl, refl, h.1, omega arith)
fetch_makes bound n vs h = absurd cc

store-nests : (a i e bound : ℕ) → max a (i + 1) ≤ bound → e + 1 ≤ bound → max a (max i e + 1) ≤ bound
store-nests a i e bound h g = omega arith

store_makes : Makes (sinks a_tree ∷ keeps an_element ∷ []) a_tree store_of
store_makes bound n (expression e q c ∷ element a i p ∷ vs) h = (_, _, refl, refl, store-nests (nesting a) (nesting i) (nesting e) bound h.2.1 h.1, omega arith)
store_makes bound n vs h = absurd cc

cons-nests : (a b : ℕ) → max a (max (b + 1) 0) ≡ max a (b + 1)
cons-nests a b = omega arith

pub operand_makes : (a : OperandAction) (l : Lexeme) → FitsAfter (action_signature (Operand a)).after l → Makes (action_signature (Operand a)).needs (action_signature (Operand a)).gives (λ n vs. operand_made a l n vs)
operand_makes Literal l f = on_below (λ c. Makes [] a_tree (λ n vs. by_number c (λ v. literal n v vs l.place))) l.content f (λ v small. literal_makes v l.place (lt-ltb v LITERAL_LIMIT small))
operand_makes NegativeLiteral l f = on_up_to (λ c. Makes (keeps a_mark ∷ []) a_tree (λ n vs. by_number c (λ v. negative_literal n v vs))) l.content f (λ v small. negative_makes v (le-ltb LITERAL_LIMIT v small))
operand_makes Truth l f = leaf_makes (flag true) l.place refl
operand_makes Untruth l f = leaf_makes (flag false) l.place refl
operand_makes UseOf l f = on_name (λ c. Makes [] a_tree (λ n vs. by_name c (λ x. with_node n l.place (use_of x) absent vs))) l.content f (λ x. leaf_makes (use_of x) l.place refl)
operand_makes QualifiedOf l f = on_name (λ c. Makes (keeps a_name ∷ []) a_tree (λ n vs. by_name c (λ x. of_name (λ m. qualified m x) n vs))) l.content f (λ x. of_name_makes (λ m. qualified m x) (λ y. refl))
operand_makes ConstantOf l f = of_name_makes (λ c. build c Apart (trees_of [])) (λ x. refl)
operand_makes BuildOf l f = build_makes
operand_makes UnitHere l f = at_mark_makes unit refl
operand_makes Enclosed l f = gives-makes (keeps a_tree ∷ keeps a_mark ∷ []) a_tree (enclose in_parentheses) (enclose_gives in_parentheses)
operand_makes BlockOf l f = gives-makes (keeps a_tree ∷ keeps a_mark ∷ []) a_tree (enclose (λ c. absent)) (enclose_gives (λ c. absent))
operand_makes ElementOf l f = gives-makes (sinks a_tree ∷ keeps a_tree ∷ []) an_element element_of element_gives
operand_makes FetchOf l f = fetch_makes
operand_makes StoreOf l f = store_makes
operand_makes CallOf l f = of_two_makes call (λ a b. refl)
operand_makes NegateOf l f = of_one_makes negated (λ e. omega arith)
operand_makes ConsOf l f = of_two_makes (λ a b. build cons_name Apart (trees_of (a ∷ b ∷ []))) (λ a b. cons-nests (nesting a) (nesting b))
operand_makes AndOf l f = of_two_makes and_of (λ a b. refl)
operand_makes OrOf l f = of_two_makes or_of (λ a b. refl)
operand_makes (ArithOf o) l f = of_two_makes (arithmetic o) (λ a b. refl)
operand_makes (CompareOf o) l f = of_two_makes (compare o) (λ a b. refl)

-- functions
function_makes : Makes (sinks a_tree ∷ keeps a_pattern ∷ []) a_tree function_of
function_makes bound n (expression b q c ∷ pattern_read p ∷ vs) h = (_, _, refl, refl, h.1, omega arith)
function_makes bound n vs h = absurd cc

function_here_makes : Makes (sinks a_tree ∷ keeps a_pattern ∷ keeps a_mark ∷ []) a_tree function_here
function_here_makes bound n (expression b q c ∷ pattern_read p ∷ mark m ∷ vs) h = (_, _, refl, refl, h.1, omega arith)
function_here_makes bound n vs h = absurd cc

recursive_makes : Makes (sinks a_tree ∷ keeps a_pattern ∷ keeps a_name ∷ []) a_function recursive_of
recursive_makes bound n (expression b q c ∷ pattern_read p ∷ named f o ∷ vs) h = (_, _, refl, refl, h.1, omega arith)
recursive_makes bound n vs h = absurd cc

recursive_here_makes : Makes (sinks a_tree ∷ keeps a_pattern ∷ keeps a_mark ∷ keeps a_name ∷ []) a_function recursive_here
recursive_here_makes bound n (expression b q c ∷ pattern_read p ∷ mark m ∷ named f o ∷ vs) h = (_, _, refl, refl, h.1, omega arith)
recursive_here_makes bound n vs h = absurd cc

-- both parts a level below
max-sinks : (a b bound : ℕ) → a + 1 ≤ bound → b + 1 ≤ bound → max a b + 1 ≤ bound
max-sinks a b bound h g = omega arith

arm-sinks : (a b bound : ℕ) → a + 1 ≤ bound → b + 1 ≤ bound → max a (max b 0) + 1 ≤ bound
arm-sinks a b bound h g = omega arith

let-nests : (p : Pattern) (e b : Tree) (bound : ℕ) → nesting e + 1 ≤ bound → nesting b + 1 ≤ bound → nesting_in (let_form p e b) ≤ bound
let-nests (pattern p (tuple_of ps)) e b bound h g = arm-sinks (nesting e) (nesting b) bound h g
let-nests (pattern p f) e b bound h g = max-sinks (nesting e) (nesting b) bound h g

let_makes : Makes (sinks a_tree ∷ sinks a_tree ∷ keeps a_pattern ∷ keeps a_mark ∷ []) a_tree let_of_all
let_makes bound n (expression b r d ∷ expression e q c ∷ pattern_read p ∷ mark m ∷ vs) h = (_, _, refl, refl, let-nests p e b bound h.2.1 h.1, omega arith)
let_makes bound n vs h = absurd cc

let_rec_makes : Makes (sinks a_tree ∷ sinks a_function ∷ keeps a_mark ∷ []) a_tree let_rec_of_all
let_rec_makes bound n (expression b q c ∷ recursive f r ∷ mark m ∷ vs) h = (_, _, refl, refl, max-sinks (nesting r.body + 1) (nesting b) bound h.2.1 h.1, omega arith)
let_rec_makes bound n vs h = absurd cc

-- matches and conditionals
arm_gives : Gives (keeps a_tree ∷ keeps a_pattern ∷ keeps some_arms ∷ []) some_arms append_arm
arm_gives bound (expression b q c ∷ pattern_read p ∷ arms as_ ∷ vs) h = (_, refl, refl, cases-append as_ (record { pattern = p; body = b }) bound h.2.2.1 h.1)
arm_gives bound vs h = absurd cc

match_makes : Makes (sinks some_arms ∷ sinks a_tree ∷ keeps a_mark ∷ []) a_tree match_of
match_makes bound n (arms as_ ∷ expression e q c ∷ mark m ∷ vs) h = (_, _, refl, refl, max-sinks (nesting e) (nesting_of_cases (cases_of as_)) bound h.2.1 h.1, omega arith)
match_makes bound n vs h = absurd cc

three-sink : (a b c bound : ℕ) → a + 1 ≤ bound → b + 1 ≤ bound → c + 1 ≤ bound → max a (max b c) + 1 ≤ bound
three-sink a b c bound h g k = omega arith

if_makes : Makes (sinks a_tree ∷ sinks a_tree ∷ sinks a_tree ∷ keeps a_mark ∷ []) a_tree if_of
if_makes bound n (expression b r d ∷ expression a q c ∷ expression e p o ∷ mark m ∷ vs) h = (_, _, refl, refl, three-sink (nesting e) (nesting a) (nesting b) bound h.2.2.1 h.2.1 h.1, omega arith)
if_makes bound n vs h = absurd cc

if_only_makes : Makes (sinks a_tree ∷ sinks a_tree ∷ sinks a_mark ∷ []) a_tree if_only
if_only_makes bound n (expression a q c ∷ expression e p o ∷ mark m ∷ vs) h = (_, _, refl, refl, three-sink (nesting e) (nesting a) 0 bound h.2.1 h.1 h.2.2.1, omega arith)
if_only_makes bound n vs h = absurd cc

assert-nests : (e : Tree) → nesting_in (assert_form e) ≤ nesting e + 1
assert-nests (tree n p (flag false)) = omega arith
assert-nests (tree n p f) = omega arith

-- rows
two_trees_give : Gives (keeps a_tree ∷ keeps a_tree ∷ []) some_trees two_trees
two_trees_give bound (expression b q d ∷ expression a p c ∷ vs) h = (_, refl, refl, trees-append (a ∷ []) b bound (trees-append [] a bound (omega arith) h.2.1) h.1)
two_trees_give bound vs h = absurd cc

append_tree_gives : Gives (keeps a_tree ∷ keeps some_trees ∷ []) some_trees append_tree
append_tree_gives bound (expression b q c ∷ expressions es p ∷ vs) h = (_, refl, refl, trees-append es b bound h.2.1 h.1)
append_tree_gives bound vs h = absurd cc

pub block_makes : (a : BlockAction) (l : Lexeme) → Makes (action_signature (Block a)).needs (action_signature (Block a)).gives (λ n vs. block_made a l n vs)
block_makes Function l = function_makes
block_makes FunctionHere l = function_here_makes
block_makes RecursiveFunction l = recursive_makes
block_makes RecursiveHere l = recursive_here_makes
block_makes LetIn l = let_makes
block_makes LetRecIn l = let_rec_makes
block_makes NoArms l = gives-makes [] some_arms (λ vs. Some (arms [] ∷ vs)) (leaf_gives (arms []) refl)
block_makes AppendArm l = gives-makes (keeps a_tree ∷ keeps a_pattern ∷ keeps some_arms ∷ []) some_arms append_arm arm_gives
block_makes MatchOf l = match_makes
block_makes IfElse l = if_makes
block_makes IfOnly l = if_only_makes
block_makes AssertOf l = of_one_makes assert_form assert-nests
block_makes NotOf l = of_one_makes not_of (λ e. omega arith)
block_makes ChainOf l = of_row_makes (keeps some_trees) (λ es. chain (trees_of es)) absent refl (λ es p bound h. h.1)
block_makes TupleOf l = of_row_makes (keeps some_trees) (λ es. tuple (trees_of es)) bare refl (λ es p bound h. h.1)
block_makes ListLiteral l = of_row_makes (sinks some_trees) (λ es. list_of (trees_of es)) absent refl (λ es p bound h. h.1)
block_makes NoTrees l = gives-makes [] some_trees (λ vs. Some (expressions [] l.place ∷ vs)) (leaf_gives (expressions [] l.place) refl)
block_makes TwoTrees l = gives-makes (keeps a_tree ∷ keeps a_tree ∷ []) some_trees two_trees two_trees_give
block_makes AppendTree l = gives-makes (keeps a_tree ∷ keeps some_trees ∷ []) some_trees append_tree append_tree_gives
