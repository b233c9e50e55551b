-- What actions make of expressions.
use Rattle.std.specs.Prelude.{ℕ, suc, pos, neg_ℤ, nat_lt, true, false, List, [], ◌∷◌, ◌++◌, Option, Some, None, if◌then◌else◌}
use Rattle.lq_base_names.specs.declared.limits.TheConstants.{LITERAL_LIMIT}
use Rattle.lq_base_names.specs.declared.place.Place.{Place}
use Rattle.lq_text_tree.specs.declared.expr.Arguments.{Arguments}
use Rattle.lq_text_tree.specs.declared.expr.Arguments.TheVariants.{Apart, Listed}
use Rattle.lq_text_tree.specs.Pattern.{Pattern, pattern, tuple_of}
use Rattle.lq_text_tree.specs.Tree.{Tree, tree, Form, whole, flag, unit, use_of, qualified, fun, tuple, build, list_of, let_in, let_rec, call, arithmetic, negated, compare, not_of, and_of, or_of, if_else, match_on, chain, assert, assert_false, fetch, store}
use Rattle.lq_text_tree.specs.TreeView.{trees_of, cases_of}
use Rattle.lq_text_grammar.specs.declared.symbol.BlockAction.{BlockAction}
use Rattle.lq_text_grammar.specs.declared.symbol.BlockAction.TheVariants.{Function, FunctionHere, Recursive as RecursiveFunction, RecursiveHere, LetIn, LetRecIn, NoArms, AppendArm, MatchOf, IfElse, IfOnly, AssertOf, NotOf, ChainOf, TupleOf, ListLiteral, NoTrees, TwoTrees, AppendTree}
use Rattle.lq_text_grammar.specs.declared.symbol.OperandAction.{OperandAction}
use Rattle.lq_text_grammar.specs.declared.symbol.OperandAction.TheVariants.{Literal, NegativeLiteral, Truth, Untruth, UseOf, QualifiedOf, ConstantOf, BuildOf, UnitHere, Enclosed, BlockOf, ElementOf, FetchOf, StoreOf, CallOf, NegateOf, ConsOf, AndOf, OrOf, ArithOf, CompareOf}
use Rattle.lq_text_actions.specs.Value.{Lexeme, by_name, by_number, Commas, bare, enclosed, absent, Value, mark, named, expression, expressions, element, arms, recursive, pattern_read, Making, with_values, with_node}
use Rattle.lq_text_actions.specs.Patterns.{place_of_pattern, cons_name}

-- A number as a literal: below the limit, or at most the limit behind a minus.
abbrev pub literal : ℕ → ℕ → List Value → Place → Option Making
literal n v vs place = if nat_lt v LITERAL_LIMIT then with_node n place (whole (pos v)) absent vs else None

abbrev pub negative_literal : ℕ → ℕ → List Value → Option Making
negative_literal n v (mark p ∷ vs) = if nat_lt LITERAL_LIMIT v then None else with_node n p (whole (neg_ℤ (pos v))) absent vs
negative_literal n v vs = None

-- an expression that is a name, and what follows it
abbrev pub of_name : (ℕ → Form) → ℕ → List Value → Option Making
of_name form n (named x p ∷ vs) = with_node n p (form x) absent vs
of_name form n vs = None

-- one that stands at a kept place
abbrev pub at_mark : Form → ℕ → List Value → Option Making
at_mark form n (mark p ∷ vs) = with_node n p form absent vs
at_mark form n vs = None

-- one that has a keyword or a minus in front
abbrev pub of_one : (Tree → Form) → ℕ → List Value → Option Making
of_one form n (expression e q c ∷ mark p ∷ vs) = with_node n p (form e) absent vs
of_one form n vs = None

-- one of two parts, which begins with the first
abbrev pub of_two : (Tree → Tree → Form) → ℕ → List Value → Option Making
of_two form n (expression b q d ∷ expression a p c ∷ vs) = with_node n p (form a b) absent vs
of_two form n vs = None

-- one of a row
abbrev pub of_row : (List Tree → Form) → Commas → ℕ → List Value → Option Making
of_row form commas n (expressions es p ∷ vs) = with_node n p (form es) commas vs
of_row form commas n vs = None

-- a constructor's argument is held as it is written
abbrev pub arguments : Commas → Arguments
arguments bare = Apart
arguments enclosed = Listed
arguments absent = Apart

abbrev pub build_one : ℕ → List Value → Option Making
build_one n (expression e q c ∷ named x p ∷ vs) = with_node n p (build x (arguments c) (trees_of (e ∷ []))) absent vs
build_one n vs = None

-- parentheses make no node
abbrev pub in_parentheses : Commas → Commas
in_parentheses bare = enclosed
in_parentheses enclosed = absent
in_parentheses absent = absent

abbrev pub enclose : (Commas → Commas) → List Value → Option (List Value)
enclose commas (expression e q c ∷ mark p ∷ vs) = Some (expression e p (commas c) ∷ vs)
enclose commas vs = None

abbrev pub element_of : List Value → Option (List Value)
element_of (expression i q d ∷ expression a p c ∷ vs) = Some (element a i p ∷ vs)
element_of vs = None

abbrev pub fetch_of : ℕ → List Value → Option Making
fetch_of n (element a i p ∷ vs) = with_node n p (fetch a i) absent vs
fetch_of n vs = None

abbrev pub store_of : ℕ → List Value → Option Making
store_of n (expression e q c ∷ element a i p ∷ vs) = with_node n p (store a i e) absent vs
store_of n vs = None

abbrev pub operand_made : OperandAction → Lexeme → ℕ → List Value → Option Making
operand_made Literal l n vs = by_number l.content (λ v. literal n v vs l.place)
operand_made NegativeLiteral l n vs = by_number l.content (λ v. negative_literal n v vs)
operand_made Truth l n vs = with_node n l.place (flag true) absent vs
operand_made Untruth l n vs = with_node n l.place (flag false) absent vs
operand_made UseOf l n vs = by_name l.content (λ x. with_node n l.place (use_of x) absent vs)
operand_made QualifiedOf l n vs = by_name l.content (λ x. of_name (λ m. qualified m x) n vs)
operand_made ConstantOf l n vs = of_name (λ c. build c Apart (trees_of [])) n vs
operand_made BuildOf l n vs = build_one n vs
operand_made UnitHere l n vs = at_mark unit n vs
operand_made Enclosed l n vs = with_values n (enclose in_parentheses vs)
operand_made BlockOf l n vs = with_values n (enclose (λ c. absent) vs)
operand_made ElementOf l n vs = with_values n (element_of vs)
operand_made FetchOf l n vs = fetch_of n vs
operand_made StoreOf l n vs = store_of n vs
operand_made CallOf l n vs = of_two call n vs
operand_made NegateOf l n vs = of_one negated n vs
operand_made ConsOf l n vs = of_two (λ a b. build cons_name Apart (trees_of (a ∷ b ∷ []))) n vs
operand_made AndOf l n vs = of_two and_of n vs
operand_made OrOf l n vs = of_two or_of n vs
operand_made (ArithOf o) l n vs = of_two (arithmetic o) n vs
operand_made (CompareOf o) l n vs = of_two (compare o) n vs

-- the function of a parameter and a body: it stands at the parameter, or at the kept place of `fun`
abbrev pub function_of : ℕ → List Value → Option Making
function_of n (expression b q c ∷ pattern_read p ∷ vs) = with_node n (place_of_pattern p) (fun p b) absent vs
function_of n vs = None

abbrev pub function_here : ℕ → List Value → Option Making
function_here n (expression b q c ∷ pattern_read p ∷ mark m ∷ vs) = with_node n m (fun p b) absent vs
function_here n vs = None

-- the same for a function that has a name, which takes a number as a node does
abbrev pub with_recursive : ℕ → ℕ → Place → Pattern → Tree → List Value → Option Making
with_recursive n f place p b vs =
    Some (record { made = suc n; values = recursive f (record { id = n; place = place; parameter = p; body = b }) ∷ vs })

abbrev pub recursive_of : ℕ → List Value → Option Making
recursive_of n (expression b q c ∷ pattern_read p ∷ named f o ∷ vs) = with_recursive n f (place_of_pattern p) p b vs
recursive_of n vs = None

abbrev pub recursive_here : ℕ → List Value → Option Making
recursive_here n (expression b q c ∷ pattern_read p ∷ mark m ∷ named f o ∷ vs) = with_recursive n f m p b vs
recursive_here n vs = None

-- a `let` with a tuple on its left is a match with one arm
abbrev pub let_form : Pattern → Tree → Tree → Form
let_form (pattern p (tuple_of ps)) e b = match_on e (cases_of ((record { pattern = pattern p (tuple_of ps); body = b }) ∷ []))
let_form p e b = let_in p e b

abbrev pub let_of_all : ℕ → List Value → Option Making
let_of_all n (expression b r d ∷ expression e q c ∷ pattern_read p ∷ mark m ∷ vs) = with_node n m (let_form p e b) absent vs
let_of_all n vs = None

abbrev pub let_rec_of_all : ℕ → List Value → Option Making
let_rec_of_all n (expression b q c ∷ recursive f r ∷ mark m ∷ vs) = with_node n m (let_rec f r.id r.place r.parameter r.body b) absent vs
let_rec_of_all n vs = None

abbrev pub append_arm : List Value → Option (List Value)
append_arm (expression b q c ∷ pattern_read p ∷ arms as_ ∷ vs) = Some (arms (as_ ++ (record { pattern = p; body = b }) ∷ []) ∷ vs)
append_arm vs = None

abbrev pub match_of : ℕ → List Value → Option Making
match_of n (arms as_ ∷ expression e q c ∷ mark m ∷ vs) = with_node n m (match_on e (cases_of as_)) absent vs
match_of n vs = None

abbrev pub if_of : ℕ → List Value → Option Making
if_of n (expression b r d ∷ expression a q c ∷ expression e p o ∷ mark m ∷ vs) = with_node n m (if_else e a b) absent vs
if_of n vs = None

-- without an `else` there is `()`, a node of its own at the place of the `if`
abbrev pub if_only : ℕ → List Value → Option Making
if_only n (expression a q c ∷ expression e p o ∷ mark m ∷ vs) = with_node (suc n) m (if_else e a (tree n m unit)) absent vs
if_only n vs = None

-- `assert false`, also in parentheses, is a form of its own
abbrev pub assert_form : Tree → Form
assert_form (tree n p (flag false)) = assert_false
assert_form e = assert e

-- a row of two
abbrev pub two_trees : List Value → Option (List Value)
two_trees (expression b q d ∷ expression a p c ∷ vs) = Some (expressions (a ∷ b ∷ []) p ∷ vs)
two_trees vs = None

abbrev pub append_tree : List Value → Option (List Value)
append_tree (expression b q c ∷ expressions es p ∷ vs) = Some (expressions (es ++ b ∷ []) p ∷ vs)
append_tree vs = None

abbrev pub block_made : BlockAction → Lexeme → ℕ → List Value → Option Making
block_made Function l n vs = function_of n vs
block_made FunctionHere l n vs = function_here n vs
block_made RecursiveFunction l n vs = recursive_of n vs
block_made RecursiveHere l n vs = recursive_here n vs
block_made LetIn l n vs = let_of_all n vs
block_made LetRecIn l n vs = let_rec_of_all n vs
block_made NoArms l n vs = with_values n (Some (arms [] ∷ vs))
block_made AppendArm l n vs = with_values n (append_arm vs)
block_made MatchOf l n vs = match_of n vs
block_made IfElse l n vs = if_of n vs
block_made IfOnly l n vs = if_only n vs
block_made AssertOf l n vs = of_one assert_form n vs
block_made NotOf l n vs = of_one not_of n vs
block_made ChainOf l n vs = of_row (λ es. chain (trees_of es)) absent n vs
block_made TupleOf l n vs = of_row (λ es. tuple (trees_of es)) bare n vs
block_made ListLiteral l n vs = of_row (λ es. list_of (trees_of es)) absent n vs
block_made NoTrees l n vs = with_values n (Some (expressions [] l.place ∷ vs))
block_made TwoTrees l n vs = with_values n (two_trees vs)
block_made AppendTree l n vs = with_values n (append_tree vs)
