-- Each step makes at most one item.
use Rattle.std.specs.Prelude.{nat_lt}
use Rattle.std.proofs.Common.{◌≡◌, ℕ, suc, ◌+◌, ◌≤◌, Bool, true, false, if◌then◌else◌, List, [], ◌∷◌, ◌++◌, length, Option, Some, None, subst, arith}
use Rattle.std.proofs.lemmas.List.{length-append}
use Rattle.lq_base_names.specs.declared.limits.TheConstants.{LITERAL_LIMIT}
use Rattle.lq_base_names.specs.declared.place.Place.{Place}
use Rattle.lq_text_tree.specs.Items as tree
use Rattle.lq_text_tree.specs.Items.{ItemTree, type_of, let_of, let_rec_of}
use Rattle.lq_text_tree.specs.PredTree as pred
use Rattle.lq_text_tree.specs.PredTree.{PredTree, PredForm}
use Rattle.lq_text_tree.specs.Tree.{Tree, Form, unit, qualified, tuple, build, list_of, call, arithmetic, negated, compare, not_of, and_of, or_of, chain}
use Rattle.lq_text_tree.specs.TreeView.{trees_of}
use Rattle.lq_text_tree.specs.declared.expr.Arguments.TheVariants.{Apart}
use Rattle.lq_text_grammar.specs.declared.symbol.Action.{Action}
use Rattle.lq_text_grammar.specs.declared.symbol.Action.TheVariants.{Mark, Named, Item, Typing, Pattern, Block, Operand, Pred, Entry}
use Rattle.lq_text_grammar.specs.declared.symbol.Event.{Event}
use Rattle.lq_text_grammar.specs.declared.symbol.Event.TheVariants.{Take, Make}
use Rattle.lq_text_grammar.specs.declared.symbol.TypingAction.{TypingAction}
use Rattle.lq_text_grammar.specs.declared.symbol.TypingAction.TheVariants.{NoTypes, TwoTypes, AppendType, VariableType, NamedType, ApplyType, ApplyTypes, ProductType, ArrowType, TypeInside}
use Rattle.lq_text_grammar.specs.declared.symbol.PatternAction.{PatternAction}
use Rattle.lq_text_grammar.specs.declared.symbol.PatternAction.TheVariants.{Bind, Any, UnitPattern, NilPattern, ConsPattern, NoPatterns, TwoPatterns, AppendPattern, TuplePattern, TupleHere, BuildPattern, PatternInside}
use Rattle.lq_text_grammar.specs.declared.symbol.OperandAction.{OperandAction}
use Rattle.lq_text_grammar.specs.declared.symbol.OperandAction.TheVariants.{Literal, NegativeLiteral, Truth, Untruth, UseOf, QualifiedOf, ConstantOf, BuildOf, UnitHere, Enclosed, BlockOf, ElementOf, FetchOf, StoreOf, CallOf, NegateOf, ConsOf, AndOf, OrOf, ArithOf, CompareOf}
use Rattle.lq_text_grammar.specs.declared.symbol.BlockAction.{BlockAction}
use Rattle.lq_text_grammar.specs.declared.symbol.BlockAction.TheVariants.{Function, FunctionHere, Recursive as RecursiveFunction, RecursiveHere, LetIn, LetRecIn, NoArms, AppendArm, MatchOf, IfElse, IfOnly, AssertOf, NotOf, ChainOf, TupleOf, ListLiteral, NoTrees, TwoTrees, AppendTree}
use Rattle.lq_text_grammar.specs.declared.symbol.ItemAction.{ItemAction}
use Rattle.lq_text_grammar.specs.declared.symbol.ItemAction.TheVariants.{NoItems, AddLet, AddRec, AddType, NoParameters, FirstParameter, AddParameter, NoConstructors, AddConstructor}
use Rattle.lq_text_grammar.specs.declared.symbol.EntryAction.{EntryAction}
use Rattle.lq_text_grammar.specs.declared.symbol.EntryAction.TheVariants.{NoQualifiers, AddQualifier, NoMeasures, AddMeasure, NoEquations, AppendEquation}
use Rattle.lq_text_grammar.specs.declared.symbol.PredAction.{PredAction}
use Rattle.lq_text_grammar.specs.declared.symbol.PredAction.TheVariants.{PredLiteral, PredNegative, PredTruth, PredUntruth, PredUse, PredPlaceholder, PredApply, PredQualified, PredNegate, PredNot, PredAnd, PredOr, IffOf, PredInside, PredArith, PredCompare}
use Rattle.lq_text_actions.specs.Value.{Lexeme, by_name, Commas, bare, absent, Value, mark, named, expression, expressions, element, arms, recursive, pattern_read, patterns, type_read, types, parameters, constructors, items, predicate, qualifiers, equations, measures, Making, with_values}
use Rattle.lq_text_actions.specs.Types.{two_types, append_type, apply_type, apply_types, product_type, arrow_type, type_inside, typing_made}
use Rattle.lq_text_actions.specs.Patterns.{cons_name, unit_pattern, nil_pattern, cons_pattern, two_patterns, append_pattern, tuple_pattern, tuple_here, build_pattern, pattern_inside, pattern_made}
use Rattle.lq_text_actions.specs.Expressions.{literal, negative_literal, in_parentheses, assert_form, of_name, at_mark, of_one, of_two, of_row, build_one, enclose, element_of, fetch_of, store_of, function_of, function_here, recursive_of, recursive_here, let_of_all, let_rec_of_all, append_arm, match_of, if_of, if_only, two_trees, append_tree, operand_made, block_made}
use Rattle.lq_text_actions.specs.Items.{parameter_at, add_let, add_rec, add_type, add_parameter, add_constructor, add_qualifier, append_equation, add_measure, item_made, entry_made}
use Rattle.lq_text_actions.specs.Predicates.{pred_literal, pred_negative, pred_of_name, pred_apply, pred_qualified, pred_of_one, pred_of_two, pred_inside, pred_made}
use Rattle.lq_text_actions.specs.Made.{made}
use Rattle.lq_text_actions.specs.Trees.{and_then, run}
use Rattle.lq_text_actions.proofs.Contents.{any_name, any_number}

-- how many items are among the values
abbrev pub counted : List Value → ℕ
counted [] = 0
counted (items is ∷ vs) = length is + counted vs
counted (_ ∷ vs) = counted vs

abbrev Few : List Value → Option (List Value) → Type 0
Few vs None = Unit {0}
Few vs (Some ws) = counted ws ≤ counted vs + 1

abbrev FewMade : List Value → Option Making → Type 0
FewMade vs None = Unit {0}
FewMade vs (Some m) = counted m.values ≤ counted vs + 1

few_values : (n : ℕ) (vs : List Value) (o : Option (List Value)) → Few vs o → FewMade vs (with_values n o)
few_values n vs None few = tt
few_values n vs (Some ws) few = few

few_if : (b : Bool) (vs : List Value) (o : Option (List Value)) → Few vs o → Few vs (if b then o else None)
few_if true vs o few = few
few_if false vs o few = tt

few_unless : (b : Bool) (vs : List Value) (o : Option (List Value)) → Few vs o → Few vs (if b then None else o)
few_unless true vs o few = tt
few_unless false vs o few = few

few_made_if : (b : Bool) (vs : List Value) (o : Option Making) → FewMade vs o → FewMade vs (if b then o else None)
few_made_if true vs o few = few
few_made_if false vs o few = tt

few_made_unless : (b : Bool) (vs : List Value) (o : Option Making) → FewMade vs o → FewMade vs (if b then None else o)
few_made_unless true vs o few = tt
few_made_unless false vs o few = few

one_item_more : (is : List ItemTree) (i : ItemTree) (vs : List Value) → counted (items (is ++ i ∷ []) ∷ vs) ≤ counted (items is ∷ vs) + 1
one_item_more is i vs = let more = length-append is (i ∷ []) in omega arith

few_literal : (n v : ℕ) (vs : List Value) (p : Place) → FewMade vs (literal n v vs p)
few_literal n v vs p = few_made_if (nat_lt v LITERAL_LIMIT) vs _ (omega arith)

few_negative_literal : (n v : ℕ) (vs : List Value) → FewMade vs (negative_literal n v vs)
few_negative_literal n v (mark p ∷ vs) = few_made_unless (nat_lt LITERAL_LIMIT v) (mark p ∷ vs) _ (omega arith)
few_negative_literal n v _ = tt

few_pred_literal : (v : ℕ) (place : Place) (vs : List Value) → Few vs (pred_literal v place vs)
few_pred_literal v place vs = few_if (nat_lt v LITERAL_LIMIT) vs _ (omega arith)

few_pred_negative : (v : ℕ) (vs : List Value) → Few vs (pred_negative v vs)
few_pred_negative v (mark p ∷ vs) = few_unless (nat_lt LITERAL_LIMIT v) (mark p ∷ vs) _ (omega arith)
few_pred_negative v _ = tt

few_two_types : (vs : List Value) → Few vs (two_types vs)
few_two_types (type_read b q ∷ type_read a p ∷ vs) = omega arith
few_two_types _ = tt

few_append_type : (vs : List Value) → Few vs (append_type vs)
few_append_type (type_read b q ∷ types ts p ∷ vs) = omega arith
few_append_type _ = tt

few_apply_type : (x : ℕ) (place : Place) (vs : List Value) → Few vs (apply_type x place vs)
few_apply_type x place (type_read a p ∷ vs) = omega arith
few_apply_type x place _ = tt

few_apply_types : (x : ℕ) (place : Place) (vs : List Value) → Few vs (apply_types x place vs)
few_apply_types x place (types ts q ∷ mark p ∷ vs) = omega arith
few_apply_types x place _ = tt

few_product_type : (vs : List Value) → Few vs (product_type vs)
few_product_type (types ts p ∷ vs) = omega arith
few_product_type _ = tt

few_arrow_type : (vs : List Value) → Few vs (arrow_type vs)
few_arrow_type (type_read b q ∷ type_read a p ∷ vs) = omega arith
few_arrow_type _ = tt

few_type_inside : (vs : List Value) → Few vs (type_inside vs)
few_type_inside (type_read a q ∷ mark p ∷ vs) = omega arith
few_type_inside _ = tt

few_unit_pattern : (vs : List Value) → Few vs (unit_pattern vs)
few_unit_pattern (mark p ∷ vs) = omega arith
few_unit_pattern _ = tt

few_nil_pattern : (vs : List Value) → Few vs (nil_pattern vs)
few_nil_pattern (mark p ∷ vs) = omega arith
few_nil_pattern _ = tt

few_cons_pattern : (vs : List Value) → Few vs (cons_pattern vs)
few_cons_pattern (pattern_read b ∷ mark p ∷ pattern_read a ∷ vs) = omega arith
few_cons_pattern _ = tt

few_two_patterns : (vs : List Value) → Few vs (two_patterns vs)
few_two_patterns (pattern_read b ∷ pattern_read a ∷ vs) = omega arith
few_two_patterns _ = tt

few_append_pattern : (vs : List Value) → Few vs (append_pattern vs)
few_append_pattern (pattern_read b ∷ patterns ps p ∷ vs) = omega arith
few_append_pattern _ = tt

few_tuple_pattern : (vs : List Value) → Few vs (tuple_pattern vs)
few_tuple_pattern (patterns ps p ∷ vs) = omega arith
few_tuple_pattern _ = tt

few_tuple_here : (vs : List Value) → Few vs (tuple_here vs)
few_tuple_here (patterns ps q ∷ mark p ∷ vs) = omega arith
few_tuple_here _ = tt

few_build_pattern : (vs : List Value) → Few vs (build_pattern vs)
few_build_pattern (patterns ps q ∷ named c p ∷ vs) = omega arith
few_build_pattern _ = tt

few_pattern_inside : (vs : List Value) → Few vs (pattern_inside vs)
few_pattern_inside (pattern_read a ∷ mark p ∷ vs) = omega arith
few_pattern_inside _ = tt

few_of_name : (form : ℕ → Form) (n : ℕ) (vs : List Value) → FewMade vs (of_name form n vs)
few_of_name form n (named x p ∷ vs) = omega arith
few_of_name form n _ = tt

few_at_mark : (form : Form) (n : ℕ) (vs : List Value) → FewMade vs (at_mark form n vs)
few_at_mark form n (mark p ∷ vs) = omega arith
few_at_mark form n _ = tt

few_of_one : (form : Tree → Form) (n : ℕ) (vs : List Value) → FewMade vs (of_one form n vs)
few_of_one form n (expression e q c ∷ mark p ∷ vs) = omega arith
few_of_one form n _ = tt

few_of_two : (form : Tree → Tree → Form) (n : ℕ) (vs : List Value) → FewMade vs (of_two form n vs)
few_of_two form n (expression b q d ∷ expression a p c ∷ vs) = omega arith
few_of_two form n _ = tt

few_of_row : (form : List Tree → Form) (commas : Commas) (n : ℕ) (vs : List Value) → FewMade vs (of_row form commas n vs)
few_of_row form commas n (expressions es p ∷ vs) = omega arith
few_of_row form commas n _ = tt

few_build_one : (n : ℕ) (vs : List Value) → FewMade vs (build_one n vs)
few_build_one n (expression e q c ∷ named x p ∷ vs) = omega arith
few_build_one n _ = tt

few_enclose : (commas : Commas → Commas) (vs : List Value) → Few vs (enclose commas vs)
few_enclose commas (expression e q c ∷ mark p ∷ vs) = omega arith
few_enclose commas _ = tt

few_element_of : (vs : List Value) → Few vs (element_of vs)
few_element_of (expression i q d ∷ expression a p c ∷ vs) = omega arith
few_element_of _ = tt

few_fetch_of : (n : ℕ) (vs : List Value) → FewMade vs (fetch_of n vs)
few_fetch_of n (element a i p ∷ vs) = omega arith
few_fetch_of n _ = tt

few_store_of : (n : ℕ) (vs : List Value) → FewMade vs (store_of n vs)
few_store_of n (expression e q c ∷ element a i p ∷ vs) = omega arith
few_store_of n _ = tt

few_function_of : (n : ℕ) (vs : List Value) → FewMade vs (function_of n vs)
few_function_of n (expression b q c ∷ pattern_read p ∷ vs) = omega arith
few_function_of n _ = tt

few_function_here : (n : ℕ) (vs : List Value) → FewMade vs (function_here n vs)
few_function_here n (expression b q c ∷ pattern_read p ∷ mark m ∷ vs) = omega arith
few_function_here n _ = tt

few_recursive_of : (n : ℕ) (vs : List Value) → FewMade vs (recursive_of n vs)
few_recursive_of n (expression b q c ∷ pattern_read p ∷ named f o ∷ vs) = omega arith
few_recursive_of n _ = tt

few_recursive_here : (n : ℕ) (vs : List Value) → FewMade vs (recursive_here n vs)
few_recursive_here n (expression b q c ∷ pattern_read p ∷ mark m ∷ named f o ∷ vs) = omega arith
few_recursive_here n _ = tt

few_let_of_all : (n : ℕ) (vs : List Value) → FewMade vs (let_of_all n vs)
few_let_of_all n (expression b r d ∷ expression e q c ∷ pattern_read p ∷ mark m ∷ vs) = omega arith
few_let_of_all n _ = tt

few_let_rec_of_all : (n : ℕ) (vs : List Value) → FewMade vs (let_rec_of_all n vs)
few_let_rec_of_all n (expression b q c ∷ recursive f r ∷ mark m ∷ vs) = omega arith
few_let_rec_of_all n _ = tt

few_append_arm : (vs : List Value) → Few vs (append_arm vs)
few_append_arm (expression b q c ∷ pattern_read p ∷ arms as_ ∷ vs) = omega arith
few_append_arm _ = tt

few_match_of : (n : ℕ) (vs : List Value) → FewMade vs (match_of n vs)
few_match_of n (arms as_ ∷ expression e q c ∷ mark m ∷ vs) = omega arith
few_match_of n _ = tt

few_if_of : (n : ℕ) (vs : List Value) → FewMade vs (if_of n vs)
few_if_of n (expression b r d ∷ expression a q c ∷ expression e p o ∷ mark m ∷ vs) = omega arith
few_if_of n _ = tt

few_if_only : (n : ℕ) (vs : List Value) → FewMade vs (if_only n vs)
few_if_only n (expression a q c ∷ expression e p o ∷ mark m ∷ vs) = omega arith
few_if_only n _ = tt

few_two_trees : (vs : List Value) → Few vs (two_trees vs)
few_two_trees (expression b q d ∷ expression a p c ∷ vs) = omega arith
few_two_trees _ = tt

few_append_tree : (vs : List Value) → Few vs (append_tree vs)
few_append_tree (expression b q c ∷ expressions es p ∷ vs) = omega arith
few_append_tree _ = tt

few_add_parameter : (p : tree.Named) (vs : List Value) → Few vs (add_parameter p vs)
few_add_parameter p (parameters ps ∷ vs) = omega arith
few_add_parameter p _ = tt

few_add_constructor : (vs : List Value) → Few vs (add_constructor vs)
few_add_constructor (types ts q ∷ named c p ∷ constructors cs ∷ vs) = omega arith
few_add_constructor _ = tt

few_add_qualifier : (vs : List Value) → Few vs (add_qualifier vs)
few_add_qualifier (predicate e q ∷ named s t ∷ named v u ∷ named x p ∷ mark m ∷ qualifiers qs ∷ vs) = omega arith
few_add_qualifier _ = tt

few_append_equation : (vs : List Value) → Few vs (append_equation vs)
few_append_equation (predicate e q ∷ pattern_read p ∷ equations es ∷ vs) = omega arith
few_append_equation _ = tt

few_add_measure : (vs : List Value) → Few vs (add_measure vs)
few_add_measure (equations es ∷ named d q ∷ named m p ∷ measures ms ∷ vs) = omega arith
few_add_measure _ = tt

few_pred_of_name : (form : ℕ → PredForm) (vs : List Value) → Few vs (pred_of_name form vs)
few_pred_of_name form (named x p ∷ vs) = omega arith
few_pred_of_name form _ = tt

few_pred_apply : (vs : List Value) → Few vs (pred_apply vs)
few_pred_apply (predicate e q ∷ named f p ∷ vs) = omega arith
few_pred_apply _ = tt

few_pred_qualified : (vs : List Value) → Few vs (pred_qualified vs)
few_pred_qualified (predicate e q ∷ named f o ∷ named m p ∷ vs) = omega arith
few_pred_qualified _ = tt

few_pred_of_one : (form : PredTree → PredForm) (vs : List Value) → Few vs (pred_of_one form vs)
few_pred_of_one form (predicate e q ∷ mark p ∷ vs) = omega arith
few_pred_of_one form _ = tt

few_pred_of_two : (form : PredTree → PredTree → PredForm) (vs : List Value) → Few vs (pred_of_two form vs)
few_pred_of_two form (predicate b q ∷ predicate a p ∷ vs) = omega arith
few_pred_of_two form _ = tt

few_pred_inside : (vs : List Value) → Few vs (pred_inside vs)
few_pred_inside (predicate e q ∷ mark p ∷ vs) = omega arith
few_pred_inside _ = tt

few_add_let : (vs : List Value) → Few vs (add_let vs)
few_add_let (expression e q c ∷ pattern_read p ∷ mark m ∷ items is ∷ vs) = one_item_more is (record { place = m; form = let_of p e }) vs
few_add_let _ = tt

few_add_rec : (vs : List Value) → Few vs (add_rec vs)
few_add_rec (recursive f r ∷ mark m ∷ items is ∷ vs) = one_item_more is (record { place = m; form = let_rec_of f r }) vs
few_add_rec _ = tt

few_add_type : (vs : List Value) → Few vs (add_type vs)
few_add_type (constructors cs ∷ named x p ∷ parameters ps ∷ mark m ∷ items is ∷ vs) = one_item_more is (record { place = m; form = type_of (record { name = x; place = p; parameters = ps; constructors = cs }) }) vs
few_add_type _ = tt

few_typing_made : (a : TypingAction) (l : Lexeme) (vs : List Value) → Few vs (typing_made a l vs)
few_typing_made NoTypes l vs = omega arith
few_typing_made TwoTypes l vs = few_two_types vs
few_typing_made AppendType l vs = few_append_type vs
few_typing_made VariableType l vs = any_name (Few vs) l.content _ tt (λ x. omega arith)
few_typing_made NamedType l vs = any_name (Few vs) l.content _ tt (λ x. omega arith)
few_typing_made ApplyType l vs = any_name (Few vs) l.content _ tt (λ x. few_apply_type x l.place vs)
few_typing_made ApplyTypes l vs = any_name (Few vs) l.content _ tt (λ x. few_apply_types x l.place vs)
few_typing_made ProductType l vs = few_product_type vs
few_typing_made ArrowType l vs = few_arrow_type vs
few_typing_made TypeInside l vs = few_type_inside vs

few_pattern_made : (a : PatternAction) (l : Lexeme) (vs : List Value) → Few vs (pattern_made a l vs)
few_pattern_made Bind l vs = any_name (Few vs) l.content _ tt (λ x. omega arith)
few_pattern_made Any l vs = omega arith
few_pattern_made UnitPattern l vs = few_unit_pattern vs
few_pattern_made NilPattern l vs = few_nil_pattern vs
few_pattern_made ConsPattern l vs = few_cons_pattern vs
few_pattern_made NoPatterns l vs = omega arith
few_pattern_made TwoPatterns l vs = few_two_patterns vs
few_pattern_made AppendPattern l vs = few_append_pattern vs
few_pattern_made TuplePattern l vs = few_tuple_pattern vs
few_pattern_made TupleHere l vs = few_tuple_here vs
few_pattern_made BuildPattern l vs = few_build_pattern vs
few_pattern_made PatternInside l vs = few_pattern_inside vs

few_operand_made : (a : OperandAction) (l : Lexeme) (n : ℕ) (vs : List Value) → FewMade vs (operand_made a l n vs)
few_operand_made Literal l n vs = any_number (FewMade vs) l.content _ tt (λ v. few_literal n v vs l.place)
few_operand_made NegativeLiteral l n vs = any_number (FewMade vs) l.content _ tt (λ v. few_negative_literal n v vs)
few_operand_made Truth l n vs = omega arith
few_operand_made Untruth l n vs = omega arith
few_operand_made UseOf l n vs = any_name (FewMade vs) l.content _ tt (λ x. omega arith)
few_operand_made QualifiedOf l n vs = any_name (FewMade vs) l.content _ tt (λ x. few_of_name (λ m. qualified m x) n vs)
few_operand_made ConstantOf l n vs = few_of_name (λ c. build c Apart (trees_of [])) n vs
few_operand_made BuildOf l n vs = few_build_one n vs
few_operand_made UnitHere l n vs = few_at_mark unit n vs
few_operand_made Enclosed l n vs = few_values n vs (enclose in_parentheses vs) (few_enclose in_parentheses vs)
few_operand_made BlockOf l n vs = few_values n vs (enclose (λ c. absent) vs) (few_enclose (λ c. absent) vs)
few_operand_made ElementOf l n vs = few_values n vs (element_of vs) (few_element_of vs)
few_operand_made FetchOf l n vs = few_fetch_of n vs
few_operand_made StoreOf l n vs = few_store_of n vs
few_operand_made CallOf l n vs = few_of_two call n vs
few_operand_made NegateOf l n vs = few_of_one negated n vs
few_operand_made ConsOf l n vs = few_of_two (λ a b. build cons_name Apart (trees_of (a ∷ b ∷ []))) n vs
few_operand_made AndOf l n vs = few_of_two and_of n vs
few_operand_made OrOf l n vs = few_of_two or_of n vs
few_operand_made (ArithOf o) l n vs = few_of_two (arithmetic o) n vs
few_operand_made (CompareOf o) l n vs = few_of_two (compare o) n vs

few_block_made : (a : BlockAction) (l : Lexeme) (n : ℕ) (vs : List Value) → FewMade vs (block_made a l n vs)
few_block_made Function l n vs = few_function_of n vs
few_block_made FunctionHere l n vs = few_function_here n vs
few_block_made RecursiveFunction l n vs = few_recursive_of n vs
few_block_made RecursiveHere l n vs = few_recursive_here n vs
few_block_made LetIn l n vs = few_let_of_all n vs
few_block_made LetRecIn l n vs = few_let_rec_of_all n vs
few_block_made NoArms l n vs = few_values n vs (Some (arms [] ∷ vs)) (omega arith)
few_block_made AppendArm l n vs = few_values n vs (append_arm vs) (few_append_arm vs)
few_block_made MatchOf l n vs = few_match_of n vs
few_block_made IfElse l n vs = few_if_of n vs
few_block_made IfOnly l n vs = few_if_only n vs
few_block_made AssertOf l n vs = few_of_one assert_form n vs
few_block_made NotOf l n vs = few_of_one not_of n vs
few_block_made ChainOf l n vs = few_of_row (λ es. chain (trees_of es)) absent n vs
few_block_made TupleOf l n vs = few_of_row (λ es. tuple (trees_of es)) bare n vs
few_block_made ListLiteral l n vs = few_of_row (λ es. list_of (trees_of es)) absent n vs
few_block_made NoTrees l n vs = few_values n vs (Some (expressions [] l.place ∷ vs)) (omega arith)
few_block_made TwoTrees l n vs = few_values n vs (two_trees vs) (few_two_trees vs)
few_block_made AppendTree l n vs = few_values n vs (append_tree vs) (few_append_tree vs)

few_item_made : (a : ItemAction) (l : Lexeme) (vs : List Value) → Few vs (item_made a l vs)
few_item_made NoItems l vs = omega arith
few_item_made AddLet l vs = few_add_let vs
few_item_made AddRec l vs = few_add_rec vs
few_item_made AddType l vs = few_add_type vs
few_item_made NoParameters l vs = omega arith
few_item_made FirstParameter l vs = any_name (Few vs) l.content _ tt (λ x. omega arith)
few_item_made AddParameter l vs = any_name (Few vs) l.content _ tt (λ x. few_add_parameter (parameter_at l.place x) vs)
few_item_made NoConstructors l vs = omega arith
few_item_made AddConstructor l vs = few_add_constructor vs

few_entry_made : (a : EntryAction) (l : Lexeme) (vs : List Value) → Few vs (entry_made a l vs)
few_entry_made NoQualifiers l vs = omega arith
few_entry_made AddQualifier l vs = few_add_qualifier vs
few_entry_made NoMeasures l vs = omega arith
few_entry_made AddMeasure l vs = few_add_measure vs
few_entry_made NoEquations l vs = omega arith
few_entry_made AppendEquation l vs = few_append_equation vs

few_pred_made : (a : PredAction) (l : Lexeme) (vs : List Value) → Few vs (pred_made a l vs)
few_pred_made PredLiteral l vs = any_number (Few vs) l.content _ tt (λ v. few_pred_literal v l.place vs)
few_pred_made PredNegative l vs = any_number (Few vs) l.content _ tt (λ v. few_pred_negative v vs)
few_pred_made PredTruth l vs = omega arith
few_pred_made PredUntruth l vs = omega arith
few_pred_made PredUse l vs = few_pred_of_name pred.use_of vs
few_pred_made PredPlaceholder l vs = few_pred_of_name pred.placeholder vs
few_pred_made PredApply l vs = few_pred_apply vs
few_pred_made PredQualified l vs = few_pred_qualified vs
few_pred_made PredNegate l vs = few_pred_of_one pred.negated vs
few_pred_made PredNot l vs = few_pred_of_one pred.not_of vs
few_pred_made PredAnd l vs = few_pred_of_two pred.and_of vs
few_pred_made PredOr l vs = few_pred_of_two pred.or_of vs
few_pred_made IffOf l vs = few_pred_of_two pred.iff vs
few_pred_made PredInside l vs = few_pred_inside vs
few_pred_made (PredArith o) l vs = few_pred_of_two (pred.arithmetic o) vs
few_pred_made (PredCompare o) l vs = few_pred_of_two (pred.compare o) vs

few_made : (a : Action) (l : Lexeme) (m : Making) → FewMade m.values (made a l m)
few_made Mark l m = omega arith
few_made Named l m = few_values m.made m.values (by_name l.content (λ x. Some (named x l.place ∷ m.values))) (any_name (Few m.values) l.content _ tt (λ x. omega arith))
few_made (Item a) l m = few_values m.made m.values (item_made a l m.values) (few_item_made a l m.values)
few_made (Typing a) l m = few_values m.made m.values (typing_made a l m.values) (few_typing_made a l m.values)
few_made (Pattern a) l m = few_values m.made m.values (pattern_made a l m.values) (few_pattern_made a l m.values)
few_made (Block a) l m = few_block_made a l m.made m.values
few_made (Operand a) l m = few_operand_made a l m.made m.values
few_made (Pred a) l m = few_values m.made m.values (pred_made a l m.values) (few_pred_made a l m.values)
few_made (Entry a) l m = few_values m.made m.values (entry_made a l m.values) (few_entry_made a l m.values)

-- where a run ends, it has made at most one item a step
abbrev FewRun : ℕ → List Value → Option Making → Type 0
FewRun k vs None = Unit {0}
FewRun k vs (Some m) = counted m.values ≤ counted vs + k

few_then : (k : ℕ) (vs : List Value) (o : Option Making) (f : Making → Option Making) → FewMade vs o → ((m : Making) → FewRun k m.values (f m)) → FewRun (suc k) vs (and_then o f)
few_then k vs None f few rest = tt
few_then k vs (Some m) f few rest = few_more k vs m (f m) few (rest m)
  where
    few_more : (k : ℕ) (vs : List Value) (m : Making) (o : Option Making) → counted m.values ≤ counted vs + 1 → FewRun k m.values o → FewRun (suc k) vs o
    few_more k vs m None few rest = tt
    few_more k vs m (Some n) few rest = omega arith

few_weaker : (k : ℕ) (vs : List Value) (o : Option Making) → FewRun k vs o → FewRun (suc k) vs o
few_weaker k vs None few = tt
few_weaker k vs (Some m) few = omega arith

few_run : (es : List Event) (ls : List Lexeme) (last : Lexeme) (m : Making) → FewRun (length es) m.values (run es ls last m)
few_run [] ls last m = omega arith
few_run (Take ∷ es) [] last m = tt
few_run (Take ∷ es) (l ∷ ls) last m = few_weaker (length es) m.values (run es ls l m) (few_run es ls l m)
few_run (Make a ∷ es) ls last m = few_then (length es) m.values (made a last m) (λ n. run es ls last n) (few_made a last m) (λ n. few_run es ls last n)

run_few : (k : ℕ) (vs : List Value) (o : Option Making) (m : Making) → FewRun k vs o → o ≡ Some m → counted m.values ≤ counted vs + k
run_few k vs o m few is = subst (FewRun k vs) is few

pub few_items : (es : List Event) (ls : List Lexeme) (last : Lexeme) (m : Making) (nodes : ℕ) (is : List ItemTree) → m.values ≡ [] → run es ls last m ≡ Some (record { made = nodes; values = items is ∷ [] }) → length is ≤ length es
few_items es ls last m nodes is none made_them =
    let few = run_few (length es) m.values (run es ls last m) (record { made = nodes; values = items is ∷ [] }) (few_run es ls last m) made_them in
    let zero_values = subst (λ (vs : List Value). length is + 0 ≤ counted vs + length es) none few in
    omega arith
