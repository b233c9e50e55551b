-- What each part and each action takes off the values and puts there.
use Rattle.std.proofs.Common.{Option, Some, None, List, [], ◌∷◌}
use Rattle.lq_text_grammar.specs.declared.rule.Rule.{Rule}
use Rattle.lq_text_grammar.specs.declared.rule.Rule.TheVariants.{InProgram, InType, InBinding, InExpression, InPattern, InEntry, InPred}
use Rattle.lq_text_grammar.specs.declared.rule.ProgramPart.TheVariants.{Items, AfterItem, Item, LetItem, TypeHead, TypeParameters, TypeBody, FirstConstructor, ConstructorsMore, Constructor, ConstructorFields, FieldsMore}
use Rattle.lq_text_grammar.specs.declared.rule.TypePart.TheVariants.{WholeType, ArrowMore, TypeProduct, ProductTail, ProductMore, TypeApplied, TypeNames, TypesInside, TypesMore}
use Rattle.lq_text_grammar.specs.declared.rule.BindingPart.TheVariants.{RecBind, RecFirst, RecRest, RecFun, RecFunRest, LetTail, LetRest, FunTail, FunRest, Parameter, ParameterInside, SimplesInside, Simple}
use Rattle.lq_text_grammar.specs.declared.rule.ExpressionPart.TheVariants.{Seq, SeqTail, SeqSecond, SeqMore, SeqNext, Expression, LetHead, AfterLetName, AfterLetAny, LetTuple, LetInside, FunFirst, FirstArm, ArmsMore, Arm, ElsePart, UpperHead, HeadMore, IndexTail, AfterIndexed, CallRest, OperandRest, TupleTail, TupleMore, Disjunction, OrMore, Conjunction, AndMore, Comparison, CompareMore, ConsChain, ConsMore, Sum, AddMore, Product, MulMore, Negation, AfterMinus, Application, UpperMore, ArgumentsMore, Postfix, PostfixMore, Atom, UpperAtom, PlainAtom, OtherAtom, Inside, ListInside, ListMore}
use Rattle.lq_text_grammar.specs.declared.rule.PatternPart.TheVariants.{Pattern, PatternRest, PatternTuple, PatternInner, PatternArguments, ArgumentsInside}
use Rattle.lq_text_grammar.specs.declared.rule.EntryPart.TheVariants.{QualsMore, QualifierName, QualifierRest, MeasuresMore, FirstEquation, EquationsMore, Equation}
use Rattle.lq_text_grammar.specs.declared.rule.PredPart.TheVariants.{Predicate, IffMore, PredDisjunction, PredOrMore, PredConjunction, PredAndMore, PredNegation, PredCompareMore, Term, TermAddMore, TermProduct, TermMulMore, TermNegation, AfterTermMinus, TermAtom, OtherTermAtom, TermArgument, UpperTerm, QualifiedArgument}
use Rattle.lq_text_grammar.specs.declared.symbol.ItemAction.TheVariants.{NoItems, AddLet, AddRec, AddType, NoParameters, FirstParameter, AddParameter, NoConstructors, AddConstructor}
use Rattle.lq_text_grammar.specs.declared.symbol.TypingAction.TheVariants.{NoTypes, TwoTypes, AppendType, VariableType, NamedType, ApplyType, ApplyTypes, ProductType, ArrowType, TypeInside}
use Rattle.lq_text_grammar.specs.declared.symbol.PatternAction.TheVariants.{Bind, Any, UnitPattern, NilPattern, ConsPattern, NoPatterns, TwoPatterns, AppendPattern, TuplePattern, TupleHere, BuildPattern, PatternInside}
use Rattle.lq_text_grammar.specs.declared.symbol.BlockAction.TheVariants.{Function, FunctionHere, Recursive as RecursiveFunction, RecursiveHere, LetIn, LetRecIn, NoArms, AppendArm, MatchOf, IfElse, IfOnly, AssertOf, NotOf, ChainOf, TupleOf, ListLiteral, NoTrees, TwoTrees, AppendTree}
use Rattle.lq_text_grammar.specs.declared.symbol.OperandAction.TheVariants.{Literal, NegativeLiteral, Truth, Untruth, UseOf, QualifiedOf, ConstantOf, BuildOf, UnitHere, Enclosed, BlockOf, ElementOf, FetchOf, StoreOf, CallOf, NegateOf, ConsOf, AndOf, OrOf, ArithOf, CompareOf}
use Rattle.lq_text_grammar.specs.declared.symbol.PredAction.TheVariants.{PredLiteral, PredNegative, PredTruth, PredUntruth, PredUse, PredPlaceholder, PredApply, PredQualified, PredNegate, PredNot, PredAnd, PredOr, IffOf, PredInside, PredArith, PredCompare}
use Rattle.lq_text_grammar.specs.declared.symbol.EntryAction.TheVariants.{NoQualifiers, AddQualifier, NoMeasures, AddMeasure, NoEquations, AppendEquation}
use Rattle.lq_text_grammar.specs.declared.symbol.Action.TheVariants.{Mark, Named, Item, Typing, Pattern, Block, Operand, Pred, Entry}
use Rattle.lq_text_grammar.specs.declared.symbol.Action.{Action}
use Rattle.lq_text_actions.proofs.Sorts.{Sort, a_mark, a_name, a_tree, some_trees, an_element, some_arms, a_function, a_pattern, some_patterns, a_type, some_types, some_parameters, some_constructors, some_items, a_predicate, some_qualifiers, some_equations, some_measures, beside, below, Need, After, anything, a_token, a_named_token, a_number, a_limit_number, Signature, ActionSignature}

-- a part that gives values of the least level of what it takes
abbrev even : List Sort → List Sort → Option Signature
even ns gs = Some (record { step = beside; needs = ns; gives = gs })

-- one that gives values of a level less, since a level ends behind it
abbrev lower : List Sort → List Sort → Option Signature
lower ns gs = Some (record { step = below; needs = ns; gives = gs })

-- The start of a text is no part of another.
abbrev pub signature : Rule → Option Signature
signature (InProgram Items) = even (some_items ∷ []) (some_items ∷ [])
signature (InProgram AfterItem) = even (some_items ∷ []) (some_items ∷ [])
signature (InProgram Item) = even (some_items ∷ []) (some_items ∷ [])
signature (InProgram LetItem) = even (a_mark ∷ some_items ∷ []) (some_items ∷ [])
signature (InProgram TypeHead) = even (a_mark ∷ some_items ∷ []) (some_items ∷ [])
signature (InProgram TypeParameters) = even (some_parameters ∷ []) (some_parameters ∷ [])
signature (InProgram TypeBody) = even (a_name ∷ some_parameters ∷ a_mark ∷ some_items ∷ []) (some_items ∷ [])
signature (InProgram FirstConstructor) = even (some_constructors ∷ []) (some_constructors ∷ [])
signature (InProgram ConstructorsMore) = even (some_constructors ∷ []) (some_constructors ∷ [])
signature (InProgram Constructor) = even (some_constructors ∷ []) (some_constructors ∷ [])
signature (InProgram ConstructorFields) = even (some_types ∷ []) (some_types ∷ [])
signature (InProgram FieldsMore) = even (some_types ∷ []) (some_types ∷ [])
signature (InType WholeType) = even [] (a_type ∷ [])
signature (InType ArrowMore) = even (a_type ∷ []) (a_type ∷ [])
signature (InType TypeProduct) = even [] (a_type ∷ [])
signature (InType ProductTail) = even (a_type ∷ []) (a_type ∷ [])
signature (InType ProductMore) = even (some_types ∷ []) (some_types ∷ [])
signature (InType TypeApplied) = even [] (a_type ∷ [])
signature (InType TypeNames) = even (a_type ∷ []) (a_type ∷ [])
signature (InType TypesInside) = lower (a_type ∷ a_mark ∷ []) (a_type ∷ [])
signature (InType TypesMore) = lower (some_types ∷ a_mark ∷ []) (a_type ∷ [])
signature (InBinding RecBind) = even [] (a_function ∷ [])
signature (InBinding RecFirst) = even (a_name ∷ []) (a_function ∷ [])
signature (InBinding RecRest) = even (a_pattern ∷ a_name ∷ []) (a_function ∷ [])
signature (InBinding RecFun) = even (a_name ∷ []) (a_function ∷ [])
signature (InBinding RecFunRest) = even (a_pattern ∷ a_mark ∷ a_name ∷ []) (a_function ∷ [])
signature (InBinding LetTail) = even [] (a_tree ∷ [])
signature (InBinding LetRest) = even (a_pattern ∷ []) (a_tree ∷ [])
signature (InBinding FunTail) = even [] (a_tree ∷ [])
signature (InBinding FunRest) = even (a_pattern ∷ []) (a_tree ∷ [])
signature (InBinding Parameter) = even [] (a_pattern ∷ [])
signature (InBinding ParameterInside) = even (a_mark ∷ []) (a_pattern ∷ [])
signature (InBinding SimplesInside) = even (some_patterns ∷ []) (some_patterns ∷ [])
signature (InBinding Simple) = even [] (a_pattern ∷ [])
signature (InExpression Seq) = even [] (a_tree ∷ [])
signature (InExpression SeqTail) = even (a_tree ∷ []) (a_tree ∷ [])
signature (InExpression SeqSecond) = even (a_tree ∷ []) (a_tree ∷ [])
signature (InExpression SeqMore) = even (some_trees ∷ []) (some_trees ∷ [])
signature (InExpression SeqNext) = even (some_trees ∷ []) (some_trees ∷ [])
signature (InExpression Expression) = even [] (a_tree ∷ [])
signature (InExpression LetHead) = lower (a_mark ∷ []) (a_tree ∷ [])
signature (InExpression AfterLetName) = even (a_pattern ∷ []) (a_tree ∷ a_pattern ∷ [])
signature (InExpression AfterLetAny) = even (a_pattern ∷ []) (a_tree ∷ a_pattern ∷ [])
signature (InExpression LetTuple) = even (some_patterns ∷ []) (a_tree ∷ a_pattern ∷ [])
signature (InExpression LetInside) = even (a_mark ∷ []) (a_pattern ∷ [])
signature (InExpression FunFirst) = even (a_pattern ∷ a_mark ∷ []) (a_tree ∷ [])
signature (InExpression FirstArm) = even (some_arms ∷ []) (some_arms ∷ [])
signature (InExpression ArmsMore) = even (some_arms ∷ []) (some_arms ∷ [])
signature (InExpression Arm) = even (some_arms ∷ []) (some_arms ∷ [])
signature (InExpression ElsePart) = lower (a_tree ∷ a_tree ∷ a_mark ∷ []) (a_tree ∷ [])
signature (InExpression UpperHead) = even (a_name ∷ []) (a_tree ∷ [])
signature (InExpression HeadMore) = even (a_tree ∷ []) (a_tree ∷ [])
signature (InExpression IndexTail) = even (an_element ∷ []) (an_element ∷ [])
signature (InExpression AfterIndexed) = even (an_element ∷ []) (a_tree ∷ [])
signature (InExpression CallRest) = even (a_tree ∷ []) (a_tree ∷ [])
signature (InExpression OperandRest) = even (a_tree ∷ []) (a_tree ∷ [])
signature (InExpression TupleTail) = even (a_tree ∷ []) (a_tree ∷ [])
signature (InExpression TupleMore) = even (some_trees ∷ []) (some_trees ∷ [])
signature (InExpression Disjunction) = even [] (a_tree ∷ [])
signature (InExpression OrMore) = even (a_tree ∷ []) (a_tree ∷ [])
signature (InExpression Conjunction) = even [] (a_tree ∷ [])
signature (InExpression AndMore) = even (a_tree ∷ []) (a_tree ∷ [])
signature (InExpression Comparison) = even [] (a_tree ∷ [])
signature (InExpression CompareMore) = even (a_tree ∷ []) (a_tree ∷ [])
signature (InExpression ConsChain) = even [] (a_tree ∷ [])
signature (InExpression ConsMore) = even (a_tree ∷ []) (a_tree ∷ [])
signature (InExpression Sum) = even [] (a_tree ∷ [])
signature (InExpression AddMore) = even (a_tree ∷ []) (a_tree ∷ [])
signature (InExpression Product) = even [] (a_tree ∷ [])
signature (InExpression MulMore) = even (a_tree ∷ []) (a_tree ∷ [])
signature (InExpression Negation) = even [] (a_tree ∷ [])
signature (InExpression AfterMinus) = lower (a_mark ∷ []) (a_tree ∷ [])
signature (InExpression Application) = even [] (a_tree ∷ [])
signature (InExpression UpperMore) = even (a_name ∷ []) (a_tree ∷ [])
signature (InExpression ArgumentsMore) = even (a_tree ∷ []) (a_tree ∷ [])
signature (InExpression Postfix) = even [] (a_tree ∷ [])
signature (InExpression PostfixMore) = even (a_tree ∷ []) (a_tree ∷ [])
signature (InExpression Atom) = even [] (a_tree ∷ [])
signature (InExpression UpperAtom) = even (a_name ∷ []) (a_tree ∷ [])
signature (InExpression PlainAtom) = even [] (a_tree ∷ [])
signature (InExpression OtherAtom) = even [] (a_tree ∷ [])
signature (InExpression Inside) = even (a_mark ∷ []) (a_tree ∷ [])
signature (InExpression ListInside) = even (some_trees ∷ []) (some_trees ∷ [])
signature (InExpression ListMore) = even (some_trees ∷ []) (some_trees ∷ [])
signature (InPattern Pattern) = even [] (a_pattern ∷ [])
signature (InPattern PatternRest) = even (a_pattern ∷ []) (a_pattern ∷ [])
signature (InPattern PatternTuple) = even (some_patterns ∷ []) (a_pattern ∷ [])
signature (InPattern PatternInner) = even (a_mark ∷ []) (a_pattern ∷ [])
signature (InPattern PatternArguments) = even (some_patterns ∷ []) (some_patterns ∷ [])
signature (InPattern ArgumentsInside) = even (some_patterns ∷ []) (some_patterns ∷ [])
signature (InEntry QualsMore) = even (some_qualifiers ∷ []) (some_qualifiers ∷ [])
signature (InEntry QualifierName) = even [] (a_name ∷ [])
signature (InEntry QualifierRest) = even (a_name ∷ a_mark ∷ some_qualifiers ∷ []) (some_qualifiers ∷ [])
signature (InEntry MeasuresMore) = even (some_measures ∷ []) (some_measures ∷ [])
signature (InEntry FirstEquation) = even (some_equations ∷ []) (some_equations ∷ [])
signature (InEntry EquationsMore) = even (some_equations ∷ []) (some_equations ∷ [])
signature (InEntry Equation) = even (some_equations ∷ []) (some_equations ∷ [])
signature (InPred Predicate) = even [] (a_predicate ∷ [])
signature (InPred IffMore) = even (a_predicate ∷ []) (a_predicate ∷ [])
signature (InPred PredDisjunction) = even [] (a_predicate ∷ [])
signature (InPred PredOrMore) = even (a_predicate ∷ []) (a_predicate ∷ [])
signature (InPred PredConjunction) = even [] (a_predicate ∷ [])
signature (InPred PredAndMore) = even (a_predicate ∷ []) (a_predicate ∷ [])
signature (InPred PredNegation) = even [] (a_predicate ∷ [])
signature (InPred PredCompareMore) = even (a_predicate ∷ []) (a_predicate ∷ [])
signature (InPred Term) = even [] (a_predicate ∷ [])
signature (InPred TermAddMore) = even (a_predicate ∷ []) (a_predicate ∷ [])
signature (InPred TermProduct) = even [] (a_predicate ∷ [])
signature (InPred TermMulMore) = even (a_predicate ∷ []) (a_predicate ∷ [])
signature (InPred TermNegation) = even [] (a_predicate ∷ [])
signature (InPred AfterTermMinus) = lower (a_mark ∷ []) (a_predicate ∷ [])
signature (InPred TermAtom) = even [] (a_predicate ∷ [])
signature (InPred OtherTermAtom) = even [] (a_predicate ∷ [])
signature (InPred TermArgument) = even (a_name ∷ []) (a_predicate ∷ [])
signature (InPred UpperTerm) = even (a_name ∷ []) (a_predicate ∷ [])
signature (InPred QualifiedArgument) = even (a_name ∷ a_name ∷ []) (a_predicate ∷ [])
signature _ = None

abbrev pub keeps : Sort → Need
keeps s = record { sort = s; step = beside }

abbrev pub sinks : Sort → Need
sinks s = record { sort = s; step = below }

abbrev leaf : Sort → ActionSignature
leaf s = record { after = a_token; needs = []; gives = s }

abbrev names : List Need → Sort → ActionSignature
names ns s = record { after = a_named_token; needs = ns; gives = s }

abbrev joins : List Need → Sort → ActionSignature
joins ns s = record { after = anything; needs = ns; gives = s }

abbrev literal : After → List Need → Sort → ActionSignature
literal a ns s = record { after = a; needs = ns; gives = s }

abbrev pub action_signature : Action → ActionSignature
action_signature Mark = leaf a_mark
action_signature Named = names [] a_name
action_signature (Item NoItems) = leaf some_items
action_signature (Item AddLet) = joins (keeps a_tree ∷ keeps a_pattern ∷ keeps a_mark ∷ keeps some_items ∷ []) some_items
action_signature (Item AddRec) = joins (keeps a_function ∷ keeps a_mark ∷ keeps some_items ∷ []) some_items
action_signature (Item AddType) = joins (keeps some_constructors ∷ keeps a_name ∷ keeps some_parameters ∷ keeps a_mark ∷ keeps some_items ∷ []) some_items
action_signature (Item NoParameters) = leaf some_parameters
action_signature (Item FirstParameter) = names [] some_parameters
action_signature (Item AddParameter) = names (keeps some_parameters ∷ []) some_parameters
action_signature (Item NoConstructors) = leaf some_constructors
action_signature (Item AddConstructor) = joins (keeps some_types ∷ keeps a_name ∷ keeps some_constructors ∷ []) some_constructors
action_signature (Typing NoTypes) = leaf some_types
action_signature (Typing TwoTypes) = joins (keeps a_type ∷ keeps a_type ∷ []) some_types
action_signature (Typing AppendType) = joins (keeps a_type ∷ keeps some_types ∷ []) some_types
action_signature (Typing VariableType) = names [] a_type
action_signature (Typing NamedType) = names [] a_type
action_signature (Typing ApplyType) = names (keeps a_type ∷ []) a_type
action_signature (Typing ApplyTypes) = names (sinks some_types ∷ keeps a_mark ∷ []) a_type
action_signature (Typing ProductType) = joins (keeps some_types ∷ []) a_type
action_signature (Typing ArrowType) = joins (sinks a_type ∷ keeps a_type ∷ []) a_type
action_signature (Typing TypeInside) = joins (keeps a_type ∷ keeps a_mark ∷ []) a_type
action_signature (Pattern Bind) = names [] a_pattern
action_signature (Pattern Any) = leaf a_pattern
action_signature (Pattern UnitPattern) = joins (keeps a_mark ∷ []) a_pattern
action_signature (Pattern NilPattern) = joins (keeps a_mark ∷ []) a_pattern
action_signature (Pattern ConsPattern) = joins (keeps a_pattern ∷ keeps a_mark ∷ keeps a_pattern ∷ []) a_pattern
action_signature (Pattern NoPatterns) = leaf some_patterns
action_signature (Pattern TwoPatterns) = joins (keeps a_pattern ∷ keeps a_pattern ∷ []) some_patterns
action_signature (Pattern AppendPattern) = joins (keeps a_pattern ∷ keeps some_patterns ∷ []) some_patterns
action_signature (Pattern TuplePattern) = joins (keeps some_patterns ∷ []) a_pattern
action_signature (Pattern TupleHere) = joins (keeps some_patterns ∷ keeps a_mark ∷ []) a_pattern
action_signature (Pattern BuildPattern) = joins (keeps some_patterns ∷ keeps a_name ∷ []) a_pattern
action_signature (Pattern PatternInside) = joins (keeps a_pattern ∷ keeps a_mark ∷ []) a_pattern
action_signature (Block Function) = joins (sinks a_tree ∷ keeps a_pattern ∷ []) a_tree
action_signature (Block FunctionHere) = joins (sinks a_tree ∷ keeps a_pattern ∷ keeps a_mark ∷ []) a_tree
action_signature (Block RecursiveFunction) = joins (sinks a_tree ∷ keeps a_pattern ∷ keeps a_name ∷ []) a_function
action_signature (Block RecursiveHere) = joins (sinks a_tree ∷ keeps a_pattern ∷ keeps a_mark ∷ keeps a_name ∷ []) a_function
action_signature (Block LetIn) = joins (sinks a_tree ∷ sinks a_tree ∷ keeps a_pattern ∷ keeps a_mark ∷ []) a_tree
action_signature (Block LetRecIn) = joins (sinks a_tree ∷ sinks a_function ∷ keeps a_mark ∷ []) a_tree
action_signature (Block NoArms) = leaf some_arms
action_signature (Block AppendArm) = joins (keeps a_tree ∷ keeps a_pattern ∷ keeps some_arms ∷ []) some_arms
action_signature (Block MatchOf) = joins (sinks some_arms ∷ sinks a_tree ∷ keeps a_mark ∷ []) a_tree
action_signature (Block IfElse) = joins (sinks a_tree ∷ sinks a_tree ∷ sinks a_tree ∷ keeps a_mark ∷ []) a_tree
action_signature (Block IfOnly) = joins (sinks a_tree ∷ sinks a_tree ∷ sinks a_mark ∷ []) a_tree
action_signature (Block AssertOf) = joins (sinks a_tree ∷ keeps a_mark ∷ []) a_tree
action_signature (Block NotOf) = joins (sinks a_tree ∷ keeps a_mark ∷ []) a_tree
action_signature (Block ChainOf) = joins (keeps some_trees ∷ []) a_tree
action_signature (Block TupleOf) = joins (keeps some_trees ∷ []) a_tree
action_signature (Block ListLiteral) = joins (sinks some_trees ∷ []) a_tree
action_signature (Block NoTrees) = leaf some_trees
action_signature (Block TwoTrees) = joins (keeps a_tree ∷ keeps a_tree ∷ []) some_trees
action_signature (Block AppendTree) = joins (keeps a_tree ∷ keeps some_trees ∷ []) some_trees
action_signature (Operand Literal) = literal a_number [] a_tree
action_signature (Operand NegativeLiteral) = literal a_limit_number (keeps a_mark ∷ []) a_tree
action_signature (Operand Truth) = leaf a_tree
action_signature (Operand Untruth) = leaf a_tree
action_signature (Operand UseOf) = names [] a_tree
action_signature (Operand QualifiedOf) = names (keeps a_name ∷ []) a_tree
action_signature (Operand ConstantOf) = joins (keeps a_name ∷ []) a_tree
action_signature (Operand BuildOf) = joins (keeps a_tree ∷ keeps a_name ∷ []) a_tree
action_signature (Operand UnitHere) = joins (keeps a_mark ∷ []) a_tree
action_signature (Operand Enclosed) = joins (keeps a_tree ∷ keeps a_mark ∷ []) a_tree
action_signature (Operand BlockOf) = joins (keeps a_tree ∷ keeps a_mark ∷ []) a_tree
action_signature (Operand ElementOf) = joins (sinks a_tree ∷ keeps a_tree ∷ []) an_element
action_signature (Operand FetchOf) = joins (keeps an_element ∷ []) a_tree
action_signature (Operand StoreOf) = joins (sinks a_tree ∷ keeps an_element ∷ []) a_tree
action_signature (Operand CallOf) = joins (sinks a_tree ∷ keeps a_tree ∷ []) a_tree
action_signature (Operand NegateOf) = joins (sinks a_tree ∷ keeps a_mark ∷ []) a_tree
action_signature (Operand ConsOf) = joins (sinks a_tree ∷ keeps a_tree ∷ []) a_tree
action_signature (Operand AndOf) = joins (sinks a_tree ∷ keeps a_tree ∷ []) a_tree
action_signature (Operand OrOf) = joins (sinks a_tree ∷ keeps a_tree ∷ []) a_tree
action_signature (Operand (ArithOf o)) = joins (sinks a_tree ∷ keeps a_tree ∷ []) a_tree
action_signature (Operand (CompareOf o)) = joins (sinks a_tree ∷ keeps a_tree ∷ []) a_tree
action_signature (Pred PredLiteral) = literal a_number [] a_predicate
action_signature (Pred PredNegative) = literal a_limit_number (keeps a_mark ∷ []) a_predicate
action_signature (Pred PredTruth) = leaf a_predicate
action_signature (Pred PredUntruth) = leaf a_predicate
action_signature (Pred PredUse) = joins (keeps a_name ∷ []) a_predicate
action_signature (Pred PredPlaceholder) = joins (keeps a_name ∷ []) a_predicate
action_signature (Pred PredApply) = joins (sinks a_predicate ∷ keeps a_name ∷ []) a_predicate
action_signature (Pred PredQualified) = joins (sinks a_predicate ∷ keeps a_name ∷ keeps a_name ∷ []) a_predicate
action_signature (Pred PredNegate) = joins (sinks a_predicate ∷ keeps a_mark ∷ []) a_predicate
action_signature (Pred PredNot) = joins (sinks a_predicate ∷ keeps a_mark ∷ []) a_predicate
action_signature (Pred PredAnd) = joins (sinks a_predicate ∷ keeps a_predicate ∷ []) a_predicate
action_signature (Pred PredOr) = joins (sinks a_predicate ∷ keeps a_predicate ∷ []) a_predicate
action_signature (Pred IffOf) = joins (sinks a_predicate ∷ keeps a_predicate ∷ []) a_predicate
action_signature (Pred PredInside) = joins (keeps a_predicate ∷ keeps a_mark ∷ []) a_predicate
action_signature (Pred (PredArith o)) = joins (sinks a_predicate ∷ keeps a_predicate ∷ []) a_predicate
action_signature (Pred (PredCompare o)) = joins (sinks a_predicate ∷ keeps a_predicate ∷ []) a_predicate
action_signature (Entry NoQualifiers) = leaf some_qualifiers
action_signature (Entry AddQualifier) = joins (keeps a_predicate ∷ keeps a_name ∷ keeps a_name ∷ keeps a_name ∷ keeps a_mark ∷ keeps some_qualifiers ∷ []) some_qualifiers
action_signature (Entry NoMeasures) = leaf some_measures
action_signature (Entry AddMeasure) = joins (keeps some_equations ∷ keeps a_name ∷ keeps a_name ∷ keeps some_measures ∷ []) some_measures
action_signature (Entry NoEquations) = leaf some_equations
action_signature (Entry AppendEquation) = joins (keeps a_predicate ∷ keeps a_pattern ∷ keeps some_equations ∷ []) some_equations
