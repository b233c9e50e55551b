-- What is said of each part follows from its alternatives.
use Rattle.lq_text_grammar.specs.declared.rule.Rule.{Rule}
use Rattle.lq_text_grammar.specs.declared.rule.Rule.TheVariants.{InProgram, InType, InBinding, InExpression, InPattern, InEntry, InPred}
use Rattle.lq_text_grammar.specs.declared.rule.ProgramPart.TheVariants.{Items, Item, LetItem, TypeHead, TypeParameters, TypeBody, FirstConstructor, ConstructorsMore, Constructor, ConstructorFields, FieldsMore}
use Rattle.lq_text_grammar.specs.declared.rule.TypePart.TheVariants.{WholeType, TypeProduct, ProductMore, TypeApplied, TypeNames, TypesMore}
use Rattle.lq_text_grammar.specs.declared.rule.BindingPart.TheVariants.{RecBind, RecFirst, LetTail, LetRest, FunTail, FunRest, Parameter, ParameterInside, SimplesInside, Simple}
use Rattle.lq_text_grammar.specs.declared.rule.ExpressionPart.TheVariants.{Seq, SeqMore, Expression, LetHead, AfterLetName, AfterLetAny, LetTuple, LetInside, FirstArm, ArmsMore, Arm, UpperHead, HeadMore, IndexTail, AfterIndexed, CallRest, OperandRest, TupleTail, TupleMore, Disjunction, OrMore, Conjunction, AndMore, Comparison, CompareMore, ConsChain, ConsMore, Sum, AddMore, Product, MulMore, Negation, AfterMinus, Application, UpperMore, ArgumentsMore, Postfix, PostfixMore, Atom, UpperAtom, PlainAtom, OtherAtom, ListInside}
use Rattle.lq_text_grammar.specs.declared.rule.PatternPart.TheVariants.{Pattern, PatternRest, PatternTuple, PatternArguments, ArgumentsInside}
use Rattle.lq_text_grammar.specs.declared.rule.EntryPart.TheVariants.{QualsMore, QualifierName, QualifierRest, MeasuresMore, FirstEquation, EquationsMore, Equation}
use Rattle.lq_text_grammar.specs.declared.rule.PredPart.TheVariants.{Predicate, IffMore, PredDisjunction, PredOrMore, PredConjunction, PredAndMore, PredNegation, PredCompareMore, Term, TermAddMore, TermProduct, TermMulMore, TermNegation, AfterTermMinus, TermAtom, OtherTermAtom, TermArgument, UpperTerm, QualifiedArgument}
use Rattle.lq_text_parser.proofs.SyntaxLemmas.Doing.{State, Unfolded}
use Rattle.lq_text_parser.proofs.SyntaxLemmas.Meanings.{M}
use Rattle.lq_text_parser.proofs.SyntaxLemmas.ClosedTypes as types
use Rattle.lq_text_parser.proofs.SyntaxLemmas.ClosedPatterns as patterns
use Rattle.lq_text_parser.proofs.SyntaxLemmas.ClosedBindings as bindings
use Rattle.lq_text_parser.proofs.SyntaxLemmas.ClosedRows as rows
use Rattle.lq_text_parser.proofs.SyntaxLemmas.ClosedLevels as levels
use Rattle.lq_text_parser.proofs.SyntaxLemmas.ClosedOperands as operands
use Rattle.lq_text_parser.proofs.SyntaxLemmas.ClosedItems as items
use Rattle.lq_text_parser.proofs.SyntaxLemmas.ClosedPredicates as predicates
use Rattle.lq_text_parser.proofs.SyntaxLemmas.ClosedEntries as entries

pub closed : (x : Rule) (s : State) (K : State → Type 0) → Unfolded M x s K → M x s K
closed (InType WholeType) s K h = types.whole s.tokens s.last s.nodes s.values K h
closed (InType TypeProduct) s K h = types.product s.tokens s.last s.nodes s.values K h
closed (InType ProductMore) s K h = types.members s.tokens s.last s.nodes s.values K h
closed (InType TypeNames) s K h = types.names_of s.tokens s.last s.nodes s.values K h
closed (InType TypeApplied) s K h = types.applied s.tokens s.last s.nodes s.values K h
closed (InType TypesMore) s K h = types.row s.tokens s.last s.nodes s.values K h
closed (InBinding Simple) s K h = patterns.simple s.tokens s.last s.nodes s.values K h
closed (InBinding Parameter) s K h = patterns.parameter s.tokens s.last s.nodes s.values K h
closed (InBinding ParameterInside) s K h = patterns.parameter_inside s.tokens s.last s.nodes s.values K h
closed (InBinding SimplesInside) s K h = patterns.simples s.tokens s.last s.nodes s.values K h
closed (InPattern ArgumentsInside) s K h = patterns.arguments s.tokens s.last s.nodes s.values K h
closed (InPattern PatternTuple) s K h = patterns.tuple s.tokens s.last s.nodes s.values K h
closed (InPattern PatternRest) s K h = patterns.rest s.tokens s.last s.nodes s.values K h
closed (InPattern PatternArguments) s K h = patterns.builds s.tokens s.last s.nodes s.values K h
closed (InPattern Pattern) s K h = patterns.whole s.tokens s.last s.nodes s.values K h
closed (InBinding LetRest) s K h = bindings.let_rest s.tokens s.last s.nodes s.values K h
closed (InBinding FunRest) s K h = bindings.fun_rest s.tokens s.last s.nodes s.values K h
closed (InBinding LetTail) s K h = bindings.let_tail s.tokens s.last s.nodes s.values K h
closed (InBinding FunTail) s K h = bindings.fun_tail s.tokens s.last s.nodes s.values K h
closed (InBinding RecFirst) s K h = bindings.rec_first s.tokens s.last s.nodes s.values K h
closed (InBinding RecBind) s K h = bindings.recursive_of s.tokens s.last s.nodes s.values K h
closed (InExpression LetTuple) s K h = bindings.let_tuple s.tokens s.last s.nodes s.values K h
closed (InExpression AfterLetName) s K h = bindings.after_name s.tokens s.last s.nodes s.values K h
closed (InExpression AfterLetAny) s K h = bindings.after_any s.tokens s.last s.nodes s.values K h
closed (InExpression LetInside) s K h = bindings.let_inside s.tokens s.last s.nodes s.values K h
closed (InExpression LetHead) s K h = bindings.let_head s.tokens s.last s.nodes s.values K h
closed (InExpression Seq) s K h = rows.seq s.tokens s.last s.nodes s.values K h
closed (InExpression SeqMore) s K h = rows.row_of s.tokens s.last s.nodes s.values K h
closed (InExpression Arm) s K h = rows.arm s.tokens s.last s.nodes s.values K h
closed (InExpression FirstArm) s K h = rows.first_arm s.tokens s.last s.nodes s.values K h
closed (InExpression ArmsMore) s K h = rows.arms_of s.tokens s.last s.nodes s.values K h
closed (InExpression Expression) s K h = rows.expression_of s.tokens s.last s.nodes s.values K h
closed (InExpression CallRest) s K h = levels.call_rest s.tokens s.last s.nodes s.values K h
closed (InExpression OperandRest) s K h = levels.operand_rest s.tokens s.last s.nodes s.values K h
closed (InExpression TupleTail) s K h = levels.tuple_tail s.tokens s.last s.nodes s.values K h
closed (InExpression TupleMore) s K h = levels.tuple_more s.tokens s.last s.nodes s.values K h
closed (InExpression Disjunction) s K h = levels.disjunction_of s.tokens s.last s.nodes s.values K h
closed (InExpression Conjunction) s K h = levels.conjunction_of s.tokens s.last s.nodes s.values K h
closed (InExpression Comparison) s K h = levels.comparison_of s.tokens s.last s.nodes s.values K h
closed (InExpression ConsChain) s K h = levels.cons_of s.tokens s.last s.nodes s.values K h
closed (InExpression Sum) s K h = levels.sum_of s.tokens s.last s.nodes s.values K h
closed (InExpression Product) s K h = levels.product_of s.tokens s.last s.nodes s.values K h
closed (InExpression OrMore) s K h = levels.or_more s.tokens s.last s.nodes s.values K h
closed (InExpression AndMore) s K h = levels.and_more s.tokens s.last s.nodes s.values K h
closed (InExpression CompareMore) s K h = levels.compare_more s.tokens s.last s.nodes s.values K h
closed (InExpression ConsMore) s K h = levels.cons_more s.tokens s.last s.nodes s.values K h
closed (InExpression AddMore) s K h = levels.add_more s.tokens s.last s.nodes s.values K h
closed (InExpression MulMore) s K h = levels.mul_more s.tokens s.last s.nodes s.values K h
closed (InExpression UpperHead) s K h = operands.upper_head s.tokens s.last s.nodes s.values K h
closed (InExpression HeadMore) s K h = operands.head_more s.tokens s.last s.nodes s.values K h
closed (InExpression IndexTail) s K h = operands.index_tail s.tokens s.last s.nodes s.values K h
closed (InExpression AfterIndexed) s K h = operands.after_indexed s.tokens s.last s.nodes s.values K h
closed (InExpression Negation) s K h = operands.negation_of s.tokens s.last s.nodes s.values K h
closed (InExpression AfterMinus) s K h = operands.after_minus s.tokens s.last s.nodes s.values K h
closed (InExpression Application) s K h = operands.application_of s.tokens s.last s.nodes s.values K h
closed (InExpression UpperMore) s K h = operands.upper_more s.tokens s.last s.nodes s.values K h
closed (InExpression ArgumentsMore) s K h = operands.arguments_more_of s.tokens s.last s.nodes s.values K h
closed (InExpression Postfix) s K h = operands.postfix s.tokens s.last s.nodes s.values K h
closed (InExpression PostfixMore) s K h = operands.postfix_more s.tokens s.last s.nodes s.values K h
closed (InExpression Atom) s K h = operands.atom s.tokens s.last s.nodes s.values K h
closed (InExpression UpperAtom) s K h = operands.upper_atom s.tokens s.last s.nodes s.values K h
closed (InExpression PlainAtom) s K h = operands.plain_atom s.tokens s.last s.nodes s.values K h
closed (InExpression OtherAtom) s K h = operands.other_atom s.tokens s.last s.nodes s.values K h
closed (InExpression ListInside) s K h = operands.list_inside s.tokens s.last s.nodes s.values K h
closed (InProgram Items) s K h = items.items_of s.tokens s.last s.nodes s.values K h
closed (InProgram Item) s K h = items.item_of s.tokens s.last s.nodes s.values K h
closed (InProgram LetItem) s K h = items.let_item s.tokens s.last s.nodes s.values K h
closed (InProgram TypeHead) s K h = items.type_head s.tokens s.last s.nodes s.values K h
closed (InProgram TypeBody) s K h = items.type_body s.tokens s.last s.nodes s.values K h
closed (InProgram TypeParameters) s K h = items.type_parameters s.tokens s.last s.nodes s.values K h
closed (InProgram FirstConstructor) s K h = items.first_constructor s.tokens s.last s.nodes s.values K h
closed (InProgram Constructor) s K h = items.constructor_of s.tokens s.last s.nodes s.values K h
closed (InProgram ConstructorFields) s K h = items.constructor_fields s.tokens s.last s.nodes s.values K h
closed (InProgram ConstructorsMore) s K h = items.constructors_of s.tokens s.last s.nodes s.values K h
closed (InProgram FieldsMore) s K h = items.fields_of s.tokens s.last s.nodes s.values K h
closed (InPred Predicate) s K h = predicates.predicate_of s.tokens s.last s.nodes s.values K h
closed (InPred PredDisjunction) s K h = predicates.disjunction_of s.tokens s.last s.nodes s.values K h
closed (InPred PredConjunction) s K h = predicates.conjunction_of s.tokens s.last s.nodes s.values K h
closed (InPred Term) s K h = predicates.term_of s.tokens s.last s.nodes s.values K h
closed (InPred TermProduct) s K h = predicates.factor_of s.tokens s.last s.nodes s.values K h
closed (InPred PredNegation) s K h = predicates.negation_of s.tokens s.last s.nodes s.values K h
closed (InPred TermNegation) s K h = predicates.opposite_of s.tokens s.last s.nodes s.values K h
closed (InPred IffMore) s K h = predicates.iff_more s.tokens s.last s.nodes s.values K h
closed (InPred PredCompareMore) s K h = predicates.compare_more s.tokens s.last s.nodes s.values K h
closed (InPred PredOrMore) s K h = predicates.or_more s.tokens s.last s.nodes s.values K h
closed (InPred PredAndMore) s K h = predicates.and_more s.tokens s.last s.nodes s.values K h
closed (InPred TermAddMore) s K h = predicates.add_more s.tokens s.last s.nodes s.values K h
closed (InPred TermMulMore) s K h = predicates.mul_more s.tokens s.last s.nodes s.values K h
closed (InPred AfterTermMinus) s K h = predicates.after_minus s.tokens s.last s.nodes s.values K h
closed (InPred TermAtom) s K h = predicates.atom s.tokens s.last s.nodes s.values K h
closed (InPred OtherTermAtom) s K h = predicates.other_atom s.tokens s.last s.nodes s.values K h
closed (InPred TermArgument) s K h = predicates.argument s.tokens s.last s.nodes s.values K h
closed (InPred QualifiedArgument) s K h = predicates.qualified_argument s.tokens s.last s.nodes s.values K h
closed (InPred UpperTerm) s K h = predicates.upper_term s.tokens s.last s.nodes s.values K h
closed (InEntry Equation) s K h = entries.equation_of s.tokens s.last s.nodes s.values K h
closed (InEntry FirstEquation) s K h = entries.first_equation s.tokens s.last s.nodes s.values K h
closed (InEntry EquationsMore) s K h = entries.equations_of s.tokens s.last s.nodes s.values K h
closed (InEntry MeasuresMore) s K h = entries.measures_of s.tokens s.last s.nodes s.values K h
closed (InEntry QualifierName) s K h = entries.qualifier_name s.tokens s.last s.nodes s.values K h
closed (InEntry QualifierRest) s K h = entries.qualifier_rest s.tokens s.last s.nodes s.values K h
closed (InEntry QualsMore) s K h = entries.qualifiers_of s.tokens s.last s.nodes s.values K h
closed _ s K h = h
