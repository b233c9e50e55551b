-- The grammars of the three texts, as data. A line of docs/language.md stands over the part that reads it. Where a line is read in several
-- parts, since what follows depends on the next token, the others stand below it, each with what it reads: `AddMore` is what may stand
-- behind a member of a sum.
-- `Leave` ends a level: an alternative opens as many levels as it has of them, its first token included.
use Rattle.std.specs.Prelude.{List, [], ◌∷◌}
use Rattle.lq_base_names.specs.declared.operation.ArithOp.TheVariants as arith
use Rattle.lq_base_names.specs.declared.operation.CompareOp.TheVariants as compare
use Rattle.lq_base_names.specs.declared.place.TextKind.{TextKind}
use Rattle.lq_base_names.specs.declared.place.TextKind.TheVariants as text
use Rattle.lq_text_grammar.specs.declared.kind.Kind.{Kind}
use Rattle.lq_text_grammar.specs.declared.kind.Kind.TheVariants as kind
use Rattle.lq_text_grammar.specs.declared.rule.Rule.{Rule}
use Rattle.lq_text_grammar.specs.declared.rule.Rule.TheVariants.{InProgram, InType, InBinding, InExpression, InPattern, InEntry, InPred}
use Rattle.lq_text_grammar.specs.declared.rule.ProgramPart.{ProgramPart}
use Rattle.lq_text_grammar.specs.declared.rule.ProgramPart.TheVariants.{Program, Items, AfterItem, Item, LetItem, TypeHead, TypeParameters, TypeBody, FirstConstructor, ConstructorsMore, Constructor, ConstructorFields, FieldsMore}
use Rattle.lq_text_grammar.specs.declared.rule.TypePart.{TypePart}
use Rattle.lq_text_grammar.specs.declared.rule.TypePart.TheVariants.{WholeType, ArrowMore, TypeProduct, ProductTail, ProductMore, TypeApplied, TypeNames, TypesInside, TypesMore}
use Rattle.lq_text_grammar.specs.declared.rule.BindingPart.{BindingPart}
use Rattle.lq_text_grammar.specs.declared.rule.BindingPart.TheVariants.{RecBind, RecFirst, RecRest, RecFun, RecFunRest, LetTail, LetRest, FunTail, FunRest, Parameter, ParameterInside, SimplesInside, Simple}
use Rattle.lq_text_grammar.specs.declared.rule.ExpressionPart.{ExpressionPart}
use Rattle.lq_text_grammar.specs.declared.rule.ExpressionPart.TheVariants.{Seq, SeqTail, SeqSecond, SeqMore, SeqNext, Expression, LetHead, AfterLetName, AfterLetAny, LetTuple, LetInside, FunFirst, FirstArm, ArmsMore, Arm, ElsePart, UpperHead, HeadMore, IndexTail, AfterIndexed, CallRest, OperandRest, TupleTail, TupleMore, Disjunction, OrMore, Conjunction, AndMore, Comparison, CompareMore, ConsChain, ConsMore, Sum, AddMore, Product, MulMore, Negation, AfterMinus, Application, UpperMore, ArgumentsMore, Postfix, PostfixMore, Atom, UpperAtom, PlainAtom, OtherAtom, Inside, ListInside, ListMore}
use Rattle.lq_text_grammar.specs.declared.rule.PatternPart.{PatternPart}
use Rattle.lq_text_grammar.specs.declared.rule.PatternPart.TheVariants.{Pattern, PatternRest, PatternTuple, PatternInner, PatternArguments, ArgumentsInside}
use Rattle.lq_text_grammar.specs.declared.rule.EntryPart.{EntryPart}
use Rattle.lq_text_grammar.specs.declared.rule.EntryPart.TheVariants.{Quals, QualsMore, QualifierName, QualifierRest, Measures, MeasuresMore, FirstEquation, EquationsMore, Equation}
use Rattle.lq_text_grammar.specs.declared.rule.PredPart.{PredPart}
use Rattle.lq_text_grammar.specs.declared.rule.PredPart.TheVariants.{Predicate, IffMore, PredDisjunction, PredOrMore, PredConjunction, PredAndMore, PredNegation, PredCompareMore, Term, TermAddMore, TermProduct, TermMulMore, TermNegation, AfterTermMinus, TermAtom, OtherTermAtom, TermArgument, UpperTerm, QualifiedArgument}
use Rattle.lq_text_grammar.specs.declared.symbol.ItemAction.TheVariants.{NoItems, AddLet, AddRec, AddType, NoParameters, FirstParameter, AddParameter, NoConstructors, AddConstructor}
use Rattle.lq_text_grammar.specs.declared.symbol.TypingAction.TheVariants.{NoTypes, TwoTypes, AppendType, VariableType, NamedType, ApplyType, ApplyTypes, ProductType, ArrowType, TypeInside}
use Rattle.lq_text_grammar.specs.declared.symbol.PatternAction.TheVariants.{Bind, Any, UnitPattern, NilPattern, ConsPattern, NoPatterns, TwoPatterns, AppendPattern, TuplePattern, TupleHere, BuildPattern, PatternInside}
use Rattle.lq_text_grammar.specs.declared.symbol.BlockAction.TheVariants.{Function, FunctionHere, Recursive, RecursiveHere, LetIn, LetRecIn, NoArms, AppendArm, MatchOf, IfElse, IfOnly, AssertOf, NotOf, ChainOf, TupleOf, ListLiteral, NoTrees, TwoTrees, AppendTree}
use Rattle.lq_text_grammar.specs.declared.symbol.OperandAction.TheVariants.{Literal, NegativeLiteral, Truth, Untruth, UseOf, QualifiedOf, ConstantOf, BuildOf, UnitHere, Enclosed, BlockOf, ElementOf, FetchOf, StoreOf, CallOf, NegateOf, ConsOf, AndOf, OrOf, ArithOf, CompareOf}
use Rattle.lq_text_grammar.specs.declared.symbol.PredAction.TheVariants.{PredLiteral, PredNegative, PredTruth, PredUntruth, PredUse, PredPlaceholder, PredApply, PredQualified, PredNegate, PredNot, PredAnd, PredOr, IffOf, PredInside, PredArith, PredCompare}
use Rattle.lq_text_grammar.specs.declared.symbol.EntryAction.TheVariants.{NoQualifiers, AddQualifier, NoMeasures, AddMeasure, NoEquations, AppendEquation}
use Rattle.lq_text_grammar.specs.declared.symbol.Action.TheVariants.{Mark, Named, Item, Typing, Pattern, Block, Operand, Pred, Entry}
use Rattle.lq_text_grammar.specs.declared.symbol.Symbol.{Symbol}
use Rattle.lq_text_grammar.specs.declared.symbol.Symbol.TheVariants.{Word, Part, Make, Leave}

-- One way to read a part. `begins`: its first token is of this kind, and the symbols after it follow. `before`: the next token is of one
-- of these kinds, and the symbols begin with it. `otherwise`: at any next token, and at the end.
pub data Alternative : Type 0 where
  begins : Kind → List Symbol → Alternative
  before : List Kind → List Symbol → Alternative
  otherwise : List Symbol → Alternative

-- the kinds of tokens with which these begin
abbrev pub begin_item : List Kind
begin_item = kind.Type ∷ kind.Let ∷ []

abbrev pub begin_parameter : List Kind
begin_parameter = kind.LowerName ∷ kind.Underscore ∷ kind.Open ∷ []

abbrev pub begin_operand : List Kind
begin_operand = kind.Number ∷ kind.True ∷ kind.False ∷ kind.LowerName ∷ kind.UpperName ∷ kind.Open ∷ kind.OpenBracket ∷ kind.Begin ∷ []

abbrev pub begin_expression : List Kind
begin_expression = kind.Let ∷ kind.Fun ∷ kind.Match ∷ kind.If ∷ kind.Minus ∷ kind.Assert ∷ kind.Not ∷ kind.Number ∷ kind.True ∷ kind.False ∷ kind.LowerName ∷ kind.UpperName ∷ kind.Open ∷ kind.OpenBracket ∷ kind.Begin ∷ []

abbrev pub begin_argument : List Kind
begin_argument = kind.Number ∷ kind.True ∷ kind.False ∷ kind.LowerName ∷ kind.UpperName ∷ kind.Open ∷ []

-- the part that is a whole text of this kind
abbrev pub start_of : TextKind → Rule
start_of text.Program = InProgram Program
start_of text.Quals = InEntry Quals
start_of text.Measures = InEntry Measures

-- Programs.
abbrev pub program_alternatives : ProgramPart → List Alternative
-- program ::= (item ";;"?)*
program_alternatives Program =
    otherwise (Make (Item NoItems) ∷ Part (InProgram Items) ∷ [])
    ∷ []
-- the items that are left
program_alternatives Items =
    before begin_item (Part (InProgram Item) ∷ Part (InProgram AfterItem) ∷ [])
    ∷ otherwise []
    ∷ []
-- what may stand behind an item
program_alternatives AfterItem =
    begins kind.DoubleSemicolon (Part (InProgram Items) ∷ [])
    ∷ otherwise (Part (InProgram Items) ∷ [])
    ∷ []
-- item ::= "type" params? name "=" "|"? constructor ("|" constructor)*
--        | "let" (name param* | "_" | "(" ")") "=" seq
--        | "let" "rec" recursive
program_alternatives Item =
    begins kind.Type (Make Mark ∷ Part (InProgram TypeHead) ∷ [])
    ∷ begins kind.Let (Make Mark ∷ Part (InProgram LetItem) ∷ [])
    ∷ []
-- what may stand behind the `let` of an item
program_alternatives LetItem =
    begins kind.LowerName (Make (Pattern Bind) ∷ Part (InBinding LetTail) ∷ Make (Item AddLet) ∷ [])
    ∷ begins kind.Underscore (Make (Pattern Any) ∷ Word kind.Equal ∷ Part (InExpression Seq) ∷ Make (Item AddLet) ∷ [])
    ∷ begins kind.Open (Make Mark ∷ Word kind.Close ∷ Leave ∷ Make (Pattern UnitPattern) ∷ Word kind.Equal ∷ Part (InExpression Seq) ∷ Make (Item AddLet) ∷ [])
    ∷ begins kind.Rec (Part (InBinding RecBind) ∷ Make (Item AddRec) ∷ [])
    ∷ []
-- params ::= 'name | "(" 'name ("," 'name)* ")"
-- what may stand behind `type`: the parameters and what follows them
program_alternatives TypeHead =
    begins kind.TypeVariable (Make (Item FirstParameter) ∷ Word kind.LowerName ∷ Make Named ∷ Part (InProgram TypeBody) ∷ [])
    ∷ begins kind.Open (Word kind.TypeVariable ∷ Make (Item FirstParameter) ∷ Part (InProgram TypeParameters) ∷ Leave ∷ Word kind.LowerName ∷ Make Named ∷ Part (InProgram TypeBody) ∷ [])
    ∷ begins kind.LowerName (Make (Item NoParameters) ∷ Make Named ∷ Part (InProgram TypeBody) ∷ [])
    ∷ []
-- what may stand behind a parameter in parentheses
program_alternatives TypeParameters =
    begins kind.Comma (Word kind.TypeVariable ∷ Make (Item AddParameter) ∷ Part (InProgram TypeParameters) ∷ [])
    ∷ begins kind.Close []
    ∷ []
-- what may stand behind the name of a type
program_alternatives TypeBody =
    begins kind.Equal (Make (Item NoConstructors) ∷ Part (InProgram FirstConstructor) ∷ Make (Item AddType) ∷ [])
    ∷ []
-- what may stand behind the `=` of a type
program_alternatives FirstConstructor =
    begins kind.Bar (Part (InProgram Constructor) ∷ Part (InProgram ConstructorsMore) ∷ [])
    ∷ otherwise (Part (InProgram Constructor) ∷ Part (InProgram ConstructorsMore) ∷ [])
    ∷ []
-- what may stand behind a constructor
program_alternatives ConstructorsMore =
    begins kind.Bar (Part (InProgram Constructor) ∷ Part (InProgram ConstructorsMore) ∷ [])
    ∷ otherwise []
    ∷ []
-- constructor ::= Name ("of" applied ("*" applied)*)?
program_alternatives Constructor =
    begins kind.UpperName (Make Named ∷ Make (Typing NoTypes) ∷ Part (InProgram ConstructorFields) ∷ Make (Item AddConstructor) ∷ [])
    ∷ []
-- what may stand behind a constructor's name
program_alternatives ConstructorFields =
    begins kind.Of (Part (InType TypeApplied) ∷ Make (Typing AppendType) ∷ Part (InProgram FieldsMore) ∷ [])
    ∷ otherwise []
    ∷ []
-- what may stand behind a field
program_alternatives FieldsMore =
    begins kind.Star (Part (InType TypeApplied) ∷ Make (Typing AppendType) ∷ Part (InProgram FieldsMore) ∷ [])
    ∷ otherwise []
    ∷ []

-- Types.
abbrev pub type_alternatives : TypePart → List Alternative
-- type ::= product ("->" type)?
type_alternatives WholeType =
    otherwise (Part (InType TypeProduct) ∷ Part (InType ArrowMore) ∷ [])
    ∷ []
-- what may stand behind the left of `->`
type_alternatives ArrowMore =
    begins kind.Arrow (Part (InType WholeType) ∷ Make (Typing ArrowType) ∷ Leave ∷ [])
    ∷ otherwise []
    ∷ []
-- product ::= applied ("*" applied)*
type_alternatives TypeProduct =
    otherwise (Part (InType TypeApplied) ∷ Part (InType ProductTail) ∷ [])
    ∷ []
-- what may stand behind the first member of a product
type_alternatives ProductTail =
    begins kind.Star (Part (InType TypeApplied) ∷ Make (Typing TwoTypes) ∷ Part (InType ProductMore) ∷ Make (Typing ProductType) ∷ [])
    ∷ otherwise []
    ∷ []
-- what may stand behind a further member
type_alternatives ProductMore =
    begins kind.Star (Part (InType TypeApplied) ∷ Make (Typing AppendType) ∷ Part (InType ProductMore) ∷ [])
    ∷ otherwise []
    ∷ []
-- applied ::= ('name | name | "(" type ("," type)* ")") name*
-- Two types or more in parentheses have a type name behind them.
type_alternatives TypeApplied =
    begins kind.TypeVariable (Make (Typing VariableType) ∷ Part (InType TypeNames) ∷ [])
    ∷ begins kind.LowerName (Make (Typing NamedType) ∷ Part (InType TypeNames) ∷ [])
    ∷ begins kind.Open (Make Mark ∷ Part (InType WholeType) ∷ Part (InType TypesInside) ∷ Leave ∷ Part (InType TypeNames) ∷ [])
    ∷ []
-- what may stand behind a type that is a member of `applied`: names that are applied to it
type_alternatives TypeNames =
    begins kind.LowerName (Make (Typing ApplyType) ∷ Part (InType TypeNames) ∷ Leave ∷ [])
    ∷ otherwise []
    ∷ []
-- what may stand behind the first type in parentheses
type_alternatives TypesInside =
    begins kind.Close (Make (Typing TypeInside) ∷ [])
    ∷ begins kind.Comma (Part (InType WholeType) ∷ Make (Typing TwoTypes) ∷ Part (InType TypesMore) ∷ [])
    ∷ []
-- what may stand behind a further type in parentheses
type_alternatives TypesMore =
    begins kind.Close (Word kind.LowerName ∷ Make (Typing ApplyTypes) ∷ Part (InType TypeNames) ∷ [])
    ∷ begins kind.Comma (Part (InType WholeType) ∷ Make (Typing AppendType) ∷ Part (InType TypesMore) ∷ [])
    ∷ []

-- Bindings and parameters.
abbrev pub binding_alternatives : BindingPart → List Alternative
-- recursive ::= name param param* "=" seq | name "=" "fun" param param* "->" seq
binding_alternatives RecBind =
    begins kind.LowerName (Make Named ∷ Part (InBinding RecFirst) ∷ [])
    ∷ []
-- what may stand behind the name of a recursive function
binding_alternatives RecFirst =
    begins kind.Equal (Part (InBinding RecFun) ∷ [])
    ∷ before begin_parameter (Part (InBinding Parameter) ∷ Part (InBinding RecRest) ∷ [])
    ∷ []
-- what may stand behind its first parameter
binding_alternatives RecRest =
    otherwise (Part (InBinding LetTail) ∷ Make (Block Recursive) ∷ Leave ∷ [])
    ∷ []
-- what may stand behind its `=` where it has no parameter: a `fun`
binding_alternatives RecFun =
    begins kind.Fun (Make Mark ∷ Part (InBinding Parameter) ∷ Part (InBinding RecFunRest) ∷ Leave ∷ [])
    ∷ []
-- what may stand behind the first parameter of that `fun`
binding_alternatives RecFunRest =
    otherwise (Part (InBinding FunTail) ∷ Make (Block RecursiveHere) ∷ Leave ∷ [])
    ∷ []
-- param* "=" seq: behind each parameter the level is one more
binding_alternatives LetTail =
    begins kind.Equal (Part (InExpression Seq) ∷ [])
    ∷ begins kind.LowerName (Make (Pattern Bind) ∷ Part (InBinding LetRest) ∷ [])
    ∷ begins kind.Underscore (Make (Pattern Any) ∷ Part (InBinding LetRest) ∷ [])
    ∷ begins kind.Open (Make Mark ∷ Part (InBinding ParameterInside) ∷ Leave ∷ Part (InBinding LetRest) ∷ [])
    ∷ []
-- what may stand behind one of these parameters
binding_alternatives LetRest =
    otherwise (Part (InBinding LetTail) ∷ Make (Block Function) ∷ Leave ∷ [])
    ∷ []
-- param* "->" seq: behind each parameter the level is one more
binding_alternatives FunTail =
    begins kind.Arrow (Part (InExpression Seq) ∷ [])
    ∷ begins kind.LowerName (Make (Pattern Bind) ∷ Part (InBinding FunRest) ∷ [])
    ∷ begins kind.Underscore (Make (Pattern Any) ∷ Part (InBinding FunRest) ∷ [])
    ∷ begins kind.Open (Make Mark ∷ Part (InBinding ParameterInside) ∷ Leave ∷ Part (InBinding FunRest) ∷ [])
    ∷ []
-- what may stand behind one of these parameters
binding_alternatives FunRest =
    otherwise (Part (InBinding FunTail) ∷ Make (Block Function) ∷ Leave ∷ [])
    ∷ []
-- param ::= simple | "(" ")" | "(" simple ("," simple)+ ")"
binding_alternatives Parameter =
    begins kind.LowerName (Make (Pattern Bind) ∷ [])
    ∷ begins kind.Underscore (Make (Pattern Any) ∷ [])
    ∷ begins kind.Open (Make Mark ∷ Part (InBinding ParameterInside) ∷ Leave ∷ [])
    ∷ []
-- what may stand behind the parenthesis of a parameter
binding_alternatives ParameterInside =
    begins kind.Close (Make (Pattern UnitPattern) ∷ [])
    ∷ otherwise (Part (InBinding Simple) ∷ Word kind.Comma ∷ Part (InBinding Simple) ∷ Make (Pattern TwoPatterns) ∷ Part (InBinding SimplesInside) ∷ Make (Pattern TupleHere) ∷ [])
    ∷ []
-- what may stand behind the second simple pattern in parentheses, or a further one
binding_alternatives SimplesInside =
    begins kind.Close []
    ∷ begins kind.Comma (Part (InBinding Simple) ∷ Make (Pattern AppendPattern) ∷ Part (InBinding SimplesInside) ∷ [])
    ∷ []
-- simple ::= name | "_"
binding_alternatives Simple =
    begins kind.LowerName (Make (Pattern Bind) ∷ [])
    ∷ begins kind.Underscore (Make (Pattern Any) ∷ [])
    ∷ []

-- Expressions.
abbrev pub expression_alternatives : ExpressionPart → List Alternative
-- seq ::= expr (";" expr)* ";"?
expression_alternatives Seq =
    otherwise (Part (InExpression Expression) ∷ Part (InExpression SeqTail) ∷ [])
    ∷ []
-- what may stand behind the first expression of a row
expression_alternatives SeqTail =
    begins kind.Semicolon (Part (InExpression SeqSecond) ∷ [])
    ∷ otherwise []
    ∷ []
-- what may stand behind the first `;` of a row
expression_alternatives SeqSecond =
    before begin_expression (Part (InExpression Expression) ∷ Make (Block TwoTrees) ∷ Part (InExpression SeqMore) ∷ Make (Block ChainOf) ∷ [])
    ∷ otherwise []
    ∷ []
-- what may stand behind a further expression of a row
expression_alternatives SeqMore =
    begins kind.Semicolon (Part (InExpression SeqNext) ∷ [])
    ∷ otherwise []
    ∷ []
-- what may stand behind a further `;` of a row
expression_alternatives SeqNext =
    before begin_expression (Part (InExpression Expression) ∷ Make (Block AppendTree) ∷ Part (InExpression SeqMore) ∷ [])
    ∷ otherwise []
    ∷ []
-- expr ::= "let" (name param* | "_" | "(" ")" | tuple_pattern) "=" seq "in" seq
--        | "let" "rec" recursive "in" seq
--        | "fun" param param* "->" seq
--        | "match" seq "with" "|"? arm ("|" arm)*
--        | "if" expr "then" expr ("else" expr)?
--        | tuple ("<-" expr)?
-- The left of `<-` is an operand that ends with an index, so the last line is read by its first operand: behind an index may stand `<-`.
expression_alternatives Expression =
    begins kind.Let (Make Mark ∷ Part (InExpression LetHead) ∷ Leave ∷ [])
    ∷ begins kind.Fun (Make Mark ∷ Part (InBinding Parameter) ∷ Part (InExpression FunFirst) ∷ Leave ∷ [])
    ∷ begins kind.Match (Make Mark ∷ Part (InExpression Seq) ∷ Word kind.With ∷ Make (Block NoArms) ∷ Part (InExpression FirstArm) ∷ Make (Block MatchOf) ∷ Leave ∷ [])
    ∷ begins kind.If (Make Mark ∷ Part (InExpression Expression) ∷ Word kind.Then ∷ Part (InExpression Expression) ∷ Part (InExpression ElsePart) ∷ Leave ∷ [])
    ∷ begins kind.Minus (Make Mark ∷ Part (InExpression AfterMinus) ∷ Leave ∷ Part (InExpression OperandRest) ∷ [])
    ∷ begins kind.Assert (Make Mark ∷ Part (InExpression Postfix) ∷ Make (Block AssertOf) ∷ Leave ∷ Part (InExpression OperandRest) ∷ [])
    ∷ begins kind.Not (Make Mark ∷ Part (InExpression Postfix) ∷ Make (Block NotOf) ∷ Leave ∷ Part (InExpression OperandRest) ∷ [])
    ∷ begins kind.UpperName (Make Named ∷ Part (InExpression UpperHead) ∷ [])
    ∷ otherwise (Part (InExpression PlainAtom) ∷ Part (InExpression HeadMore) ∷ [])
    ∷ []
-- what may stand behind the `let` of an expression
expression_alternatives LetHead =
    begins kind.LowerName (Make (Pattern Bind) ∷ Part (InExpression AfterLetName) ∷ Word kind.In ∷ Part (InExpression Seq) ∷ Make (Block LetIn) ∷ [])
    ∷ begins kind.Underscore (Make (Pattern Any) ∷ Part (InExpression AfterLetAny) ∷ Word kind.In ∷ Part (InExpression Seq) ∷ Make (Block LetIn) ∷ [])
    ∷ begins kind.Open (Make Mark ∷ Part (InExpression LetInside) ∷ Leave ∷ Word kind.Equal ∷ Part (InExpression Seq) ∷ Word kind.In ∷ Part (InExpression Seq) ∷ Make (Block LetIn) ∷ [])
    ∷ begins kind.Rec (Part (InBinding RecBind) ∷ Word kind.In ∷ Part (InExpression Seq) ∷ Make (Block LetRecIn) ∷ [])
    ∷ []
-- what may stand behind its name
expression_alternatives AfterLetName =
    begins kind.Comma (Part (InBinding Simple) ∷ Make (Pattern TwoPatterns) ∷ Part (InExpression LetTuple) ∷ [])
    ∷ otherwise (Part (InBinding LetTail) ∷ [])
    ∷ []
-- what may stand behind its `_`
expression_alternatives AfterLetAny =
    begins kind.Comma (Part (InBinding Simple) ∷ Make (Pattern TwoPatterns) ∷ Part (InExpression LetTuple) ∷ [])
    ∷ begins kind.Equal (Part (InExpression Seq) ∷ [])
    ∷ []
-- what may stand behind its second simple pattern, or a further one
expression_alternatives LetTuple =
    begins kind.Comma (Part (InBinding Simple) ∷ Make (Pattern AppendPattern) ∷ Part (InExpression LetTuple) ∷ [])
    ∷ begins kind.Equal (Make (Pattern TuplePattern) ∷ Part (InExpression Seq) ∷ [])
    ∷ []
-- what may stand behind its parenthesis
expression_alternatives LetInside =
    begins kind.Close (Make (Pattern UnitPattern) ∷ [])
    ∷ otherwise (Part (InBinding Simple) ∷ Word kind.Comma ∷ Part (InBinding Simple) ∷ Make (Pattern TwoPatterns) ∷ Part (InBinding SimplesInside) ∷ Make (Pattern TuplePattern) ∷ Make (Pattern PatternInside) ∷ [])
    ∷ []
-- what may stand behind the first parameter of a `fun`
expression_alternatives FunFirst =
    otherwise (Part (InBinding FunTail) ∷ Make (Block FunctionHere) ∷ Leave ∷ [])
    ∷ []
-- what may stand behind `with`
expression_alternatives FirstArm =
    begins kind.Bar (Part (InExpression Arm) ∷ Part (InExpression ArmsMore) ∷ [])
    ∷ otherwise (Part (InExpression Arm) ∷ Part (InExpression ArmsMore) ∷ [])
    ∷ []
-- what may stand behind an arm
expression_alternatives ArmsMore =
    begins kind.Bar (Part (InExpression Arm) ∷ Part (InExpression ArmsMore) ∷ [])
    ∷ otherwise []
    ∷ []
-- arm ::= pattern "->" seq
expression_alternatives Arm =
    otherwise (Part (InPattern Pattern) ∷ Word kind.Arrow ∷ Part (InExpression Seq) ∷ Make (Block AppendArm) ∷ [])
    ∷ []
-- what may stand behind the first branch of an `if`
expression_alternatives ElsePart =
    begins kind.Else (Part (InExpression Expression) ∷ Make (Block IfElse) ∷ [])
    ∷ otherwise (Make (Block IfOnly) ∷ [])
    ∷ []
-- what may stand behind an upper name that begins an expression
expression_alternatives UpperHead =
    begins kind.Dot (Word kind.LowerName ∷ Make (Operand QualifiedOf) ∷ Part (InExpression HeadMore) ∷ [])
    ∷ begins kind.OpenIndex (Make (Operand ConstantOf) ∷ Part (InExpression Seq) ∷ Word kind.Close ∷ Leave ∷ Make (Operand ElementOf) ∷ Part (InExpression IndexTail) ∷ Leave ∷ Part (InExpression AfterIndexed) ∷ [])
    ∷ before begin_operand (Part (InExpression Postfix) ∷ Make (Operand BuildOf) ∷ Part (InExpression OperandRest) ∷ [])
    ∷ otherwise (Make (Operand ConstantOf) ∷ Part (InExpression OperandRest) ∷ [])
    ∷ []
-- what may stand behind another atom that begins an expression
expression_alternatives HeadMore =
    begins kind.OpenIndex (Part (InExpression Seq) ∷ Word kind.Close ∷ Leave ∷ Make (Operand ElementOf) ∷ Part (InExpression IndexTail) ∷ Leave ∷ Part (InExpression AfterIndexed) ∷ [])
    ∷ otherwise (Part (InExpression CallRest) ∷ [])
    ∷ []
-- what may stand behind the first index of that atom: more of them
expression_alternatives IndexTail =
    begins kind.OpenIndex (Make (Operand FetchOf) ∷ Part (InExpression Seq) ∷ Word kind.Close ∷ Leave ∷ Make (Operand ElementOf) ∷ Part (InExpression IndexTail) ∷ Leave ∷ [])
    ∷ otherwise []
    ∷ []
-- what may stand behind its last index
expression_alternatives AfterIndexed =
    begins kind.LeftArrow (Part (InExpression Expression) ∷ Make (Operand StoreOf) ∷ Leave ∷ [])
    ∷ otherwise (Make (Operand FetchOf) ∷ Part (InExpression CallRest) ∷ [])
    ∷ []
-- what may stand behind an operand that begins an expression: arguments and operators
expression_alternatives CallRest =
    otherwise (Part (InExpression ArgumentsMore) ∷ Part (InExpression OperandRest) ∷ [])
    ∷ []
-- what may stand behind an application that begins an expression: operators
expression_alternatives OperandRest =
    otherwise (Part (InExpression MulMore) ∷ Part (InExpression AddMore) ∷ Part (InExpression ConsMore) ∷ Part (InExpression CompareMore) ∷ Part (InExpression AndMore) ∷ Part (InExpression OrMore) ∷ Part (InExpression TupleTail) ∷ [])
    ∷ []
-- tuple ::= or ("," or)*
-- what may stand behind the first member of a tuple
expression_alternatives TupleTail =
    begins kind.Comma (Part (InExpression Disjunction) ∷ Make (Block TwoTrees) ∷ Part (InExpression TupleMore) ∷ Make (Block TupleOf) ∷ [])
    ∷ otherwise []
    ∷ []
-- what may stand behind a further member of a tuple
expression_alternatives TupleMore =
    begins kind.Comma (Part (InExpression Disjunction) ∷ Make (Block AppendTree) ∷ Part (InExpression TupleMore) ∷ [])
    ∷ otherwise []
    ∷ []
-- or ::= and ("||" or)?
expression_alternatives Disjunction =
    otherwise (Part (InExpression Conjunction) ∷ Part (InExpression OrMore) ∷ [])
    ∷ []
-- what may stand behind the left of `||`
expression_alternatives OrMore =
    begins kind.DoubleBar (Part (InExpression Disjunction) ∷ Make (Operand OrOf) ∷ Leave ∷ [])
    ∷ otherwise []
    ∷ []
-- and ::= comparison ("&&" and)?
expression_alternatives Conjunction =
    otherwise (Part (InExpression Comparison) ∷ Part (InExpression AndMore) ∷ [])
    ∷ []
-- what may stand behind the left of `&&`
expression_alternatives AndMore =
    begins kind.DoubleAmpersand (Part (InExpression Conjunction) ∷ Make (Operand AndOf) ∷ Leave ∷ [])
    ∷ otherwise []
    ∷ []
-- comparison ::= cons (("=" | "<>" | "<" | "<=" | ">" | ">=") cons)?
expression_alternatives Comparison =
    otherwise (Part (InExpression ConsChain) ∷ Part (InExpression CompareMore) ∷ [])
    ∷ []
-- what may stand behind the left of a comparison
expression_alternatives CompareMore =
    begins kind.Equal (Part (InExpression ConsChain) ∷ Make (Operand (CompareOf compare.Eq)) ∷ Leave ∷ [])
    ∷ begins kind.NotEqual (Part (InExpression ConsChain) ∷ Make (Operand (CompareOf compare.Ne)) ∷ Leave ∷ [])
    ∷ begins kind.Less (Part (InExpression ConsChain) ∷ Make (Operand (CompareOf compare.Lt)) ∷ Leave ∷ [])
    ∷ begins kind.LessEqual (Part (InExpression ConsChain) ∷ Make (Operand (CompareOf compare.Le)) ∷ Leave ∷ [])
    ∷ begins kind.Greater (Part (InExpression ConsChain) ∷ Make (Operand (CompareOf compare.Gt)) ∷ Leave ∷ [])
    ∷ begins kind.GreaterEqual (Part (InExpression ConsChain) ∷ Make (Operand (CompareOf compare.Ge)) ∷ Leave ∷ [])
    ∷ otherwise []
    ∷ []
-- cons ::= sum ("::" cons)?
expression_alternatives ConsChain =
    otherwise (Part (InExpression Sum) ∷ Part (InExpression ConsMore) ∷ [])
    ∷ []
-- what may stand behind the left of `::`
expression_alternatives ConsMore =
    begins kind.DoubleColon (Part (InExpression ConsChain) ∷ Make (Operand ConsOf) ∷ Leave ∷ [])
    ∷ otherwise []
    ∷ []
-- sum ::= factor (("+" | "-") factor)*
expression_alternatives Sum =
    otherwise (Part (InExpression Product) ∷ Part (InExpression AddMore) ∷ [])
    ∷ []
-- what may stand behind a member of a sum
expression_alternatives AddMore =
    begins kind.Plus (Part (InExpression Product) ∷ Make (Operand (ArithOf arith.Add)) ∷ Part (InExpression AddMore) ∷ Leave ∷ [])
    ∷ begins kind.Minus (Part (InExpression Product) ∷ Make (Operand (ArithOf arith.Sub)) ∷ Part (InExpression AddMore) ∷ Leave ∷ [])
    ∷ otherwise []
    ∷ []
-- factor ::= negation (("*" | "/" | "mod") negation)*
expression_alternatives Product =
    otherwise (Part (InExpression Negation) ∷ Part (InExpression MulMore) ∷ [])
    ∷ []
-- what may stand behind a member of a product
expression_alternatives MulMore =
    begins kind.Star (Part (InExpression Negation) ∷ Make (Operand (ArithOf arith.Mul)) ∷ Part (InExpression MulMore) ∷ Leave ∷ [])
    ∷ begins kind.Slash (Part (InExpression Negation) ∷ Make (Operand (ArithOf arith.Div)) ∷ Part (InExpression MulMore) ∷ Leave ∷ [])
    ∷ begins kind.Mod (Part (InExpression Negation) ∷ Make (Operand (ArithOf arith.Mod)) ∷ Part (InExpression MulMore) ∷ Leave ∷ [])
    ∷ otherwise []
    ∷ []
-- negation ::= "-" negation | application
expression_alternatives Negation =
    begins kind.Minus (Make Mark ∷ Part (InExpression AfterMinus) ∷ Leave ∷ [])
    ∷ otherwise (Part (InExpression Application) ∷ [])
    ∷ []
-- what may stand behind a unary minus: a number makes a negative literal with it, also the limit of literals
expression_alternatives AfterMinus =
    begins kind.Number (Make (Operand NegativeLiteral) ∷ Part (InExpression PostfixMore) ∷ Part (InExpression ArgumentsMore) ∷ [])
    ∷ begins kind.LimitNumber (Make (Operand NegativeLiteral) ∷ Part (InExpression PostfixMore) ∷ Part (InExpression ArgumentsMore) ∷ [])
    ∷ begins kind.Minus (Make Mark ∷ Part (InExpression AfterMinus) ∷ Leave ∷ Make (Operand NegateOf) ∷ [])
    ∷ begins kind.Assert (Make Mark ∷ Part (InExpression Postfix) ∷ Make (Block AssertOf) ∷ Leave ∷ Make (Operand NegateOf) ∷ [])
    ∷ begins kind.Not (Make Mark ∷ Part (InExpression Postfix) ∷ Make (Block NotOf) ∷ Leave ∷ Make (Operand NegateOf) ∷ [])
    ∷ begins kind.UpperName (Make Named ∷ Part (InExpression UpperMore) ∷ Make (Operand NegateOf) ∷ [])
    ∷ otherwise (Part (InExpression OtherAtom) ∷ Part (InExpression PostfixMore) ∷ Part (InExpression ArgumentsMore) ∷ Make (Operand NegateOf) ∷ [])
    ∷ []
-- application ::= "assert" operand | "not" operand | Name operand? | operand operand*
expression_alternatives Application =
    begins kind.Assert (Make Mark ∷ Part (InExpression Postfix) ∷ Make (Block AssertOf) ∷ Leave ∷ [])
    ∷ begins kind.Not (Make Mark ∷ Part (InExpression Postfix) ∷ Make (Block NotOf) ∷ Leave ∷ [])
    ∷ begins kind.UpperName (Make Named ∷ Part (InExpression UpperMore) ∷ [])
    ∷ otherwise (Part (InExpression PlainAtom) ∷ Part (InExpression PostfixMore) ∷ Part (InExpression ArgumentsMore) ∷ [])
    ∷ []
-- what may stand behind an upper name that begins an application
expression_alternatives UpperMore =
    begins kind.Dot (Word kind.LowerName ∷ Make (Operand QualifiedOf) ∷ Part (InExpression PostfixMore) ∷ Part (InExpression ArgumentsMore) ∷ [])
    ∷ begins kind.OpenIndex (Make (Operand ConstantOf) ∷ Part (InExpression Seq) ∷ Word kind.Close ∷ Leave ∷ Make (Operand ElementOf) ∷ Make (Operand FetchOf) ∷ Part (InExpression PostfixMore) ∷ Leave ∷ Part (InExpression ArgumentsMore) ∷ [])
    ∷ before begin_operand (Part (InExpression Postfix) ∷ Make (Operand BuildOf) ∷ [])
    ∷ otherwise (Make (Operand ConstantOf) ∷ [])
    ∷ []
-- what may stand behind what is called, or behind an argument of a call
expression_alternatives ArgumentsMore =
    before begin_operand (Part (InExpression Postfix) ∷ Make (Operand CallOf) ∷ Part (InExpression ArgumentsMore) ∷ Leave ∷ [])
    ∷ otherwise []
    ∷ []
-- operand ::= atom (".(" seq ")")*
expression_alternatives Postfix =
    otherwise (Part (InExpression Atom) ∷ Part (InExpression PostfixMore) ∷ [])
    ∷ []
-- what may stand behind an atom, or behind an index
expression_alternatives PostfixMore =
    begins kind.OpenIndex (Part (InExpression Seq) ∷ Word kind.Close ∷ Leave ∷ Make (Operand ElementOf) ∷ Make (Operand FetchOf) ∷ Part (InExpression PostfixMore) ∷ Leave ∷ [])
    ∷ otherwise []
    ∷ []
-- atom ::= number | "true" | "false" | name | Name "." name | Name | "(" ")" | "(" seq ")" | "begin" seq "end"
--        | "[" (expr (";" expr)* ";"?)? "]"
expression_alternatives Atom =
    begins kind.UpperName (Make Named ∷ Part (InExpression UpperAtom) ∷ [])
    ∷ otherwise (Part (InExpression PlainAtom) ∷ [])
    ∷ []
-- what may stand behind an upper name that begins an atom
expression_alternatives UpperAtom =
    begins kind.Dot (Word kind.LowerName ∷ Make (Operand QualifiedOf) ∷ [])
    ∷ otherwise (Make (Operand ConstantOf) ∷ [])
    ∷ []
-- an atom that begins with no upper name
expression_alternatives PlainAtom =
    begins kind.Number (Make (Operand Literal) ∷ [])
    ∷ otherwise (Part (InExpression OtherAtom) ∷ [])
    ∷ []
-- an atom that begins with no upper name and no number
expression_alternatives OtherAtom =
    begins kind.True (Make (Operand Truth) ∷ [])
    ∷ begins kind.False (Make (Operand Untruth) ∷ [])
    ∷ begins kind.LowerName (Make (Operand UseOf) ∷ [])
    ∷ begins kind.Open (Make Mark ∷ Part (InExpression Inside) ∷ Leave ∷ [])
    ∷ begins kind.OpenBracket (Make (Block NoTrees) ∷ Part (InExpression ListInside) ∷ Make (Block ListLiteral) ∷ Leave ∷ [])
    ∷ begins kind.Begin (Make Mark ∷ Part (InExpression Seq) ∷ Word kind.End ∷ Make (Operand BlockOf) ∷ Leave ∷ [])
    ∷ []
-- what may stand behind the parenthesis of an atom
expression_alternatives Inside =
    begins kind.Close (Make (Operand UnitHere) ∷ [])
    ∷ otherwise (Part (InExpression Seq) ∷ Word kind.Close ∷ Make (Operand Enclosed) ∷ [])
    ∷ []
-- what may stand behind the bracket of a list, or behind a `;` in it
expression_alternatives ListInside =
    begins kind.CloseBracket []
    ∷ otherwise (Part (InExpression Expression) ∷ Make (Block AppendTree) ∷ Part (InExpression ListMore) ∷ [])
    ∷ []
-- what may stand behind an item of a list
expression_alternatives ListMore =
    begins kind.CloseBracket []
    ∷ begins kind.Semicolon (Part (InExpression ListInside) ∷ [])
    ∷ []

-- Patterns.
abbrev pub pattern_alternatives : PatternPart → List Alternative
-- pattern ::= simple | "(" ")" | "[" "]" | simple "::" simple | tuple_pattern | "(" pattern ")"
--           | Name (simple | "(" simple ("," simple)* ")")?
-- tuple_pattern ::= simple ("," simple)+ | "(" simple ("," simple)+ ")"
pattern_alternatives Pattern =
    begins kind.LowerName (Make (Pattern Bind) ∷ Part (InPattern PatternRest) ∷ [])
    ∷ begins kind.Underscore (Make (Pattern Any) ∷ Part (InPattern PatternRest) ∷ [])
    ∷ begins kind.Open (Make Mark ∷ Part (InPattern PatternInner) ∷ Leave ∷ [])
    ∷ begins kind.OpenBracket (Make Mark ∷ Word kind.CloseBracket ∷ Leave ∷ Make (Pattern NilPattern) ∷ [])
    ∷ begins kind.UpperName (Make Named ∷ Make (Pattern NoPatterns) ∷ Part (InPattern PatternArguments) ∷ Make (Pattern BuildPattern) ∷ [])
    ∷ []
-- what may stand behind a simple pattern
pattern_alternatives PatternRest =
    begins kind.DoubleColon (Make Mark ∷ Part (InBinding Simple) ∷ Make (Pattern ConsPattern) ∷ Leave ∷ [])
    ∷ begins kind.Comma (Part (InBinding Simple) ∷ Make (Pattern TwoPatterns) ∷ Part (InPattern PatternTuple) ∷ [])
    ∷ otherwise []
    ∷ []
-- what may stand behind the second member of a tuple pattern, or a further one
pattern_alternatives PatternTuple =
    begins kind.Comma (Part (InBinding Simple) ∷ Make (Pattern AppendPattern) ∷ Part (InPattern PatternTuple) ∷ [])
    ∷ otherwise (Make (Pattern TuplePattern) ∷ [])
    ∷ []
-- what may stand behind the parenthesis of a pattern
pattern_alternatives PatternInner =
    begins kind.Close (Make (Pattern UnitPattern) ∷ [])
    ∷ otherwise (Part (InPattern Pattern) ∷ Word kind.Close ∷ Make (Pattern PatternInside) ∷ [])
    ∷ []
-- what may stand behind the constructor of a pattern
pattern_alternatives PatternArguments =
    begins kind.LowerName (Make (Pattern Bind) ∷ Make (Pattern AppendPattern) ∷ [])
    ∷ begins kind.Underscore (Make (Pattern Any) ∷ Make (Pattern AppendPattern) ∷ [])
    ∷ begins kind.Open (Part (InBinding Simple) ∷ Make (Pattern AppendPattern) ∷ Part (InPattern ArgumentsInside) ∷ Leave ∷ [])
    ∷ otherwise []
    ∷ []
-- what may stand behind an argument in parentheses
pattern_alternatives ArgumentsInside =
    begins kind.Close []
    ∷ begins kind.Comma (Part (InBinding Simple) ∷ Make (Pattern AppendPattern) ∷ Part (InPattern ArgumentsInside) ∷ [])
    ∷ []

-- Qualifiers and measures.
abbrev pub entry_alternatives : EntryPart → List Alternative
-- qualifiers ::= ("qualif" (name | Name) "(" name ":" name ")" ":" pred)*
entry_alternatives Quals =
    otherwise (Make (Entry NoQualifiers) ∷ Part (InEntry QualsMore) ∷ [])
    ∷ []
-- the qualifiers that are left
entry_alternatives QualsMore =
    begins kind.Qualif (Make Mark ∷ Part (InEntry QualifierName) ∷ Part (InEntry QualifierRest) ∷ Part (InEntry QualsMore) ∷ [])
    ∷ otherwise []
    ∷ []
-- what may stand behind `qualif`
entry_alternatives QualifierName =
    begins kind.LowerName (Make Named ∷ [])
    ∷ begins kind.UpperName (Make Named ∷ [])
    ∷ []
-- what may stand behind the name of a qualifier
entry_alternatives QualifierRest =
    begins kind.Open (Word kind.LowerName ∷ Make Named ∷ Word kind.Colon ∷ Word kind.LowerName ∷ Make Named ∷ Word kind.Close ∷ Leave ∷ Word kind.Colon ∷ Part (InPred Predicate) ∷ Make (Entry AddQualifier) ∷ [])
    ∷ []
-- measures ::= ("measure" name ":" name "=" "|"? equation ("|" equation)*)*
entry_alternatives Measures =
    otherwise (Make (Entry NoMeasures) ∷ Part (InEntry MeasuresMore) ∷ [])
    ∷ []
-- the measures that are left
entry_alternatives MeasuresMore =
    begins kind.Measure (Word kind.LowerName ∷ Make Named ∷ Word kind.Colon ∷ Word kind.LowerName ∷ Make Named ∷ Word kind.Equal ∷ Make (Entry NoEquations) ∷ Part (InEntry FirstEquation) ∷ Make (Entry AddMeasure) ∷ Part (InEntry MeasuresMore) ∷ [])
    ∷ otherwise []
    ∷ []
-- what may stand behind the `=` of a measure
entry_alternatives FirstEquation =
    begins kind.Bar (Part (InEntry Equation) ∷ Part (InEntry EquationsMore) ∷ [])
    ∷ otherwise (Part (InEntry Equation) ∷ Part (InEntry EquationsMore) ∷ [])
    ∷ []
-- what may stand behind an equation
entry_alternatives EquationsMore =
    begins kind.Bar (Part (InEntry Equation) ∷ Part (InEntry EquationsMore) ∷ [])
    ∷ otherwise []
    ∷ []
-- equation ::= pattern "->" term
entry_alternatives Equation =
    otherwise (Part (InPattern Pattern) ∷ Word kind.Arrow ∷ Part (InPred Term) ∷ Make (Entry AppendEquation) ∷ [])
    ∷ []

-- Predicates and terms.
abbrev pub pred_alternatives : PredPart → List Alternative
-- pred ::= por ("<=>" por)?
pred_alternatives Predicate =
    otherwise (Part (InPred PredDisjunction) ∷ Part (InPred IffMore) ∷ [])
    ∷ []
-- what may stand behind the left of `<=>`
pred_alternatives IffMore =
    begins kind.Equivalence (Part (InPred PredDisjunction) ∷ Make (Pred IffOf) ∷ Leave ∷ [])
    ∷ otherwise []
    ∷ []
-- por ::= pand ("||" pand)*
pred_alternatives PredDisjunction =
    otherwise (Part (InPred PredConjunction) ∷ Part (InPred PredOrMore) ∷ [])
    ∷ []
-- what may stand behind a member of a disjunction
pred_alternatives PredOrMore =
    begins kind.DoubleBar (Part (InPred PredConjunction) ∷ Make (Pred PredOr) ∷ Part (InPred PredOrMore) ∷ Leave ∷ [])
    ∷ otherwise []
    ∷ []
-- pand ::= pnot ("&&" pnot)*
pred_alternatives PredConjunction =
    otherwise (Part (InPred PredNegation) ∷ Part (InPred PredAndMore) ∷ [])
    ∷ []
-- what may stand behind a member of a conjunction
pred_alternatives PredAndMore =
    begins kind.DoubleAmpersand (Part (InPred PredNegation) ∷ Make (Pred PredAnd) ∷ Part (InPred PredAndMore) ∷ Leave ∷ [])
    ∷ otherwise []
    ∷ []
-- pnot ::= "not" pnot | term (("=" | "<>" | "<" | "<=" | ">" | ">=") term)?
pred_alternatives PredNegation =
    begins kind.Not (Make Mark ∷ Part (InPred PredNegation) ∷ Make (Pred PredNot) ∷ Leave ∷ [])
    ∷ otherwise (Part (InPred Term) ∷ Part (InPred PredCompareMore) ∷ [])
    ∷ []
-- what may stand behind the left of a comparison
pred_alternatives PredCompareMore =
    begins kind.Equal (Part (InPred Term) ∷ Make (Pred (PredCompare compare.Eq)) ∷ Leave ∷ [])
    ∷ begins kind.NotEqual (Part (InPred Term) ∷ Make (Pred (PredCompare compare.Ne)) ∷ Leave ∷ [])
    ∷ begins kind.Less (Part (InPred Term) ∷ Make (Pred (PredCompare compare.Lt)) ∷ Leave ∷ [])
    ∷ begins kind.LessEqual (Part (InPred Term) ∷ Make (Pred (PredCompare compare.Le)) ∷ Leave ∷ [])
    ∷ begins kind.Greater (Part (InPred Term) ∷ Make (Pred (PredCompare compare.Gt)) ∷ Leave ∷ [])
    ∷ begins kind.GreaterEqual (Part (InPred Term) ∷ Make (Pred (PredCompare compare.Ge)) ∷ Leave ∷ [])
    ∷ otherwise []
    ∷ []
-- term ::= tfactor (("+" | "-") tfactor)*
pred_alternatives Term =
    otherwise (Part (InPred TermProduct) ∷ Part (InPred TermAddMore) ∷ [])
    ∷ []
-- what may stand behind a member of a sum
pred_alternatives TermAddMore =
    begins kind.Plus (Part (InPred TermProduct) ∷ Make (Pred (PredArith arith.Add)) ∷ Part (InPred TermAddMore) ∷ Leave ∷ [])
    ∷ begins kind.Minus (Part (InPred TermProduct) ∷ Make (Pred (PredArith arith.Sub)) ∷ Part (InPred TermAddMore) ∷ Leave ∷ [])
    ∷ otherwise []
    ∷ []
-- tfactor ::= tnegation (("*" | "/" | "mod") tnegation)*
pred_alternatives TermProduct =
    otherwise (Part (InPred TermNegation) ∷ Part (InPred TermMulMore) ∷ [])
    ∷ []
-- what may stand behind a member of a product
pred_alternatives TermMulMore =
    begins kind.Star (Part (InPred TermNegation) ∷ Make (Pred (PredArith arith.Mul)) ∷ Part (InPred TermMulMore) ∷ Leave ∷ [])
    ∷ begins kind.Slash (Part (InPred TermNegation) ∷ Make (Pred (PredArith arith.Div)) ∷ Part (InPred TermMulMore) ∷ Leave ∷ [])
    ∷ begins kind.Mod (Part (InPred TermNegation) ∷ Make (Pred (PredArith arith.Mod)) ∷ Part (InPred TermMulMore) ∷ Leave ∷ [])
    ∷ otherwise []
    ∷ []
-- tnegation ::= "-" tnegation | tatom
pred_alternatives TermNegation =
    begins kind.Minus (Make Mark ∷ Part (InPred AfterTermMinus) ∷ Leave ∷ [])
    ∷ otherwise (Part (InPred TermAtom) ∷ [])
    ∷ []
-- what may stand behind a unary minus: a number makes a negative literal with it, also the limit of literals
pred_alternatives AfterTermMinus =
    begins kind.Number (Make (Pred PredNegative) ∷ [])
    ∷ begins kind.LimitNumber (Make (Pred PredNegative) ∷ [])
    ∷ begins kind.Minus (Make Mark ∷ Part (InPred AfterTermMinus) ∷ Leave ∷ Make (Pred PredNegate) ∷ [])
    ∷ otherwise (Part (InPred OtherTermAtom) ∷ Make (Pred PredNegate) ∷ [])
    ∷ []
-- tatom ::= number | "true" | "false" | name tatom? | Name | Name "." name tatom | "(" pred ")"
pred_alternatives TermAtom =
    begins kind.Number (Make (Pred PredLiteral) ∷ [])
    ∷ otherwise (Part (InPred OtherTermAtom) ∷ [])
    ∷ []
-- an atom that begins with no number
pred_alternatives OtherTermAtom =
    begins kind.True (Make (Pred PredTruth) ∷ [])
    ∷ begins kind.False (Make (Pred PredUntruth) ∷ [])
    ∷ begins kind.LowerName (Make Named ∷ Part (InPred TermArgument) ∷ [])
    ∷ begins kind.UpperName (Make Named ∷ Part (InPred UpperTerm) ∷ [])
    ∷ begins kind.Open (Make Mark ∷ Part (InPred Predicate) ∷ Word kind.Close ∷ Make (Pred PredInside) ∷ Leave ∷ [])
    ∷ []
-- what may stand behind a lower name: the argument of a measure
pred_alternatives TermArgument =
    before begin_argument (Part (InPred TermAtom) ∷ Make (Pred PredApply) ∷ Leave ∷ [])
    ∷ otherwise (Make (Pred PredUse) ∷ [])
    ∷ []
-- what may stand behind an upper name
pred_alternatives UpperTerm =
    begins kind.Dot (Word kind.LowerName ∷ Make Named ∷ Part (InPred QualifiedArgument) ∷ [])
    ∷ otherwise (Make (Pred PredPlaceholder) ∷ [])
    ∷ []
-- what may stand behind a qualified name: its argument
pred_alternatives QualifiedArgument =
    otherwise (Part (InPred TermAtom) ∷ Make (Pred PredQualified) ∷ Leave ∷ [])
    ∷ []

-- the alternatives of each part
abbrev pub alternatives : Rule → List Alternative
alternatives (InProgram p) = program_alternatives p
alternatives (InType p) = type_alternatives p
alternatives (InBinding p) = binding_alternatives p
alternatives (InExpression p) = expression_alternatives p
alternatives (InPattern p) = pattern_alternatives p
alternatives (InEntry p) = entry_alternatives p
alternatives (InPred p) = pred_alternatives p
