-- What is said of each part of the grammars: what it puts on the values is what a line of the grammar reads.
use Rattle.std.proofs.Common.{◌≡◌, ℕ, List, [], ◌∷◌, ◌++◌}
use Rattle.lq_base_names.specs.declared.place.Place.{Place}
use Rattle.lq_text_grammar.specs.declared.kind.Kind.TheVariants as kind
use Rattle.lq_text_grammar.specs.declared.rule.Rule.TheVariants.{InProgram, InType, InBinding, InExpression, InPattern, InEntry, InPred}
use Rattle.lq_text_grammar.specs.declared.rule.ProgramPart.TheVariants.{Items, Item, LetItem, TypeHead, TypeParameters, TypeBody, FirstConstructor, ConstructorsMore, Constructor, ConstructorFields, FieldsMore}
use Rattle.lq_text_grammar.specs.declared.rule.TypePart.TheVariants.{WholeType, TypeProduct, ProductMore, TypeApplied, TypeNames, TypesMore}
use Rattle.lq_text_grammar.specs.declared.rule.BindingPart.TheVariants.{RecBind, RecFirst, LetTail, LetRest, FunTail, FunRest, Parameter, ParameterInside, SimplesInside, Simple}
use Rattle.lq_text_grammar.specs.declared.rule.ExpressionPart.TheVariants.{Seq, SeqMore, Expression, LetHead, AfterLetName, AfterLetAny, LetTuple, LetInside, FirstArm, ArmsMore, Arm, UpperHead, HeadMore, IndexTail, AfterIndexed, CallRest, OperandRest, TupleTail, TupleMore, Disjunction, OrMore, Conjunction, AndMore, Comparison, CompareMore, ConsChain, ConsMore, Sum, AddMore, Product, MulMore, Negation, AfterMinus, Application, UpperMore, ArgumentsMore, Postfix, PostfixMore, Atom, UpperAtom, PlainAtom, OtherAtom, ListInside}
use Rattle.lq_text_grammar.specs.declared.rule.PatternPart.TheVariants.{Pattern as PatternPart, PatternRest, PatternTuple, PatternArguments, ArgumentsInside}
use Rattle.lq_text_grammar.specs.declared.rule.EntryPart.TheVariants.{QualsMore, QualifierName, QualifierRest, MeasuresMore, FirstEquation, EquationsMore, Equation}
use Rattle.lq_text_grammar.specs.declared.rule.PredPart.TheVariants.{Predicate, IffMore, PredDisjunction, PredOrMore, PredConjunction, PredAndMore, PredNegation, PredCompareMore, Term, TermAddMore, TermProduct, TermMulMore, TermNegation, AfterTermMinus, TermAtom, OtherTermAtom, TermArgument, UpperTerm, QualifiedArgument}
use Rattle.lq_text_tree.specs.Items.{Named, Construct, ItemTree, type_of}
use Rattle.lq_text_tree.specs.MeasureTrees.{EquationTree, MeasureTree}
use Rattle.lq_text_tree.specs.Pattern.{Pattern, pattern, any, bind, tuple_of, build_of}
use Rattle.lq_text_tree.specs.PatternView.{patterns_of}
use Rattle.lq_text_tree.specs.PredTree.{PredTree, pred_tree, qualified}
use Rattle.lq_text_tree.specs.Qualifiers.{QualifierTree}
use Rattle.lq_text_tree.specs.Tree.{Tree}
use Rattle.lq_text_tree.specs.TreeView.{Case, Recursive}
use Rattle.lq_text_tree.specs.TypeTree.{TypeTree, type_tree, apply}
use Rattle.lq_text_tree.specs.TypeView.{type_trees_of}
use Rattle.lq_text_actions.specs.Value.{Lexeme, Commas, Value, mark, named, expression, expressions, element, arms, recursive, pattern_read, patterns, type_read, types, parameters, constructors, items, predicate, qualifiers, equations, measures}
use Rattle.lq_text_parser.specs.Syntax.Expressions as ex
use Rattle.lq_text_parser.specs.Syntax.Expressions.{Reads, Where, first, later, Level, IsCallee}
use Rattle.lq_text_parser.specs.Syntax.Items as it
use Rattle.lq_text_parser.specs.Syntax.Items.{ReadsDefinition, ReadsItem, ReadsItems}
use Rattle.lq_text_parser.specs.Syntax.Patterns as pa
use Rattle.lq_text_parser.specs.Syntax.Patterns.{ReadsPattern, a_simple, a_parameter, a_pattern}
use Rattle.lq_text_parser.specs.Syntax.Predicates as pr
use Rattle.lq_text_parser.specs.Syntax.Predicates.{ReadsPred, ReadsQualifiers, ReadsEquations, ReadsMeasures}
use Rattle.lq_text_parser.specs.Syntax.Tokens.{Token, place_at, Is, IsName, Stops, Maybe}
use Rattle.lq_text_parser.specs.Syntax.Types as ty
use Rattle.lq_text_parser.specs.Syntax.Types.{ReadsType}
use Rattle.lq_text_parser.proofs.SyntaxLemmas.Doing.{State, state, Meaning, Unfolded}

-- what stands on top
abbrev pub on_mark : List Value → (Place → List Value → Type 0) → Type 0
on_mark (mark p ∷ vs) f = f p vs
on_mark _ f = Unit {0}

abbrev pub on_name : List Value → (ℕ → Place → List Value → Type 0) → Type 0
on_name (named x p ∷ vs) f = f x p vs
on_name _ f = Unit {0}

abbrev pub on_tree : List Value → (Tree → Place → Commas → List Value → Type 0) → Type 0
on_tree (expression a p c ∷ vs) f = f a p c vs
on_tree _ f = Unit {0}

abbrev pub on_trees : List Value → (List Tree → Place → List Value → Type 0) → Type 0
on_trees (expressions es p ∷ vs) f = f es p vs
on_trees _ f = Unit {0}

abbrev pub on_element : List Value → (Tree → Tree → Place → List Value → Type 0) → Type 0
on_element (element a i p ∷ vs) f = f a i p vs
on_element _ f = Unit {0}

abbrev pub on_arms : List Value → (List Case → List Value → Type 0) → Type 0
on_arms (arms rs ∷ vs) f = f rs vs
on_arms _ f = Unit {0}

abbrev pub on_pattern : List Value → (Pattern → List Value → Type 0) → Type 0
on_pattern (pattern_read a ∷ vs) f = f a vs
on_pattern _ f = Unit {0}

abbrev pub on_patterns : List Value → (List Pattern → Place → List Value → Type 0) → Type 0
on_patterns (patterns ps p ∷ vs) f = f ps p vs
on_patterns _ f = Unit {0}

abbrev pub on_type : List Value → (TypeTree → Place → List Value → Type 0) → Type 0
on_type (type_read a p ∷ vs) f = f a p vs
on_type _ f = Unit {0}

abbrev pub on_types : List Value → (List TypeTree → Place → List Value → Type 0) → Type 0
on_types (types rs p ∷ vs) f = f rs p vs
on_types _ f = Unit {0}

abbrev pub on_parameters : List Value → (List Named → List Value → Type 0) → Type 0
on_parameters (parameters ps ∷ vs) f = f ps vs
on_parameters _ f = Unit {0}

abbrev pub on_constructors : List Value → (List Construct → List Value → Type 0) → Type 0
on_constructors (constructors cs ∷ vs) f = f cs vs
on_constructors _ f = Unit {0}

abbrev pub on_items : List Value → (List ItemTree → List Value → Type 0) → Type 0
on_items (items is ∷ vs) f = f is vs
on_items _ f = Unit {0}

abbrev pub on_pred : List Value → (PredTree → Place → List Value → Type 0) → Type 0
on_pred (predicate a p ∷ vs) f = f a p vs
on_pred _ f = Unit {0}

abbrev pub on_qualifiers : List Value → (List QualifierTree → List Value → Type 0) → Type 0
on_qualifiers (qualifiers qs ∷ vs) f = f qs vs
on_qualifiers _ f = Unit {0}

abbrev pub on_equations : List Value → (List EquationTree → List Value → Type 0) → Type 0
on_equations (equations es ∷ vs) f = f es vs
on_equations _ f = Unit {0}

abbrev pub on_measures : List Value → (List MeasureTree → List Value → Type 0) → Type 0
on_measures (measures ms ∷ vs) f = f ms vs
on_measures _ f = Unit {0}

-- what is put there
abbrev pub GivesType : (TypeTree → List Token → Type 0) → Place → ℕ → List Value → (State → Type 0) → Type 0
GivesType R p n vs K = (a : TypeTree) × (us : List Token) × (l : Lexeme) × R a us × K (state us l n (type_read a p ∷ vs))

abbrev pub GivesPattern : (Pattern → List Token → Type 0) → ℕ → List Value → (State → Type 0) → Type 0
GivesPattern R n vs K = (a : Pattern) × (us : List Token) × (l : Lexeme) × R a us × K (state us l n (pattern_read a ∷ vs))

abbrev pub GivesPred : (PredTree → List Token → Type 0) → Place → ℕ → List Value → (State → Type 0) → Type 0
GivesPred R p n vs K = (a : PredTree) × (us : List Token) × (l : Lexeme) × R a us × K (state us l n (predicate a p ∷ vs))

abbrev pub GivesTree : (Tree → Commas → ℕ → List Token → Type 0) → Place → List Value → (State → Type 0) → Type 0
GivesTree R p vs K = (a : Tree) × (c : Commas) × (m : ℕ) × (us : List Token) × (l : Lexeme) × R a c m us × K (state us l m (expression a p c ∷ vs))

-- an expression whose place isn't asked for
abbrev pub GivesBody : (Tree → Commas → ℕ → List Token → Type 0) → List Value → (State → Type 0) → Type 0
GivesBody R vs K = (a : Tree) × (c : Commas) × (m : ℕ) × (us : List Token) × (l : Lexeme) × (p : Place) × R a c m us × K (state us l m (expression a p c ∷ vs))

abbrev pub GivesTrees : (List Tree → ℕ → List Token → Type 0) → Place → List Value → (State → Type 0) → Type 0
GivesTrees R p vs K = (es : List Tree) × (m : ℕ) × (us : List Token) × (l : Lexeme) × R es m us × K (state us l m (expressions es p ∷ vs))

abbrev pub GivesPatterns : (List Pattern → List Token → Type 0) → Place → ℕ → List Value → (State → Type 0) → Type 0
GivesPatterns R p n vs K = (ps : List Pattern) × (us : List Token) × (l : Lexeme) × R ps us × K (state us l n (patterns ps p ∷ vs))

abbrev pub GivesTypes : (List TypeTree → List Token → Type 0) → Place → ℕ → List Value → (State → Type 0) → Type 0
GivesTypes R p n vs K = (rs : List TypeTree) × (us : List Token) × (l : Lexeme) × R rs us × K (state us l n (types rs p ∷ vs))

-- what an operand that begins where a was read goes on to
abbrev pub Lifts : Level → Level → ℕ → List Token → Tree → Place → Commas → List Value → (State → Type 0) → Type 0
Lifts l h n ts a p c vs K =
    GivesTree (λ b d m us. (w : Where) (k : ℕ) (os : List Token) → place_at os ≡ p → Reads (ex.line l w a c) k os n ts → Reads (ex.line h w b d) k os m us) p vs K

abbrev pub LiftsPred : pr.Level → pr.Level → List Token → PredTree → Place → ℕ → List Value → (State → Type 0) → Type 0
LiftsPred l h ts a p n vs K =
    GivesPred (λ b us. (os : List Token) → place_at os ≡ p → ReadsPred (pr.line l a) os ts → ReadsPred (pr.line h b) os us) p n vs K

-- an array and an index, read from a place on
pub data Indexed : ℕ → List Token → Tree → Tree → ℕ → List Token → Type 0 where
  is_indexed : {a x b y : Tree} {c d : Commas} {t u : Token} {n i j k : ℕ} {ts us vs ws : List Token}
      → Reads (ex.an_atom a c) n ts i (t ∷ us) → Is kind.OpenIndex t → Reads (ex.a_seq x d) i us j (u ∷ vs) → Is kind.Close u
      → Reads (ex.indexes (place_at ts) a x b y) j vs k ws
      → Indexed n ts b y k ws

-- a row of types in parentheses, and the names behind it
abbrev pub TypesRead : List TypeTree → Place → TypeTree → List Token → List Token → Type 0
TypesRead bs p d ts us =
    (cs : List TypeTree) × (x : ℕ) × (v : Token) × (xs : List Token) × ReadsType (ty.inside bs cs) ts (v ∷ xs) × IsName kind.LowerName x v
    × ReadsType (ty.names p (type_tree p (apply (type_trees_of cs) x v.place)) d) xs us

-- the right side of a `let` behind a tuple without parentheses
abbrev pub TupleBound : List Pattern → List Pattern → Tree → Commas → ℕ → List Token → ℕ → List Token → Type 0
TupleBound ps qs e c n ts m ws =
    (u : Token) × (us : List Token) × ReadsPattern (pa.members ps qs) ts (u ∷ us) × Is kind.Equal u × Reads (ex.a_seq e c) n us m ws

-- the definition of a type, where its parameters and its name stand before these tokens
abbrev pub TypeBound : ℕ → Place → List Named → Place → List Construct → ℕ → List Token → List Token → Type 0
TypeBound x o ps p cs n ts us =
    (t u : Token) (vs : List Token) → Is kind.Type t → t.place ≡ p → ReadsDefinition (it.parameters ps) vs (u ∷ ts) → IsName kind.LowerName x u → u.place ≡ o
    → ReadsItem (record { place = p; form = type_of (record { name = x; place = o; parameters = ps; constructors = cs }) }) n (t ∷ vs) n us

-- What is said of a part; of one that isn't named here, what its alternatives say.
abbrev pub base : Meaning → Meaning
-- types
base N (InType WholeType) s K = GivesType (λ a us. ReadsType (ty.a_type a) s.tokens us) (place_at s.tokens) s.nodes s.values K
base N (InType TypeProduct) s K = GivesType (λ a us. ReadsType (ty.a_product a) s.tokens us) (place_at s.tokens) s.nodes s.values K
base N (InType TypeApplied) s K = GivesType (λ a us. ReadsType (ty.an_applied a) s.tokens us) (place_at s.tokens) s.nodes s.values K
base N (InType ProductMore) s K = on_types s.values (λ bs p vs. GivesTypes (λ cs us. ReadsType (ty.members bs cs) s.tokens us) p s.nodes vs K)
base N (InType TypeNames) s K = on_type s.values (λ a p vs. GivesType (λ b us. ReadsType (ty.names p a b) s.tokens us) p s.nodes vs K)
base N (InType TypesMore) s K = on_types s.values (λ bs o ws. on_mark ws (λ p vs. GivesType (λ d us. TypesRead bs p d s.tokens us) p s.nodes vs K))
-- patterns
base N (InBinding Simple) s K = GivesPattern (λ a us. ReadsPattern (a_simple a) s.tokens us) s.nodes s.values K
base N (InBinding Parameter) s K = GivesPattern (λ a us. ReadsPattern (a_parameter a) s.tokens us) s.nodes s.values K
base N (InPattern PatternPart) s K = GivesPattern (λ a us. ReadsPattern (a_pattern a) s.tokens us) s.nodes s.values K
base N (InBinding ParameterInside) s K = on_mark s.values (λ p vs. GivesPattern (λ a us. (t : Token) → Is kind.Open t → t.place ≡ p → ReadsPattern (a_parameter a) (t ∷ s.tokens) us) s.nodes vs K)
base N (InBinding SimplesInside) s K = on_patterns s.values (λ ps p vs. GivesPatterns (λ qs us. ReadsPattern (pa.inside ps qs) s.tokens us) p s.nodes vs K)
base N (InPattern ArgumentsInside) s K = on_patterns s.values (λ ps p vs. GivesPatterns (λ qs us. ReadsPattern (pa.inside ps qs) s.tokens us) p s.nodes vs K)
base N (InPattern PatternTuple) s K = on_patterns s.values (λ ps p vs. GivesPattern (λ a us. (qs : List Pattern) × (a ≡ pattern p (tuple_of (patterns_of qs))) × ReadsPattern (pa.members ps qs) s.tokens us) s.nodes vs K)
base N (InPattern PatternRest) s K = on_pattern s.values (λ a vs. GivesPattern (λ b us. (os : List Token) → ReadsPattern (a_simple a) os s.tokens → ReadsPattern (a_pattern b) os us) s.nodes vs K)
base N (InPattern PatternArguments) s K = on_patterns s.values (λ ps p vs. GivesPatterns (λ qs us. ps ≡ [] → (t : Token) (c : ℕ) → IsName kind.UpperName c t → ReadsPattern (a_pattern (pattern t.place (build_of c t.place (patterns_of qs)))) (t ∷ s.tokens) us) p s.nodes vs K)
-- expressions
base N (InExpression Seq) s K = GivesTree (λ a c m us. Reads (ex.a_seq a c) s.nodes s.tokens m us) (place_at s.tokens) s.values K
base N (InExpression SeqMore) s K = on_trees s.values (λ es p vs. GivesTrees (λ fs m us. Reads (ex.row es fs) s.nodes s.tokens m us) p vs K)
base N (InExpression Expression) s K = GivesTree (λ a c m us. Reads (ex.an_expression a c) s.nodes s.tokens m us) (place_at s.tokens) s.values K
base N (InExpression LetHead) s K = on_mark s.values (λ p vs. GivesTree (λ a c m us. (t : Token) → Is kind.Let t → t.place ≡ p → Reads (ex.an_expression a c) s.nodes (t ∷ s.tokens) m us) p vs K)
base N (InExpression LetTuple) s K = on_patterns s.values (λ ps p vs. (qs : List Pattern) × GivesBody (λ a c m us. TupleBound ps qs a c s.nodes s.tokens m us) (pattern_read (pattern p (tuple_of (patterns_of qs))) ∷ vs) K)
base N (InBinding LetTail) s K = GivesBody (λ a c m us. Reads (ex.a_tail kind.Equal a) s.nodes s.tokens m us) s.values K
base N (InBinding FunTail) s K = GivesBody (λ a c m us. Reads (ex.a_tail kind.Arrow a) s.nodes s.tokens m us) s.values K
base N (InBinding RecBind) s K = (f : ℕ) × (r : Recursive) × (m : ℕ) × (us : List Token) × (l : Lexeme) × Reads (ex.a_recursive f r) s.nodes s.tokens m us × K (state us l m (recursive f r ∷ s.values))
base N (InExpression Arm) s K = on_arms s.values (λ rs vs. (a : Case) × (m : ℕ) × (us : List Token) × (l : Lexeme) × ((ps qs : List Case) (k : ℕ) (ws : List Token) → Reads (ex.more_arms (ps ++ a ∷ []) qs) m us k ws → Reads (ex.arms ps qs) s.nodes s.tokens k ws) × K (state us l m (arms (rs ++ a ∷ []) ∷ vs)))
base N (InExpression ArmsMore) s K = on_arms s.values (λ rs vs. (bs : List Case) × (m : ℕ) × (us : List Token) × (l : Lexeme) × Reads (ex.more_arms rs bs) s.nodes s.tokens m us × K (state us l m (arms bs ∷ vs)))
base N (InExpression UpperHead) s K = on_name s.values (λ x p vs. GivesTree (λ a c m us. (t : Token) → IsName kind.UpperName x t → t.place ≡ p → Reads (ex.an_expression a c) s.nodes (t ∷ s.tokens) m us) p vs K)
base N (InExpression HeadMore) s K = on_tree s.values (λ a p c vs. GivesTree (λ b d m us. (k : ℕ) (os : List Token) → place_at os ≡ p → IsCallee os → Reads (ex.an_atom a c) k os s.nodes s.tokens → Reads (ex.an_expression b d) k os m us) p vs K)
base N (InExpression IndexTail) s K = on_element s.values (λ a x p vs. (b : Tree) × (y : Tree) × (m : ℕ) × (us : List Token) × (l : Lexeme) × Reads (ex.indexes p a x b y) s.nodes s.tokens m us × Stops (kind.OpenIndex ∷ []) us × K (state us l m (element b y p ∷ vs)))
base N (InExpression AfterIndexed) s K = on_element s.values (λ a x p vs. GivesTree (λ b d m us. (k : ℕ) (os : List Token) → place_at os ≡ p → IsCallee os → Stops (kind.OpenIndex ∷ []) s.tokens → Indexed k os a x s.nodes s.tokens → Reads (ex.an_expression b d) k os m us) p vs K)
base N (InExpression CallRest) s K = on_tree s.values (λ a p c vs. GivesTree (λ b d m us. (k : ℕ) (os : List Token) → place_at os ≡ p → IsCallee os → Reads (ex.an_operand first a c) k os s.nodes s.tokens → Reads (ex.an_expression b d) k os m us) p vs K)
base N (InExpression OperandRest) s K = on_tree s.values (λ a p c vs. GivesTree (λ b d m us. (k : ℕ) (os : List Token) → place_at os ≡ p → Reads (ex.line ex.negation first a c) k os s.nodes s.tokens → Reads (ex.an_expression b d) k os m us) p vs K)
base N (InExpression TupleTail) s K = on_tree s.values (λ a p c vs. GivesTree (λ b d m us. (k : ℕ) (os : List Token) → place_at os ≡ p → Reads (ex.line ex.disjunction first a c) k os s.nodes s.tokens → Reads (ex.an_expression b d) k os m us) p vs K)
base N (InExpression TupleMore) s K = on_trees s.values (λ es p vs. GivesTrees (λ fs m us. Reads (ex.members es fs) s.nodes s.tokens m us) p vs K)
base N (InExpression Disjunction) s K = GivesTree (λ a c m us. Reads (ex.line ex.disjunction later a c) s.nodes s.tokens m us) (place_at s.tokens) s.values K
base N (InExpression Conjunction) s K = GivesTree (λ a c m us. Reads (ex.line ex.conjunction later a c) s.nodes s.tokens m us) (place_at s.tokens) s.values K
base N (InExpression Comparison) s K = GivesTree (λ a c m us. Reads (ex.line ex.comparison later a c) s.nodes s.tokens m us) (place_at s.tokens) s.values K
base N (InExpression ConsChain) s K = GivesTree (λ a c m us. Reads (ex.line ex.cons later a c) s.nodes s.tokens m us) (place_at s.tokens) s.values K
base N (InExpression Sum) s K = GivesTree (λ a c m us. Reads (ex.line ex.sum later a c) s.nodes s.tokens m us) (place_at s.tokens) s.values K
base N (InExpression Product) s K = GivesTree (λ a c m us. Reads (ex.line ex.factor later a c) s.nodes s.tokens m us) (place_at s.tokens) s.values K
base N (InExpression Negation) s K = GivesTree (λ a c m us. Reads (ex.line ex.negation later a c) s.nodes s.tokens m us) (place_at s.tokens) s.values K
base N (InExpression OrMore) s K = on_tree s.values (λ a p c vs. Lifts ex.conjunction ex.disjunction s.nodes s.tokens a p c vs K)
base N (InExpression AndMore) s K = on_tree s.values (λ a p c vs. Lifts ex.comparison ex.conjunction s.nodes s.tokens a p c vs K)
base N (InExpression CompareMore) s K = on_tree s.values (λ a p c vs. Lifts ex.cons ex.comparison s.nodes s.tokens a p c vs K)
base N (InExpression ConsMore) s K = on_tree s.values (λ a p c vs. Lifts ex.sum ex.cons s.nodes s.tokens a p c vs K)
base N (InExpression AddMore) s K = on_tree s.values (λ a p c vs. GivesTree (λ b d m us. Reads (ex.chain_at ex.sum p a c b d) s.nodes s.tokens m us) p vs K)
base N (InExpression MulMore) s K = on_tree s.values (λ a p c vs. GivesTree (λ b d m us. Reads (ex.chain_at ex.factor p a c b d) s.nodes s.tokens m us) p vs K)
base N (InExpression AfterMinus) s K = on_mark s.values (λ p vs. GivesTree (λ a c m us. Reads (ex.behind_minus p a c) s.nodes s.tokens m us) p vs K)
base N (InExpression Application) s K = GivesTree (λ a c m us. Reads (ex.an_application later a c) s.nodes s.tokens m us) (place_at s.tokens) s.values K
base N (InExpression UpperMore) s K = on_name s.values (λ x p vs. GivesTree (λ a c m us. (t : Token) → IsName kind.UpperName x t → t.place ≡ p → Reads (ex.an_application later a c) s.nodes (t ∷ s.tokens) m us) p vs K)
base N (InExpression ArgumentsMore) s K = on_tree s.values (λ a p c vs. GivesTree (λ b d m us. Reads (ex.arguments_of p a c b d) s.nodes s.tokens m us) p vs K)
base N (InExpression Postfix) s K = GivesTree (λ a c m us. Reads (ex.an_operand later a c) s.nodes s.tokens m us) (place_at s.tokens) s.values K
base N (InExpression PostfixMore) s K = on_tree s.values (λ a p c vs. GivesTree (λ b d m us. Reads (ex.behind_atom later p a c b d) s.nodes s.tokens m us) p vs K)
base N (InExpression Atom) s K = GivesTree (λ a c m us. Reads (ex.an_atom a c) s.nodes s.tokens m us) (place_at s.tokens) s.values K
base N (InExpression PlainAtom) s K = GivesTree (λ a c m us. Stops (kind.UpperName ∷ []) s.tokens × Reads (ex.an_atom a c) s.nodes s.tokens m us) (place_at s.tokens) s.values K
base N (InExpression OtherAtom) s K = GivesTree (λ a c m us. Stops (kind.UpperName ∷ kind.Number ∷ kind.LimitNumber ∷ []) s.tokens × Reads (ex.an_atom a c) s.nodes s.tokens m us) (place_at s.tokens) s.values K
base N (InExpression ListInside) s K = on_trees s.values (λ es p vs. GivesTrees (λ fs m us. Reads (ex.items es fs) s.nodes s.tokens m us) p vs K)
base N (InBinding LetRest) s K = on_pattern s.values (λ p vs. GivesBody (λ b c m us. (os : List Token) → ReadsPattern (a_parameter p) os s.tokens → Reads (ex.a_tail kind.Equal b) s.nodes os m us) vs K)
base N (InBinding FunRest) s K = on_pattern s.values (λ p vs. GivesBody (λ b c m us. (os : List Token) → ReadsPattern (a_parameter p) os s.tokens → Reads (ex.a_tail kind.Arrow b) s.nodes os m us) vs K)
base N (InBinding RecFirst) s K = on_name s.values (λ f p vs. (r : Recursive) × (m : ℕ) × (us : List Token) × (l : Lexeme) × ((t : Token) → IsName kind.LowerName f t → Reads (ex.a_recursive f r) s.nodes (t ∷ s.tokens) m us) × K (state us l m (recursive f r ∷ vs)))
base N (InExpression AfterLetName) s K = on_pattern s.values (λ a vs. (q : Pattern) × GivesBody (λ b c m us. (t : Token) (x : ℕ) → IsName kind.LowerName x t → a ≡ pattern t.place (bind x) → Reads (ex.a_binding q b) s.nodes (t ∷ s.tokens) m us) (pattern_read q ∷ vs) K)
base N (InExpression AfterLetAny) s K = on_pattern s.values (λ a vs. (q : Pattern) × GivesBody (λ b c m us. (t : Token) → Is kind.Underscore t → a ≡ pattern t.place any → Reads (ex.a_binding q b) s.nodes (t ∷ s.tokens) m us) (pattern_read q ∷ vs) K)
base N (InExpression LetInside) s K = on_mark s.values (λ p vs. GivesPattern (λ a us. (t : Token) → Is kind.Open t → t.place ≡ p → (k : ℕ) (v : Token) (os : List Token) (b : Tree) (c : Commas) (m : ℕ) (ws : List Token) → us ≡ v ∷ os → Is kind.Equal v → Reads (ex.a_seq b c) k os m ws → Reads (ex.a_binding a b) k (t ∷ s.tokens) m ws) s.nodes vs K)
base N (InExpression FirstArm) s K = on_arms s.values (λ rs vs. (bs : List Case) × (m : ℕ) × (us : List Token) × (ws : List Token) × (l : Lexeme) × Maybe kind.Bar s.tokens us × Reads (ex.arms rs bs) s.nodes us m ws × K (state ws l m (arms bs ∷ vs)))
base N (InExpression UpperAtom) s K = on_name s.values (λ x p vs. GivesTree (λ a c m us. (t : Token) → IsName kind.UpperName x t → t.place ≡ p → Reads (ex.an_atom a c) s.nodes (t ∷ s.tokens) m us) p vs K)
-- items
base N (InProgram Items) s K = on_items s.values (λ is vs. (js : List ItemTree) × (m : ℕ) × (us : List Token) × (l : Lexeme) × ReadsItems is js s.nodes s.tokens m us × K (state us l m (items js ∷ vs)))
base N (InProgram Item) s K = on_items s.values (λ is vs. (i : ItemTree) × (m : ℕ) × (us : List Token) × (l : Lexeme) × ReadsItem i s.nodes s.tokens m us × K (state us l m (items (is ++ i ∷ []) ∷ vs)))
base N (InProgram LetItem) s K = on_mark s.values (λ p ws. on_items ws (λ is vs. (i : ItemTree) × (m : ℕ) × (us : List Token) × (l : Lexeme) × ((t : Token) → Is kind.Let t → t.place ≡ p → ReadsItem i s.nodes (t ∷ s.tokens) m us) × K (state us l m (items (is ++ i ∷ []) ∷ vs))))
base N (InProgram TypeHead) s K = on_mark s.values (λ p ws. on_items ws (λ is vs. (i : ItemTree) × (us : List Token) × (l : Lexeme) × ((t : Token) → Is kind.Type t → t.place ≡ p → ReadsItem i s.nodes (t ∷ s.tokens) s.nodes us) × K (state us l s.nodes (items (is ++ i ∷ []) ∷ vs))))
base N (InProgram TypeBody) s K = on_name s.values (λ x o ws. on_parameters ws (λ ps xs. on_mark xs (λ p ys. on_items ys (λ is vs. (cs : List Construct) × (us : List Token) × (l : Lexeme) × TypeBound x o ps p cs s.nodes s.tokens us × K (state us l s.nodes (items (is ++ (record { place = p; form = type_of (record { name = x; place = o; parameters = ps; constructors = cs }) }) ∷ []) ∷ vs))))))
base N (InProgram TypeParameters) s K = on_parameters s.values (λ ps vs. (qs : List Named) × (us : List Token) × (l : Lexeme) × ReadsDefinition (it.more_parameters ps qs) s.tokens us × K (state us l s.nodes (parameters qs ∷ vs)))
base N (InProgram FirstConstructor) s K = on_constructors s.values (λ cs vs. (ds : List Construct) × (us : List Token) × (ws : List Token) × (l : Lexeme) × Maybe kind.Bar s.tokens us × ReadsDefinition (it.constructors cs ds) us ws × K (state ws l s.nodes (constructors ds ∷ vs)))
base N (InProgram Constructor) s K = on_constructors s.values (λ cs vs. (c : Construct) × (us : List Token) × (l : Lexeme) × ((ds rs : List Construct) (ws : List Token) → ReadsDefinition (it.more_constructors (ds ++ c ∷ []) rs) us ws → ReadsDefinition (it.constructors ds rs) s.tokens ws) × K (state us l s.nodes (constructors (cs ++ c ∷ []) ∷ vs)))
base N (InProgram ConstructorFields) s K = on_types s.values (λ bs p vs. GivesTypes (λ cs us. bs ≡ [] → ReadsDefinition (it.fields cs) s.tokens us) p s.nodes vs K)
base N (InProgram ConstructorsMore) s K = on_constructors s.values (λ cs vs. (ds : List Construct) × (us : List Token) × (l : Lexeme) × ReadsDefinition (it.more_constructors cs ds) s.tokens us × K (state us l s.nodes (constructors ds ∷ vs)))
base N (InProgram FieldsMore) s K = on_types s.values (λ bs p vs. GivesTypes (λ cs us. ReadsDefinition (it.more_fields bs cs) s.tokens us) p s.nodes vs K)
-- predicates
base N (InPred Predicate) s K = GivesPred (λ a us. ReadsPred (pr.line pr.equivalence a) s.tokens us) (place_at s.tokens) s.nodes s.values K
base N (InPred PredDisjunction) s K = GivesPred (λ a us. ReadsPred (pr.line pr.disjunction a) s.tokens us) (place_at s.tokens) s.nodes s.values K
base N (InPred PredConjunction) s K = GivesPred (λ a us. ReadsPred (pr.line pr.conjunction a) s.tokens us) (place_at s.tokens) s.nodes s.values K
base N (InPred PredNegation) s K = GivesPred (λ a us. ReadsPred (pr.member pr.a_negation a) s.tokens us) (place_at s.tokens) s.nodes s.values K
base N (InPred Term) s K = GivesPred (λ a us. ReadsPred (pr.line pr.term a) s.tokens us) (place_at s.tokens) s.nodes s.values K
base N (InPred TermProduct) s K = GivesPred (λ a us. ReadsPred (pr.line pr.factor a) s.tokens us) (place_at s.tokens) s.nodes s.values K
base N (InPred TermNegation) s K = GivesPred (λ a us. ReadsPred (pr.member pr.an_opposite a) s.tokens us) (place_at s.tokens) s.nodes s.values K
base N (InPred TermAtom) s K = GivesPred (λ a us. ReadsPred (pr.an_atom a) s.tokens us) (place_at s.tokens) s.nodes s.values K
base N (InPred OtherTermAtom) s K = GivesPred (λ a us. Stops (kind.Number ∷ kind.LimitNumber ∷ []) s.tokens × ReadsPred (pr.an_atom a) s.tokens us) (place_at s.tokens) s.nodes s.values K
base N (InPred PredOrMore) s K = on_pred s.values (λ a p vs. GivesPred (λ b us. ReadsPred (pr.chain_at pr.disjunction p a b) s.tokens us) p s.nodes vs K)
base N (InPred PredAndMore) s K = on_pred s.values (λ a p vs. GivesPred (λ b us. ReadsPred (pr.chain_at pr.conjunction p a b) s.tokens us) p s.nodes vs K)
base N (InPred TermAddMore) s K = on_pred s.values (λ a p vs. GivesPred (λ b us. ReadsPred (pr.chain_at pr.term p a b) s.tokens us) p s.nodes vs K)
base N (InPred TermMulMore) s K = on_pred s.values (λ a p vs. GivesPred (λ b us. ReadsPred (pr.chain_at pr.factor p a b) s.tokens us) p s.nodes vs K)
base N (InPred AfterTermMinus) s K = on_mark s.values (λ p vs. GivesPred (λ a us. ReadsPred (pr.behind_minus p a) s.tokens us) p s.nodes vs K)
base N (InPred IffMore) s K = on_pred s.values (λ a p vs. LiftsPred pr.disjunction pr.equivalence s.tokens a p s.nodes vs K)
base N (InPred PredCompareMore) s K = on_pred s.values (λ a p vs. LiftsPred pr.term pr.comparison s.tokens a p s.nodes vs K)
base N (InPred TermArgument) s K = on_name s.values (λ x p vs. GivesPred (λ a us. (t : Token) → IsName kind.LowerName x t → t.place ≡ p → ReadsPred (pr.an_atom a) (t ∷ s.tokens) us) p s.nodes vs K)
base N (InPred UpperTerm) s K = on_name s.values (λ x p vs. GivesPred (λ a us. (t : Token) → IsName kind.UpperName x t → t.place ≡ p → ReadsPred (pr.an_atom a) (t ∷ s.tokens) us) p s.nodes vs K)
base N (InPred QualifiedArgument) s K = on_name s.values (λ f o ws. on_name ws (λ m p vs. GivesPred (λ a us. (b : PredTree) × (a ≡ pred_tree p (qualified m f b)) × ReadsPred (pr.an_atom b) s.tokens us) p s.nodes vs K))
-- qualifiers and measures
base N (InEntry QualifierName) s K = (x : ℕ) × (t : Token) × (us : List Token) × (l : Lexeme) × (s.tokens ≡ t ∷ us) × pr.IsAnyName x t × K (state us l s.nodes (named x t.place ∷ s.values))
base N (InEntry QualifierRest) s K = on_name s.values (λ x o ws. on_mark ws (λ p xs. on_qualifiers xs (λ qs vs. (r : QualifierTree) × (us : List Token) × (l : Lexeme) × ((t u : Token) → Is kind.Qualif t → pr.IsAnyName x u → t.place ≡ p → (gs hs : List QualifierTree) (zs : List Token) → ReadsQualifiers (gs ++ r ∷ []) hs us zs → ReadsQualifiers gs hs (t ∷ u ∷ s.tokens) zs) × K (state us l s.nodes (qualifiers (qs ++ r ∷ []) ∷ vs)))))
base N (InEntry QualsMore) s K = on_qualifiers s.values (λ qs vs. (rs : List QualifierTree) × (us : List Token) × (l : Lexeme) × ReadsQualifiers qs rs s.tokens us × K (state us l s.nodes (qualifiers rs ∷ vs)))
base N (InEntry MeasuresMore) s K = on_measures s.values (λ ms vs. (ns : List MeasureTree) × (us : List Token) × (l : Lexeme) × ReadsMeasures ms ns s.tokens us × K (state us l s.nodes (measures ns ∷ vs)))
base N (InEntry FirstEquation) s K = on_equations s.values (λ es vs. (fs : List EquationTree) × (us : List Token) × (ws : List Token) × (l : Lexeme) × Maybe kind.Bar s.tokens us × ReadsEquations (pr.equations es fs) us ws × K (state ws l s.nodes (equations fs ∷ vs)))
base N (InEntry Equation) s K = on_equations s.values (λ es vs. (a : EquationTree) × (us : List Token) × (l : Lexeme) × ((fs gs : List EquationTree) (ws : List Token) → ReadsEquations (pr.more_equations (fs ++ a ∷ []) gs) us ws → ReadsEquations (pr.equations fs gs) s.tokens ws) × K (state us l s.nodes (equations (es ++ a ∷ []) ∷ vs)))
base N (InEntry EquationsMore) s K = on_equations s.values (λ es vs. (fs : List EquationTree) × (us : List Token) × (l : Lexeme) × ReadsEquations (pr.more_equations es fs) s.tokens us × K (state us l s.nodes (equations fs ∷ vs)))
base N x s K = Unfolded N x s K

abbrev nothing : Meaning
nothing x s K = Unit {0}

-- with all parts that aren't named unfolded
abbrev pub M : Meaning
M = base (base (base (base (base nothing))))
