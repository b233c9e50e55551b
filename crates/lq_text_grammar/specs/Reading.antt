-- Which tokens are a text, and what steps its reading has.
use Rattle.std.specs.Prelude.{◌≡◌, ℕ, ◌+◌, ◌<◌, Bool, true, false, ◌&&◌, List, [], ◌∷◌, ◌++◌, length, take, Option, Some, None, ◌⊎◌, IsTrue, not}
use Rattle.std.specs.List.{list_any}
use Rattle.lq_text_grammar.specs.declared.kind.Kind.{Kind}
use Rattle.lq_text_grammar.specs.declared.rule.Rule.{Rule}
use Rattle.lq_text_grammar.specs.declared.rule.Rule.TheVariants.{InProgram, InType, InExpression, InPattern, InEntry, InPred}
use Rattle.lq_text_grammar.specs.declared.rule.ProgramPart.TheVariants.{Program, Items, AfterItem, ConstructorsMore, ConstructorFields, FieldsMore}
use Rattle.lq_text_grammar.specs.declared.rule.TypePart.TheVariants.{ArrowMore, ProductTail, ProductMore, TypeNames}
use Rattle.lq_text_grammar.specs.declared.rule.ExpressionPart.TheVariants.{SeqTail, SeqSecond, SeqMore, SeqNext, ArmsMore, ElsePart, UpperHead, HeadMore, IndexTail, AfterIndexed, CallRest, OperandRest, TupleTail, TupleMore, OrMore, AndMore, CompareMore, ConsMore, AddMore, MulMore, UpperMore, ArgumentsMore, PostfixMore, UpperAtom}
use Rattle.lq_text_grammar.specs.declared.rule.PatternPart.TheVariants.{PatternRest, PatternTuple, PatternArguments}
use Rattle.lq_text_grammar.specs.declared.rule.EntryPart.TheVariants.{Quals, QualsMore, Measures, MeasuresMore, EquationsMore}
use Rattle.lq_text_grammar.specs.declared.rule.PredPart.TheVariants.{IffMore, PredOrMore, PredAndMore, PredCompareMore, TermAddMore, TermMulMore, TermArgument, UpperTerm}
use Rattle.lq_text_grammar.specs.declared.symbol.Action.{Action}
use Rattle.lq_text_grammar.specs.declared.symbol.Symbol.{Symbol}
use Rattle.lq_text_grammar.specs.declared.symbol.Symbol.TheVariants.{Word, Part, Make, Leave}
use Rattle.lq_text_grammar.specs.declared.symbol.Event.{Event}
use Rattle.lq_text_grammar.specs.declared.symbol.Event.TheVariants as event
use Rattle.lq_text_grammar.specs.Kinds.{same_kind}
use Rattle.lq_text_grammar.specs.Grammar.{Alternative, begins, before, otherwise, alternatives}

-- the parts that can read nothing
abbrev pub can_skip : Rule → Bool
can_skip (InProgram Program) = true
can_skip (InProgram Items) = true
can_skip (InProgram AfterItem) = true
can_skip (InProgram ConstructorsMore) = true
can_skip (InProgram ConstructorFields) = true
can_skip (InProgram FieldsMore) = true
can_skip (InType ArrowMore) = true
can_skip (InType ProductTail) = true
can_skip (InType ProductMore) = true
can_skip (InType TypeNames) = true
can_skip (InExpression SeqTail) = true
can_skip (InExpression SeqSecond) = true
can_skip (InExpression SeqMore) = true
can_skip (InExpression SeqNext) = true
can_skip (InExpression ArmsMore) = true
can_skip (InExpression ElsePart) = true
can_skip (InExpression UpperHead) = true
can_skip (InExpression HeadMore) = true
can_skip (InExpression IndexTail) = true
can_skip (InExpression AfterIndexed) = true
can_skip (InExpression CallRest) = true
can_skip (InExpression OperandRest) = true
can_skip (InExpression TupleTail) = true
can_skip (InExpression TupleMore) = true
can_skip (InExpression OrMore) = true
can_skip (InExpression AndMore) = true
can_skip (InExpression CompareMore) = true
can_skip (InExpression ConsMore) = true
can_skip (InExpression AddMore) = true
can_skip (InExpression MulMore) = true
can_skip (InExpression UpperMore) = true
can_skip (InExpression ArgumentsMore) = true
can_skip (InExpression PostfixMore) = true
can_skip (InExpression UpperAtom) = true
can_skip (InPattern PatternRest) = true
can_skip (InPattern PatternTuple) = true
can_skip (InPattern PatternArguments) = true
can_skip (InEntry Quals) = true
can_skip (InEntry QualsMore) = true
can_skip (InEntry Measures) = true
can_skip (InEntry MeasuresMore) = true
can_skip (InEntry EquationsMore) = true
can_skip (InPred IffMore) = true
can_skip (InPred PredOrMore) = true
can_skip (InPred PredAndMore) = true
can_skip (InPred PredCompareMore) = true
can_skip (InPred TermAddMore) = true
can_skip (InPred TermMulMore) = true
can_skip (InPred TermArgument) = true
can_skip (InPred UpperTerm) = true
can_skip _ = false

abbrev pub body_of : Alternative → List Symbol
body_of (begins k b) = Word k ∷ b
body_of (before ks b) = b
body_of (otherwise b) = b

pub data OneOf : Alternative → List Alternative → Type 0 where
  this : {a : Alternative} {others : List Alternative} → OneOf a (a ∷ others)
  later : {a c : Alternative} {others : List Alternative} → OneOf a others → OneOf a (c ∷ others)

abbrev pub skips : List Symbol → Bool
skips [] = true
skips (Word k ∷ ss) = false
skips (Part x ∷ ss) = can_skip x && skips ss
skips (Make a ∷ ss) = skips ss
skips (Leave ∷ ss) = skips ss

-- the kinds with which alternatives begin
abbrev pub own_kinds : List Alternative → List Kind
own_kinds [] = []
own_kinds (begins k b ∷ others) = k ∷ own_kinds others
own_kinds (before ks b ∷ others) = ks ++ own_kinds others
own_kinds (otherwise b ∷ others) = own_kinds others

-- the kind of the first of these tokens, or else what comes after them
abbrev pub next : List Kind → Option Kind → Option Kind
next [] n = n
next (k ∷ ks) n = Some k

abbrev pub begins_one : Rule → Option Kind → Bool
begins_one x None = false
begins_one x (Some k) = list_any (λ j. same_kind j k) (own_kinds (alternatives x))

-- The tokens are all read as these symbols, by any alternatives, and these are the steps. But each reading goes on as far as it can:
-- an alternative that can read nothing is taken only where the next token begins none of the others.
pub data Reads : List Symbol → List Kind → List Event → Type 0 where
  over : Reads [] [] []
  word : {ss : List Symbol} {ks : List Kind} {es : List Event} (k : Kind) → Reads ss ks es → Reads (Word k ∷ ss) (k ∷ ks) (event.Take ∷ es)
  part : {x : Rule} {ss : List Symbol} {ks : List Kind} {es : List Event} (a : Alternative) → OneOf a (alternatives x) → IsTrue (not (skips (body_of a) && begins_one x (next ks None))) → Reads (body_of a ++ ss) ks es → Reads (Part x ∷ ss) ks es
  make : {a : Action} {ss : List Symbol} {ks : List Kind} {es : List Event} → Reads ss ks es → Reads (Make a ∷ ss) ks (event.Make a ∷ es)
  leave : {ss : List Symbol} {ks : List Kind} {es : List Event} → Reads ss ks es → Reads (Leave ∷ ss) ks es

-- the tokens are a text, and these are the steps of its reading
abbrev pub IsText : Rule → List Kind → List Event → Type 0
IsText start ks es = Reads (Part start ∷ []) ks es

-- some text begins with these tokens
abbrev pub Begins : Rule → List Kind → Type 0
Begins start ks = (us : List Kind) × (es : List Event) × IsText start (ks ++ us) es

-- No text begins with the tokens up to and including this one. At the end: the tokens are no text.
abbrev pub IsStop : Rule → List Kind → ℕ → Type 0
IsStop start ks at = ((at < length ks) × (Begins start (take (at + 1) ks) → ⊥)) ⊎ ((at ≡ length ks) × ((es : List Event) → IsText start ks es → ⊥))
