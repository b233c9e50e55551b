-- Each stage has one answer, and so have all of them.
use Rattle.std.proofs.Common.{◌≡◌, ℕ, List, length, Some, None, Result, Ok, Err, sym, ap, subst, ◌∙◌}
use Rattle.std.proofs.lemmas.List.{length-map}
use Rattle.lq_text_actions.specs.Value as value
use Rattle.lq_text_actions.specs.Value.{Value}
use Rattle.lq_text_grammar.specs.Grammar.{start_of}
use Rattle.lq_text_grammar.specs.Levels as levels
use Rattle.lq_text_grammar.specs.Levels.{IsShallow}
use Rattle.lq_text_grammar.specs.Reading.{IsText}
use Rattle.lq_text_grammar.specs.declared.kind.Kind.{Kind}
use Rattle.lq_text_grammar.specs.declared.rule.Rule.{Rule}
use Rattle.lq_text_grammar.specs.declared.symbol.Event.{Event}
use Rattle.lq_text_lexer.specs.Places.{place_at}
use Rattle.lq_text_lexer.specs.Reading.{HasOneReading}
use Rattle.lq_text_lexer.specs.declared.token.Token.{Token}
use Rattle.lq_base_names.specs.NameTable.{predeclared}
use Rattle.lq_base_names.specs.declared.limits.TheConstants.{LEVEL_LIMIT}
use Rattle.lq_base_names.specs.declared.place.TextKind.{TextKind}
use Rattle.lq_base_names.specs.declared.place.TextKind.TheVariants.{Program, Measures, Quals}
use Rattle.lq_text_parser.specs.declared.parse.error.ParseError.{ParseError}
use Rattle.lq_text_parser.specs.declared.parse.error.ParseError.TheVariants.{Syntax, TooDeep, Memory}
use Rattle.lq_text_parser.specs.Parse.Terminals.{kind_of, kinds_of}
use Rattle.lq_text_parser.specs.Parse.Texts.{place_of}
use Rattle.lq_text_parser.specs.Parse.Trees.{IsRead}
use Rattle.lq_text_refusal.specs.Stages.{HasOneAnswer, one_then}
use Rattle.lq_text_refusal.specs.declared.refused.Refused.{Refused}
use Rattle.lq_text_front.specs.Texts.Resolution.{IsResolution, Resolution, resolved, in_program, in_measures, in_qualifiers, OneResolution, Sources, Texts}
use Rattle.lq_text_front.specs.Bytes.Refusals.{fault_refusal, stop_refusal, resolution_refusal}
use Rattle.lq_text_front.specs.Bytes.Stages.{Bytes, Reading, reading_of, IsLexed, IsStop, IsParsed, ReadsTo, Beside, IsProgramRead, AreMeasuresRead, AreQualifiersRead, AreTwoRead, AreRead, sources_in, Bound, bound_as, AreNamed, BindsTo}

-- the laws of reading and binding
pub record Laws : Type 0 where
  pub lexing : (kind : TextKind) (text : List ℕ) → HasOneReading kind text
  pub tree : (kind : TextKind) (text : List ℕ) (names : List (List ℕ)) (tokens : List Token) (v w : Value) → IsRead kind text names tokens v
      → IsRead kind text names tokens w → v ≡ w
  pub stop : (start : Rule) (limit : ℕ) (ks : List Kind) (es : List Event) (at : ℕ) → IsText start ks es → levels.IsSyntax start limit ks at → ⊥
  pub deep : (start : Rule) (limit : ℕ) (ks : List Kind) (at : ℕ) → IsShallow start limit ks (length ks) → levels.IsTooDeep start limit ks at → ⊥
  pub one : (start : Rule) (limit : ℕ) (ks : List Kind) (at to : ℕ) → levels.IsSyntax start limit ks at → levels.IsTooDeep start limit ks to → ⊥
  pub stops : (start : Rule) (limit : ℕ) (ks : List Kind) (at to : ℕ) → levels.IsSyntax start limit ks at → levels.IsSyntax start limit ks to
      → at ≡ to
  pub depths : (start : Rule) (limit : ℕ) (ks : List Kind) (at to : ℕ) → levels.IsTooDeep start limit ks at
      → levels.IsTooDeep start limit ks to → at ≡ to
  pub names : OneResolution

module _ (laws : Laws) where
  one_lexed : (kind : TextKind) → HasOneAnswer (IsLexed kind)
  one_lexed kind text (Ok ts) (Ok us) a b = ap (λ (l : List Token). Ok l) ((laws.lexing kind text).tokens ts us a b)
  one_lexed kind text (Ok ts) (Err e) a b = absurd ((laws.lexing kind text).either ts b.0 a b.1)
  one_lexed kind text (Err e) (Ok us) a b = absurd ((laws.lexing kind text).either us a.0 b a.1)
  one_lexed kind text (Err e) (Err f) a b =
      let same : Some e ≡ Some f = sym a.2 ∙ ap fault_refusal ((laws.lexing kind text).faults a.0 b.0 a.1 b.1) ∙ b.2 in
      cc

  -- tokens that are a text don't stop being one
  read_or_stop : (kind : TextKind) (text : List ℕ) (names : List (List ℕ)) (tokens : List Token) (v : Value) (e : ParseError)
      → IsRead kind text names tokens v → IsStop kind text tokens e → ⊥
  read_or_stop kind text names tokens v (Syntax place) read stop =
      laws.stop (start_of kind) LEVEL_LIMIT (kinds_of text tokens) read.makes.events stop.0 read.makes.reading stop.1
  read_or_stop kind text names tokens v (TooDeep place) read deep =
      laws.deep (start_of kind) LEVEL_LIMIT (kinds_of text tokens) deep.0 (rw (length-map tokens (kind_of text)) read.shallow) deep.1
  read_or_stop kind text names tokens v Memory read none = none

  -- they stop in one way
  stops_once : (kind : TextKind) (text : List ℕ) (tokens : List Token) (e f : ParseError) → IsStop kind text tokens e → IsStop kind text tokens f
      → e ≡ f
  stops_once kind text tokens (Syntax p) (Syntax q) a b =
      let at = laws.stops (start_of kind) LEVEL_LIMIT (kinds_of text tokens) a.0 b.0 a.1 b.1 in
      ap Syntax (a.2 ∙ ap (place_of tokens (place_at kind text (length text))) at ∙ sym b.2)
  stops_once kind text tokens (TooDeep p) (TooDeep q) a b =
      let at = laws.depths (start_of kind) LEVEL_LIMIT (kinds_of text tokens) a.0 b.0 a.1 b.1 in
      ap TooDeep (a.2 ∙ ap (place_of tokens (place_at kind text (length text))) at ∙ sym b.2)
  stops_once kind text tokens (Syntax p) (TooDeep q) a b = absurd (laws.one (start_of kind) LEVEL_LIMIT (kinds_of text tokens) a.0 b.0 a.1 b.1)
  stops_once kind text tokens (TooDeep p) (Syntax q) a b = absurd (laws.one (start_of kind) LEVEL_LIMIT (kinds_of text tokens) b.0 a.0 b.1 a.1)
  stops_once kind text tokens Memory f a b = absurd a
  stops_once kind text tokens e Memory a b = absurd b

  -- what a text is read as
  module _ {T : Type 0} (kind : TextKind) (value_of : T → Value) (apart : (a b : T) → value_of a ≡ value_of b → a ≡ b) (known : List (List ℕ)) where
    one_parsed : (text : List ℕ) → HasOneAnswer (IsParsed kind value_of known text)
    one_parsed text tokens (Ok p) (Ok q) a b =
        let names : p.names ≡ q.names = a.0 ∙ sym b.0 in
        let read = subst (λ (l : List (List ℕ)). IsRead kind text l tokens (value_of p.tree)) names a.1 in
        let trees : p.tree ≡ q.tree = apart p.tree q.tree (laws.tree kind text q.names tokens (value_of p.tree) (value_of q.tree) read b.1) in
        let same : p ≡ q = ap (λ (t : T). reading_of t p.names) trees ∙ ap (reading_of q.tree) names in
        ap (λ (x : Reading T). Ok x) same
    one_parsed text tokens (Ok p) (Err e) a b = absurd (read_or_stop kind text p.names tokens (value_of p.tree) b.0 a.1 b.1)
    one_parsed text tokens (Err e) (Ok q) a b = absurd (read_or_stop kind text q.names tokens (value_of q.tree) a.0 b.1 a.1)
    one_parsed text tokens (Err e) (Err f) a b =
        let same : Some e ≡ Some f = sym a.2 ∙ ap stop_refusal (stops_once kind text tokens a.0 b.0 a.1 b.1) ∙ b.2 in
        cc

    one_reading : HasOneAnswer (ReadsTo kind value_of known)
    one_reading text = one_then (IsLexed kind) (IsParsed kind value_of known text) (one_lexed kind) (one_parsed text) text

  one_beside : {A B : Type 0} (R : A → Result B Refused → Type 0) → HasOneAnswer R → HasOneAnswer (Beside R)
  one_beside {A} {B} R one a (Ok x) (Ok y) p q =
      let first : x.0 ≡ y.0 = p.0 ∙ sym q.0 in
      let second : x.1 ≡ y.1 = (let same = one a (Ok x.1) (Ok y.1) p.1 q.1 in cc) in
      let pairs : x ≡ y = ap (λ (u : A). (u, x.1)) first ∙ ap (λ (v : B). (y.0, v)) second in
      ap (λ (z : A × B). Ok z) pairs
  one_beside {A} {B} R one a (Ok x) (Err f) p q = absurd (let wrong = one a (Ok x.1) (Err f) p.1 q in cc)
  one_beside {A} {B} R one a (Err e) (Ok y) p q = absurd (let wrong = one a (Err e) (Ok y.1) p q.1 in cc)
  one_beside {A} {B} R one a (Err e) (Err f) p q = (let same = one a (Err e) (Err f) p q in cc)

  one_program : HasOneAnswer IsProgramRead
  one_program b = one_reading Program value.items (λ x y e. cc) predeclared b.program

  one_measures : (b : Bytes) → HasOneAnswer (AreMeasuresRead b)
  one_measures b p = one_reading Measures value.measures (λ x y e. cc) p.names b.measures

  one_qualifiers : (b : Bytes) → HasOneAnswer (AreQualifiersRead b)
  one_qualifiers b p = one_reading Quals value.qualifiers (λ x y e. cc) p.1.names b.qualifiers

  one_two : HasOneAnswer AreTwoRead
  one_two b = one_then IsProgramRead (Beside (AreMeasuresRead b)) one_program (one_beside (AreMeasuresRead b) (one_measures b)) b

  one_read : HasOneAnswer AreRead
  one_read b = one_then AreTwoRead (Beside (AreQualifiersRead b)) one_two (one_beside (AreQualifiersRead b) (one_qualifiers b)) b

  abbrev texts_in : Texts → Resolution → Texts
  texts_in other (resolved t) = t
  texts_in other (in_program c) = other
  texts_in other (in_measures c) = other
  texts_in other (in_qualifiers c) = other

  one_named : HasOneAnswer AreNamed
  one_named r (Ok a) (Ok b) p q =
      let read : a.read ≡ b.read = p.0 ∙ sym q.0 in
      let there = subst (λ (s : Sources). IsResolution s (resolved a.texts)) read p.1 in
      let texts : a.texts ≡ b.texts = ap (texts_in a.texts) (laws.names b.read (resolved a.texts) (resolved b.texts) there q.1) in
      let same : a ≡ b = ap (λ (s : Sources). bound_as s a.texts) read ∙ ap (bound_as b.read) texts in
      ap (λ (x : Bound). Ok x) same
  one_named r (Ok a) (Err e) p q =
      let there = subst (λ (s : Sources). IsResolution s (resolved a.texts)) p.0 p.1 in
      let same : resolved a.texts ≡ q.0 = laws.names (sources_in r) (resolved a.texts) q.0 there q.1 in
      absurd (let wrong : None ≡ Some e = ap (resolution_refusal r.1.names) same ∙ q.2 in cc)
  one_named r (Err e) (Ok b) p q =
      let there = subst (λ (s : Sources). IsResolution s (resolved b.texts)) q.0 q.1 in
      let same : resolved b.texts ≡ p.0 = laws.names (sources_in r) (resolved b.texts) p.0 there p.1 in
      absurd (let wrong : None ≡ Some e = ap (resolution_refusal r.1.names) same ∙ p.2 in cc)
  one_named r (Err e) (Err f) p q =
      let same : Some e ≡ Some f = sym p.2 ∙ ap (resolution_refusal r.1.names) (laws.names (sources_in r) p.0 q.0 p.1 q.1) ∙ q.2 in
      cc

  pub one_bound : HasOneAnswer BindsTo
  one_bound = one_then AreRead AreNamed one_read one_named
