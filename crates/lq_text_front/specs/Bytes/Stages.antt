-- The stages from the bytes of three texts to these with their names bound: the tokens and the tree of each, and then their names.
use Rattle.std.specs.Prelude.{◌≡◌, ℕ, List, length, Some, Result, Ok, Err}
use Rattle.lq_text_actions.specs.Value as value
use Rattle.lq_text_actions.specs.Value.{Value}
use Rattle.lq_text_lexer.specs.Places.{place_at}
use Rattle.lq_text_lexer.specs.Reading.{IsTokens, HasFault}
use Rattle.lq_text_lexer.specs.declared.error.LexError.{LexError}
use Rattle.lq_text_lexer.specs.declared.token.Token.{Token}
use Rattle.lq_base_names.specs.NameTable.{predeclared}
use Rattle.lq_base_names.specs.declared.place.TextKind.{TextKind}
use Rattle.lq_base_names.specs.declared.place.TextKind.TheVariants.{Program, Measures, Quals}
use Rattle.lq_text_parser.specs.Parse.Texts.{IsSyntax, IsTooDeep}
use Rattle.lq_text_parser.specs.Parse.Trees.{IsRead, with_names}
use Rattle.lq_text_parser.specs.declared.parse.error.ParseError.{ParseError}
use Rattle.lq_text_parser.specs.declared.parse.error.ParseError.TheVariants as parsing
use Rattle.lq_text_refusal.specs.Stages.{Then}
use Rattle.lq_text_refusal.specs.declared.refused.Refused.{Refused}
use Rattle.lq_text_front.specs.Texts.Resolution.{IsResolution, Resolution, resolved, Sources, sources, Texts}
use Rattle.lq_text_tree.specs.Items.{ItemTree}
use Rattle.lq_text_tree.specs.MeasureTrees.{MeasureTree}
use Rattle.lq_text_tree.specs.Qualifiers.{QualifierTree}
use Rattle.lq_text_front.specs.Bytes.Refusals.{fault_refusal, stop_refusal, resolution_refusal}

-- the bytes of a program, of measures and of qualifiers
pub record Bytes : Type 0 where
  pub program : List ℕ
  pub measures : List ℕ
  pub qualifiers : List ℕ

abbrev pub bytes_of : List ℕ → List ℕ → List ℕ → Bytes
bytes_of p m q = record { program = p; measures = m; qualifiers = q }

-- ---- one text

-- what a text is read as, and the texts of all names so far in the order of their numbers
pub record Reading (T : Type 0) : Type 0 where
  pub tree : T
  pub names : List (List ℕ)

abbrev pub reading_of : {T : Type 0} → T → List (List ℕ) → Reading T
reading_of t names = record { tree = t; names = names }

-- the text's tokens, or its first fault
abbrev pub IsLexed : TextKind → List ℕ → Result (List Token) Refused → Type 0
IsLexed kind text (Ok tokens) = IsTokens kind text tokens
IsLexed kind text (Err r) = (e : LexError) × HasFault kind text e × (fault_refusal e ≡ Some r)

-- the tokens stop being a text of this kind here, or the first of them that nests too deeply stands here
abbrev pub IsStop : TextKind → List ℕ → List Token → ParseError → Type 0
IsStop kind text tokens (parsing.Syntax place) = IsSyntax kind text tokens (place_at kind text (length text)) place
IsStop kind text tokens (parsing.TooDeep place) = IsTooDeep kind text tokens (place_at kind text (length text)) place
IsStop kind text tokens parsing.Memory = ⊥

module _ {T : Type 0} (kind : TextKind) (value_of : T → Value) (known : List (List ℕ)) where
  -- what the tokens are read as, behind these names, or where they are no text
  abbrev pub IsParsed : List ℕ → List Token → Result (Reading T) Refused → Type 0
  IsParsed text tokens (Ok r) = (r.names ≡ with_names text tokens known) × IsRead kind text r.names tokens (value_of r.tree)
  IsParsed text tokens (Err r) = (e : ParseError) × IsStop kind text tokens e × (stop_refusal e ≡ Some r)

  -- what a text is read as
  abbrev pub ReadsTo : List ℕ → Result (Reading T) Refused → Type 0
  ReadsTo text = Then (IsLexed kind) (IsParsed text) text

-- ---- three texts, one behind the other

-- A stage beside what it goes on from.
abbrev pub Beside : {A B : Type 0} → (A → Result B Refused → Type 0) → A → Result (A × B) Refused → Type 0
Beside {A} {B} R a (Ok both) = (both.0 ≡ a) × R a (Ok both.1)
Beside {A} {B} R a (Err r) = R a (Err r)

abbrev pub ProgramReading : Type 0
ProgramReading = Reading (List ItemTree)

abbrev pub TwoReadings : Type 0
TwoReadings = ProgramReading × Reading (List MeasureTree)

abbrev pub Readings : Type 0
Readings = TwoReadings × Reading (List QualifierTree)

abbrev pub IsProgramRead : Bytes → Result ProgramReading Refused → Type 0
IsProgramRead b = ReadsTo Program value.items predeclared b.program

abbrev pub AreMeasuresRead : Bytes → ProgramReading → Result (Reading (List MeasureTree)) Refused → Type 0
AreMeasuresRead b p = ReadsTo Measures value.measures p.names b.measures

abbrev pub AreQualifiersRead : Bytes → TwoReadings → Result (Reading (List QualifierTree)) Refused → Type 0
AreQualifiersRead b p = ReadsTo Quals value.qualifiers p.1.names b.qualifiers

-- the names of the program come first, then those of the measures, then those of the qualifiers
abbrev pub AreTwoRead : Bytes → Result TwoReadings Refused → Type 0
AreTwoRead b = Then IsProgramRead (Beside (AreMeasuresRead b)) b

abbrev pub AreRead : Bytes → Result Readings Refused → Type 0
AreRead b = Then AreTwoRead (Beside (AreQualifiersRead b)) b

abbrev pub sources_in : Readings → Sources
sources_in r = sources r.1.names r.0.0.tree r.0.1.tree r.1.tree

-- ---- names

-- three texts as they are read, and with their names bound
pub record Bound : Type 0 where
  pub read : Sources
  pub texts : Texts

abbrev pub bound_as : Sources → Texts → Bound
bound_as s t = record { read = s; texts = t }

-- these with their names bound, where nothing is wrong with these, or the complaint that is told
abbrev pub AreNamed : Readings → Result Bound Refused → Type 0
AreNamed r (Ok b) = (b.read ≡ sources_in r) × IsResolution b.read (resolved b.texts)
AreNamed r (Err e) = (due : Resolution) × IsResolution (sources_in r) due × (resolution_refusal r.1.names due ≡ Some e)

-- three texts with their names bound, or the first reason to refuse them
abbrev pub BindsTo : Bytes → Result Bound Refused → Type 0
BindsTo = Then AreRead AreNamed
