-- How refusals of stages are refusals of the whole.
use Rattle.std.proofs.Common.{◌≡◌, ◌⊎◌, inl, inr, ℕ, List, length, Option, Some, None, Result, Ok, refl, sym, ap, subst, ◌∙◌}
use Rattle.lq_text_actions.specs.Value.{items, Value}
use Rattle.lq_text_lexer.specs.Places.{place_at}
use Rattle.lq_text_lexer.specs.Reading.{IsTokens, HasFault}
use Rattle.lq_text_lexer.specs.declared.error.LexError.{LexError}
use Rattle.lq_text_lexer.specs.declared.error.LexError.TheVariants as lexing
use Rattle.lq_text_lexer.specs.declared.token.Token.{Token}
use Rattle.lq_base_names.specs.declared.place.Place.{Place}
use Rattle.lq_base_names.specs.declared.place.TextKind.{TextKind}
use Rattle.lq_base_names.specs.declared.place.TextKind.TheVariants.{Program}
use Rattle.lq_text_parser.specs.Parse.Texts.{IsSyntax, IsTooDeep}
use Rattle.lq_text_parser.specs.Parse.Trees.{IsRead}
use Rattle.lq_text_parser.specs.declared.parse.error.ParseError.{ParseError}
use Rattle.lq_text_parser.specs.declared.parse.error.ParseError.TheVariants as parsing
use Rattle.lq_text_refusal.specs.Stages.{Then}
use Rattle.lq_text_refusal.specs.declared.refused.Refused.{Refused}
use Rattle.lq_text_front.specs.Bytes.Refusals.{fault_refusal, stop_refusal}
use Rattle.lq_text_front.specs.Texts.Resolution.{IsResolution, Resolution, Sources}
use Rattle.lq_text_front.specs.Texts.Told.{error_view}
use Rattle.lq_text_front.specs.declared.texts.texts.ResolveError.{ResolveError}
use Rattle.lq_text_front.specs.declared.texts.texts.ResolveError.TheVariants as resolving
use Rattle.lq_text_tree.specs.Items.{ItemTree}
use Rattle.lq_text_front.specs.Bytes.Stages.{AreNamed, AreRead, Beside, Bytes, IsLexed, Readings, ReadsTo, sources_in}
use Rattle.lq_text_front.specs.Bytes.Views.{IsBy, IsOf, IsRefusalOf}
use Rattle.lq_text_front.specs.declared.bytes.error.Refusing.{Refusing}
use Rattle.lq_text_front.specs.declared.bytes.error.Refusing.TheVariants as refusing

-- a text with a first fault is refused for it
pub fault_due : (kind : TextKind) (text : List ℕ) (e : LexError) (n : Refusing) → (e ≡ lexing.Memory) ⊎ HasFault kind text e
    → IsOf (fault_refusal e) n → IsBy (IsLexed kind text) n
fault_due kind text e refusing.Memory why is = tt
fault_due kind text e (refusing.Refused r) (inr fault) is = (e, fault, is)
fault_due kind text e (refusing.Refused r) (inl memory) is = absurd (let wrong : None ≡ Some r = ap fault_refusal (sym memory) ∙ is in cc)

-- why an error of parsing comes
pub record WhyStop (kind : TextKind) (text : List ℕ) (tokens : List Token) (end_ : Place) (e : ParseError) : Type 0 where
  pub are_tokens : IsTokens kind text tokens
  pub last : end_ ≡ place_at kind text (length text)
  pub syntax : (p : Place) → e ≡ parsing.Syntax p → IsSyntax kind text tokens end_ p
  pub deep : (p : Place) → e ≡ parsing.TooDeep p → IsTooDeep kind text tokens end_ p

-- tokens that are no text are refused where they stop
pub stop_due : {T : Type 0} (value_of : T → Value) (known : List (List ℕ)) (kind : TextKind) (text : List ℕ) (tokens : List Token) (end_ : Place)
    (e : ParseError) (n : Refusing) → WhyStop kind text tokens end_ e → IsOf (stop_refusal e) n → IsBy (ReadsTo kind value_of known text) n
stop_due {T} value_of known kind text tokens end_ e refusing.Memory why is = tt
stop_due {T} value_of known kind text tokens end_ (parsing.Syntax p) (refusing.Refused r) why is =
    let stop = subst (λ (q : Place). IsSyntax kind text tokens q p) why.last (why.syntax p refl) in
    inr (tokens, why.are_tokens, (parsing.Syntax p, stop, is))
stop_due {T} value_of known kind text tokens end_ (parsing.TooDeep p) (refusing.Refused r) why is =
    let deep = subst (λ (q : Place). IsTooDeep kind text tokens q p) why.last (why.deep p refl) in
    inr (tokens, why.are_tokens, (parsing.TooDeep p, deep, is))
stop_due {T} value_of known kind text tokens end_ parsing.Memory (refusing.Refused r) why is = absurd (let wrong : None ≡ Some r = is in cc)

-- what an earlier stage refuses is refused
pub still_by : {A B C : Type 0} (R : A → Result B Refused → Type 0) (S : B → Result C Refused → Type 0) (a : A) (n : Refusing) → IsBy (R a) n
    → IsBy (Then R S a) n
still_by {A} {B} {C} R S a refusing.Memory is = tt
still_by {A} {B} {C} R S a (refusing.Refused r) is = inl is

-- and what a later one refuses of what the earlier gives
pub then_by : {A B C : Type 0} (R : A → Result B Refused → Type 0) (S : B → Result C Refused → Type 0) (a : A) (b : B) (n : Refusing) → R a (Ok b)
    → IsBy (S b) n → IsBy (Then R S a) n
then_by {A} {B} {C} R S a b refusing.Memory given is = tt
then_by {A} {B} {C} R S a b (refusing.Refused r) given is = inr (b, given, is)

-- a stage beside what it goes on from refuses what it refuses
pub beside_by : {A B : Type 0} (R : A → Result B Refused → Type 0) (a : A) (n : Refusing) → IsBy (R a) n → IsBy (Beside R a) n
beside_by {A} {B} R a refusing.Memory is = tt
beside_by {A} {B} R a (refusing.Refused r) is = is

-- ---- what is told of names

-- what is told is due, or memory ran out
pub names_due : (f : Readings) (o : Option Resolution) (n : Refusing) → IsRefusalOf f.1.names o n
    → ((r : Resolution) → o ≡ Some r → IsResolution (sources_in f) r) → IsBy (AreNamed f) n
names_due f None refusing.Memory is told = tt
names_due f None (refusing.Refused r) is told = absurd cc
names_due f (Some r) refusing.Memory is told = tt
names_due f (Some r) (refusing.Refused e) is told = (r, told r refl, is)

-- what a call tells is due
pub told_due : (e : ResolveError) (s : Sources)
    → (e ≡ resolving.Memory) ⊎ ((due : Resolution) × (error_view e ≡ Some due) × IsResolution s due) → (r : Resolution) → error_view e ≡ Some r
    → IsResolution s r
told_due e s (inl memory) r is = absurd (let wrong : None ≡ Some r = ap error_view (sym memory) ∙ is in cc)
told_due e s (inr due) r is =
    let same : r ≡ due.0 = (let both : Some r ≡ Some due.0 = sym is ∙ due.1 in cc) in
    subst (IsResolution s) (sym same) due.2

-- the program of three texts that are read is read from its tokens
pub program_is_read : (b : Bytes) (r : Readings) → AreRead b (Ok r)
    → (names : List (List ℕ)) × (tokens : List Token) × IsRead Program b.program names tokens (items r.0.0.tree)
program_is_read b r is =
    let two = is.1 in
    let tree : r.0.0.tree ≡ two.0.tree = ap (λ x. x.0.tree) is.2.0 ∙ ap (λ x. x.tree) two.2.0 in
    (two.0.names, two.1.0, subst (λ (t : List ItemTree). IsRead Program b.program two.0.names two.1.0 (items t)) (sym tree) two.1.2.1)
