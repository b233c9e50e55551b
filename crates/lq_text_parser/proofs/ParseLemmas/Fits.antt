-- What tokens have fits their kinds.
use Rattle.std.specs.Prelude.{map, nat_lt}
use Rattle.std.specs.List.{list_all}
use Rattle.std.specs.Str.{bytes_eq}
use Rattle.std.proofs.Common.{◌≡◌, ◌≤◌, ℕ, List, [], ◌∷◌, Bool, true, false, ◌&&◌, cond, arith, refl}
use Rattle.std.proofs.lemmas.Bool.Decides.{nat_tests}
use Rattle.lq_text_grammar.specs.declared.kind.Kind.{Kind}
use Rattle.lq_text_grammar.specs.declared.kind.Kind.TheVariants as kind
use Rattle.lq_text_lexer.specs.declared.keyword.Keyword.{Keyword}
use Rattle.lq_text_lexer.specs.declared.keyword.Keyword.TheVariants as keyword
use Rattle.lq_text_lexer.specs.declared.token.Token.{Token}
use Rattle.lq_base_names.specs.declared.limits.TheConstants.{LITERAL_LIMIT}
use Rattle.lq_base_names.specs.declared.place.Place.{Place}
use Rattle.lq_text_lexer.specs.declared.token.TokenKind.{TokenKind}
use Rattle.lq_text_lexer.specs.declared.token.TokenKind.TheVariants as of
use Rattle.lq_text_actions.specs.Trees.{FitsKind, FitKinds}
use Rattle.lq_text_actions.specs.Value.{Lexeme, some_number}
use Rattle.lq_text_parser.specs.Parse.Terminals.{bytes_of, keyword_kind, symbols, kind_among, terminal, kinds_of}
use Rattle.lq_text_parser.specs.Parse.Trees.{content_of, lexeme_of}
use Rattle.lq_text_parser.proofs.ParseLemmas.Lexed.{HasSmallValue, AreTokens}

-- a terminal of tokens that are neither names nor numbers
plain : Kind → Bool
plain kind.LowerName = false
plain kind.UpperName = false
plain kind.TypeVariable = false
plain kind.Number = false
plain kind.LimitNumber = false
plain _ = true

plain_fits : (k : Kind) (l : Lexeme) → plain k ≡ true → FitsKind k l
unfolding plain
plain_fits kind.LowerName l e = absurd cc
plain_fits kind.UpperName l e = absurd cc
plain_fits kind.TypeVariable l e = absurd cc
plain_fits kind.Number l e = absurd cc
plain_fits kind.LimitNumber l e = absurd cc
plain_fits _ l e = tt

plain_keyword : (k : Keyword) → plain (keyword_kind k) ≡ true
unfolding plain
plain_keyword keyword.Assert = refl
plain_keyword _ = refl

both : (a b : Bool) → (a && b) ≡ true → (a ≡ true) × (b ≡ true)
both true true e = (refl, refl)
both true false e = absurd cc
both false b e = absurd cc

if_plain : (t : Bool) (a b : Kind) → plain a ≡ true → plain b ≡ true → plain (cond t a b) ≡ true
if_plain true a b e f = e
if_plain false a b e f = f

among_plain : (ps : List (List ℕ × Kind)) (other : Kind) (word : List ℕ) → list_all (λ p. plain p.1) ps ≡ true → plain other ≡ true → plain (kind_among ps other word) ≡ true
among_plain [] other word all e = e
among_plain (p ∷ ps) other word all e =
    let parts = both (plain p.1) (list_all (λ q. plain q.1) ps) all in
    if_plain (bytes_eq word p.0) p.1 (kind_among ps other word) parts.0 (among_plain ps other word parts.1 e)

plain_symbol : (word : List ℕ) → plain (kind_among symbols kind.Reserved word) ≡ true
unfolding plain
plain_symbol word = among_plain symbols kind.Reserved word refl refl

number_fits : (v : ℕ) (p : Place) (b : Bool) → nat_lt v LITERAL_LIMIT ≡ b → v ≤ LITERAL_LIMIT → FitsKind (cond b kind.Number kind.LimitNumber) (record { place = p; content = some_number v })
number_fits v p true is h = grind (arith, nat_tests)
number_fits v p false is h = h

token_fits : (names : List (List ℕ)) (k : TokenKind) (word : List ℕ) (p : Place) → HasSmallValue k → FitsKind (terminal k word) (record { place = p; content = content_of names k word })
token_fits names (of.Number v) word p h = number_fits v p _ refl h
token_fits names of.Lower word p h = tt
token_fits names of.Upper word p h = tt
token_fits names of.TypeVar word p h = tt
token_fits names (of.Keyword k) word p h = plain_fits (keyword_kind k) _ (plain_keyword k)
token_fits names of.Symbol word p h = plain_fits (kind_among symbols kind.Reserved word) _ (plain_symbol word)

pub tokens_fit : (names : List (List ℕ)) (text : List ℕ) (ts : List Token) → AreTokens text ts → FitKinds (kinds_of text ts) (map (lexeme_of names text) ts)
tokens_fit names text [] all = tt
tokens_fit names text (t ∷ ts) all = (token_fits names t.kind (bytes_of text t) t.place all.0.value, tokens_fit names text ts all.1)
