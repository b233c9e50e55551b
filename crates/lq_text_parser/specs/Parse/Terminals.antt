-- Tokens as the grammars see them.
use Rattle.std.specs.Prelude.{ℕ, ◌-◌, nat_lt, List, [], ◌∷◌, map, take, drop, codes, if◌then◌else◌}
use Rattle.std.specs.Str.{bytes_eq}
use Rattle.lq_text_grammar.specs.declared.kind.Kind.{Kind}
use Rattle.lq_text_grammar.specs.declared.kind.Kind.TheVariants as kind
use Rattle.lq_text_lexer.specs.declared.keyword.Keyword.{Keyword}
use Rattle.lq_text_lexer.specs.declared.keyword.Keyword.TheVariants as keyword
use Rattle.lq_text_lexer.specs.declared.token.Token.{Token}
use Rattle.lq_text_lexer.specs.declared.token.TokenKind.{TokenKind}
use Rattle.lq_text_lexer.specs.declared.token.TokenKind.TheVariants as of
use Rattle.lq_base_names.specs.declared.limits.TheConstants.{LITERAL_LIMIT}

-- the bytes of a token
abbrev pub bytes_of : List ℕ → Token → List ℕ
bytes_of text t = take (t.«end» - t.start) (drop t.start text)

-- the terminal that a reserved word is; those that no rule uses are one
abbrev pub keyword_kind : Keyword → Kind
keyword_kind keyword.Assert = kind.Assert
keyword_kind keyword.Begin = kind.Begin
keyword_kind keyword.Else = kind.Else
keyword_kind keyword.End = kind.End
keyword_kind keyword.False = kind.False
keyword_kind keyword.Fun = kind.Fun
keyword_kind keyword.If = kind.If
keyword_kind keyword.In = kind.In
keyword_kind keyword.Let = kind.Let
keyword_kind keyword.Match = kind.Match
keyword_kind keyword.Measure = kind.Measure
keyword_kind keyword.Mod = kind.Mod
keyword_kind keyword.Not = kind.Not
keyword_kind keyword.Of = kind.Of
keyword_kind keyword.Qualif = kind.Qualif
keyword_kind keyword.Rec = kind.Rec
keyword_kind keyword.Then = kind.Then
keyword_kind keyword.True = kind.True
keyword_kind keyword.Type = kind.Type
keyword_kind keyword.With = kind.With
keyword_kind keyword.Unused = kind.Reserved

abbrev pub symbols : List (List ℕ × Kind)
symbols =
    (codes "<=>", kind.Equivalence)
    ∷ (codes ";;", kind.DoubleSemicolon)
    ∷ (codes "->", kind.Arrow)
    ∷ (codes "<-", kind.LeftArrow)
    ∷ (codes "::", kind.DoubleColon)
    ∷ (codes "<=", kind.LessEqual)
    ∷ (codes ">=", kind.GreaterEqual)
    ∷ (codes "<>", kind.NotEqual)
    ∷ (codes "&&", kind.DoubleAmpersand)
    ∷ (codes "||", kind.DoubleBar)
    ∷ (codes ".(", kind.OpenIndex)
    ∷ (codes "_", kind.Underscore)
    ∷ (codes "(", kind.Open)
    ∷ (codes ")", kind.Close)
    ∷ (codes "[", kind.OpenBracket)
    ∷ (codes "]", kind.CloseBracket)
    ∷ (codes ",", kind.Comma)
    ∷ (codes ";", kind.Semicolon)
    ∷ (codes ":", kind.Colon)
    ∷ (codes "|", kind.Bar)
    ∷ (codes "=", kind.Equal)
    ∷ (codes "<", kind.Less)
    ∷ (codes ">", kind.Greater)
    ∷ (codes "+", kind.Plus)
    ∷ (codes "-", kind.Minus)
    ∷ (codes "*", kind.Star)
    ∷ (codes "/", kind.Slash)
    ∷ (codes ".", kind.Dot)
    ∷ []

-- what stands beside this word, or else the other kind
abbrev pub kind_among : List (List ℕ × Kind) → Kind → List ℕ → Kind
kind_among [] other word = other
kind_among (p ∷ ps) other word = if bytes_eq word p.0 then p.1 else kind_among ps other word

abbrev pub terminal : TokenKind → List ℕ → Kind
terminal of.Lower word = kind.LowerName
terminal of.Upper word = kind.UpperName
terminal of.TypeVar word = kind.TypeVariable
terminal (of.Number n) word = if nat_lt n LITERAL_LIMIT then kind.Number else kind.LimitNumber
terminal (of.Keyword k) word = keyword_kind k
terminal of.Symbol word = kind_among symbols kind.Reserved word

abbrev pub kind_of : List ℕ → Token → Kind
kind_of text t = terminal t.kind (bytes_of text t)

abbrev pub kinds_of : List ℕ → List Token → List Kind
kinds_of text tokens = map (kind_of text) tokens
