-- The reserved words of each text.
use Rattle.std.specs.Prelude.{ℕ, List, [], ◌∷◌, codes, Bool, ◌||◌, Option, Some, None, if◌then◌else◌}
use Rattle.std.specs.List.{list_any}
use Rattle.std.specs.Str.{bytes_eq}
use Rattle.lq_base_names.specs.declared.place.TextKind.{TextKind}
use Rattle.lq_base_names.specs.declared.place.TextKind.TheVariants.{Program, Measures, Quals}
use Rattle.lq_text_lexer.specs.declared.keyword.Keyword.{Keyword}
use Rattle.lq_text_lexer.specs.declared.keyword.Keyword.TheVariants as keyword

-- words of literals and operators
abbrev pub operator_words : List (List ℕ × Keyword)
operator_words =
    (codes "assert", keyword.Assert)
    ∷ (codes "false", keyword.False)
    ∷ (codes "mod", keyword.Mod)
    ∷ (codes "not", keyword.Not)
    ∷ (codes "true", keyword.True)
    ∷ []

-- words of bindings and definitions
abbrev pub binding_words : List (List ℕ × Keyword)
binding_words =
    (codes "fun", keyword.Fun)
    ∷ (codes "in", keyword.In)
    ∷ (codes "let", keyword.Let)
    ∷ (codes "of", keyword.Of)
    ∷ (codes "rec", keyword.Rec)
    ∷ (codes "type", keyword.Type)
    ∷ []

-- words of branches and blocks
abbrev pub branch_words : List (List ℕ × Keyword)
branch_words =
    (codes "begin", keyword.Begin)
    ∷ (codes "else", keyword.Else)
    ∷ (codes "end", keyword.End)
    ∷ (codes "if", keyword.If)
    ∷ (codes "match", keyword.Match)
    ∷ (codes "then", keyword.Then)
    ∷ (codes "with", keyword.With)
    ∷ []

-- words that begin the entries of the qualifier text and of the measure text, and are names in programs
abbrev pub heading_words : List (List ℕ × Keyword)
heading_words =
    (codes "measure", keyword.Measure)
    ∷ (codes "qualif", keyword.Qualif)
    ∷ []

-- words of OCaml's modules and objects, which no rule uses
abbrev pub module_words : List (List ℕ)
module_words = codes "external" ∷ codes "functor" ∷ codes "include" ∷ codes "module" ∷ codes "object" ∷ codes "open" ∷ codes "sig" ∷ codes "struct" ∷ []

-- words of OCaml's loops and exceptions, which no rule uses
abbrev pub loop_words : List (List ℕ)
loop_words = codes "do" ∷ codes "done" ∷ codes "downto" ∷ codes "exception" ∷ codes "for" ∷ codes "to" ∷ codes "try" ∷ codes "when" ∷ codes "while" ∷ []

-- further words of OCaml that no rule uses
abbrev pub other_words : List (List ℕ)
other_words = codes "and" ∷ codes "as" ∷ codes "function" ∷ codes "lazy" ∷ codes "mutable" ∷ codes "or" ∷ codes "val" ∷ []

abbrev pub is_among : List (List ℕ) → List ℕ → Bool
is_among words word = list_any (λ w. bytes_eq w word) words

abbrev pub is_unused : List ℕ → Bool
is_unused word = is_among module_words word || is_among loop_words word || is_among other_words word

abbrev pub unused_word : List ℕ → Option Keyword
unused_word word = if is_unused word then Some keyword.Unused else None

-- the keyword beside this word, or else the other answer
abbrev pub keyword_among : List (List ℕ × Keyword) → Option Keyword → List ℕ → Option Keyword
keyword_among [] other word = other
keyword_among (p ∷ ps) other word = if bytes_eq word p.0 then Some p.1 else keyword_among ps other word

-- the words that are names in no text
abbrev pub reserved_word : List ℕ → Option Keyword
reserved_word word =
    keyword_among operator_words (keyword_among binding_words (keyword_among branch_words (unused_word word) word) word) word

-- the word is no name in this text, and which keyword it is
abbrev pub keyword_of : TextKind → List ℕ → Option Keyword
keyword_of Program word = reserved_word word
keyword_of Measures word = keyword_among heading_words (reserved_word word) word
keyword_of Quals word = keyword_among heading_words (reserved_word word) word
