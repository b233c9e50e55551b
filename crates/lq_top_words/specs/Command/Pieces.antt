-- What the words of a command line are: options with their values, and words that stand by themselves.
use Rattle.std.specs.Prelude.{ℕ, List, [], ◌∷◌, map, Option, Some, None, option_map, if◌then◌else◌, codes}
use Rattle.std.specs.Str.{bytes_eq}
use Rattle.clap.specs.Lexer.{long_of, short_of}

abbrev pub Text : Type 0
Text = List ℕ

-- how a word looks: it is `--`; it is `--name` or `--name=value`; it begins with one hyphen, behind which
-- something stands; or it is any other
pub data Look : Type 0 where
  dashes : Look
  long : Text → Option Text → Look
  short : Look
  plain : Look

abbrev pub hyphened : Option (Text × Option Text) → Option Text → Look
hyphened (Some name) flags = long name.0 name.1
hyphened None (Some flags) = short
hyphened None None = plain

abbrev pub look : Text → Look
look word = if bytes_eq word (codes "--") then dashes else hyphened (long_of word) (short_of word)

-- an option's name with its value, or a word that stands by itself
pub data Piece : Type 0 where
  given : Text → Text → Piece
  single : Text → Piece

-- a word, where an option waits for its value (`Some` with its name) or none does. A value or a word by
-- itself is plain. Behind `--` each word stands by itself
abbrev pub met : Look → Text → Option Text → List Text → (Option Text → Option (List Piece))
    → Option (List Piece)
met dashes word None rest next = Some (map single rest)
met (long name None) word None rest next = next (Some name)
met (long name (Some value)) word None rest next =
    option_map (λ pieces. given name value ∷ pieces) (next None)
met plain word None rest next = option_map (λ pieces. single word ∷ pieces) (next None)
met plain word (Some name) rest next = option_map (λ pieces. given name word ∷ pieces) (next None)
met _ word _ rest next = None

-- the pieces of the words, where they can be read so
abbrev pub pieces : List Text → Option Text → Option (List Piece)
pieces [] None = Some []
pieces [] (Some name) = None
pieces (word ∷ rest) waiting = met (look word) word waiting rest (pieces rest)
