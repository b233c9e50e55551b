-- The commands that words are.
use Rattle.std.specs.Prelude.{ℕ, Bool, List, Option, Some, None, option_and_then, option_map, length}
use Rattle.std.specs.Prelude.{◌&&◌, if◌then◌else◌, nat_lt, nat_le, codes}
use Rattle.std.specs.List.{list_all}
use Rattle.std.specs.Char.{is_ascii_digit}
use Rattle.std.specs.Str.{bytes_eq}
use Rattle.std.specs.Str.Parse.{digits_value}
use Rattle.lq_top_words.specs.Command.Pieces.{Text}
use Rattle.lq_top_words.specs.Command.Line.{Line, line_of}
use Rattle.lq_top_words.specs.declared.command.command.Mode.{Mode}
use Rattle.lq_top_words.specs.declared.command.command.Mode.TheVariants.{Check, Types, Explain}

-- what a command asks for
pub data Request : Type 0 where
  judge : Mode → Text → Option Text → Option Text → ℕ → Request
  sample : ℕ → ℕ → Request

-- the number that 1 to 10 decimal digits write
abbrev pub numeral_of : Text → Option ℕ
numeral_of text =
    if nat_lt 0 (length text) && (nat_le (length text) 10 && list_all is_ascii_digit text)
    then Some (digits_value 10 text) else None

-- the same, of at most 1,000,000,000
abbrev pub number_of : Text → Option ℕ
number_of text =
    option_and_then (λ n. if nat_le n 1_000_000_000 then Some n else None) (numeral_of text)

-- how many pivots a check of a tableau may take
abbrev pub pivots_of : Option Text → Option ℕ
pivots_of None = Some 67_108_864
pivots_of (Some text) = number_of text

abbrev pub mode_of : Text → Option Mode
mode_of text = if bytes_eq text (codes "check") then Some Check
    else (if bytes_eq text (codes "types") then Some Types
    else (if bytes_eq text (codes "explain") then Some Explain else None))

-- how many functions a sample program may have
abbrev pub count_of : Text → Option ℕ
count_of text = option_and_then (λ n. if nat_le 1 n && nat_le n 2_000 then Some n else None)
    (number_of text)

abbrev pub request_in : Text → Text → Option Text → Option Text → ℕ → Option Request
request_in mode subject measures quals pivots =
    if bytes_eq mode (codes "sample") then option_map (λ count. sample count pivots) (count_of subject)
    else option_map (λ m. judge m subject measures quals pivots) (mode_of mode)

abbrev pub with_words : Option Text → Option Text → Line → ℕ → Option Request
with_words (Some mode) (Some subject) line pivots =
    request_in mode subject line.measures line.quals pivots
with_words _ _ line pivots = None

abbrev pub request_of : Line → Option Request
request_of line = option_and_then (with_words line.mode line.subject line) (pivots_of line.pivots)

-- the command that the words are, the first of which is the program's name
abbrev pub command_of : List Text → Option Request
command_of words = option_and_then request_of (line_of words)

abbrev pub usage_line : Text
usage_line = codes "usage: lq MODE SUBJECT [--quals FILE] [--measures FILE] [--pivots N]\n"
