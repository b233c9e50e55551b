-- A command line: what stands at its places, each of which is filled once at most.
use Rattle.std.specs.Prelude.{ℕ, List, [], ◌∷◌, Option, Some, None, option_and_then, is_some, drop, not}
use Rattle.std.specs.Prelude.{◌&&◌, if◌then◌else◌, codes}
use Rattle.std.specs.Str.{bytes_eq}
use Rattle.lq_top_words.specs.Command.Pieces.{Piece, Text, given, pieces, single}

pub data Place : Type 0 where
  the_mode : Place
  the_subject : Place
  the_quals : Place
  the_measures : Place
  the_pivots : Place

pub record Line : Type 0 where
  pub mode : Option Text
  pub subject : Option Text
  pub quals : Option Text
  pub measures : Option Text
  pub pivots : Option Text

abbrev pub blank : Line
blank = record { mode = None; subject = None; quals = None; measures = None; pivots = None }

abbrev pub at_place : Place → Line → Option Text
at_place the_mode line = line.mode
at_place the_subject line = line.subject
at_place the_quals line = line.quals
at_place the_measures line = line.measures
at_place the_pivots line = line.pivots

abbrev pub with_place : Place → Text → Line → Line
with_place the_mode text line = record line { mode = Some text }
with_place the_subject text line = record line { subject = Some text }
with_place the_quals text line = record line { quals = Some text }
with_place the_measures text line = record line { measures = Some text }
with_place the_pivots text line = record line { pivots = Some text }

-- the place of an option, by the name behind its two hyphens
abbrev pub place_named : Text → Option Place
place_named name = if bytes_eq (codes "quals") name then Some the_quals
    else (if bytes_eq (codes "measures") name then Some the_measures
    else (if bytes_eq (codes "pivots") name then Some the_pivots else None))

-- the first word that stands by itself is the mode, and the second the subject
abbrev pub next_place : Line → Option Place
next_place line = if not (is_some line.mode) then Some the_mode
    else (if not (is_some line.subject) then Some the_subject else None)

abbrev pub place_of : Piece → Line → Option Place
place_of (given name value) line = place_named name
place_of (single word) line = next_place line

abbrev pub text_of : Piece → Text
text_of (given name value) = value
text_of (single word) = word

-- a text comes to a place that is empty
abbrev pub put : Option Place → Text → Line → Option Line
put None text line = None
put (Some place) text line =
    if is_some (at_place place line) then None else Some (with_place place text line)

abbrev pub filled : List Piece → Line → Option Line
filled [] line = Some line
filled (piece ∷ rest) line =
    option_and_then (filled rest) (put (place_of piece line) (text_of piece) line)

-- both words are wanted
abbrev pub complete : Line → Option Line
complete line = if is_some line.mode && is_some line.subject then Some line else None

-- what stands at the places of the words, the first of which is the program's name
abbrev pub line_of : List Text → Option Line
line_of words = option_and_then complete
    (option_and_then (λ ps. filled ps blank) (pieces (drop 1 words) None))
