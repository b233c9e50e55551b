-- How texts are refused whose tokens, trees or names are wrong.
use Rattle.std.specs.Prelude.{List, ℕ, ◌++◌, codes, Option, Some, None}
use Rattle.lq_text_lexer.specs.declared.error.LexError.{LexError}
use Rattle.lq_text_lexer.specs.declared.error.LexError.TheVariants as lexing
use Rattle.lq_base_names.specs.declared.place.Place.{Place}
use Rattle.lq_text_parser.specs.declared.parse.error.ParseError.{ParseError}
use Rattle.lq_text_parser.specs.declared.parse.error.ParseError.TheVariants as parsing
use Rattle.lq_text_refusal.specs.declared.refused.Refused.{Refused}
use Rattle.lq_text_refusal.specs.declared.refused.Refused.TheVariants.{At, Named, Wanted}
use Rattle.lq_text_scope.specs.Complaints as names
use Rattle.lq_text_scope.specs.Known.{text_of}
use Rattle.lq_text_qualifiers.specs.Faults.Complaints as sorts
use Rattle.lq_text_front.specs.Texts.Resolution.{Resolution, resolved, in_program, in_measures, in_qualifiers}

-- how a first fault is refused
abbrev pub fault_refusal : LexError → Option Refused
fault_refusal (lexing.BadByte place) = Some (At 1 place)
fault_refusal (lexing.OpenComment place) = Some (At 2 place)
fault_refusal (lexing.LiteralPast place) = Some (At 3 place)
fault_refusal lexing.Memory = None

-- how tokens that are no text are refused
abbrev pub stop_refusal : ParseError → Option Refused
stop_refusal (parsing.Syntax place) = Some (At 4 place)
stop_refusal (parsing.TooDeep place) = Some (At 5 place)
stop_refusal parsing.Memory = None

-- an upper and a lower name with a dot between them
abbrev pub dotted_text : List (List ℕ) → ℕ → ℕ → List ℕ
dotted_text texts m x = text_of texts m ++ codes "." ++ text_of texts x

-- how a complaint about a name of the program is refused
abbrev pub cause_refusal : List (List ℕ) → Place → names.Cause → Refused
cause_refusal texts p (names.unknown x) = Named 6 p (text_of texts x)
cause_refusal texts p (names.unknown_in m x) = Named 6 p (dotted_text texts m x)
cause_refusal texts p (names.twice x) = Named 7 p (text_of texts x)
cause_refusal texts p (names.arity wanted found) = Wanted 8 p wanted found
cause_refusal texts p names.not_positive = At 9 p

-- how a complaint about measures or qualifiers is refused
abbrev pub sort_refusal : List (List ℕ) → Place → sorts.Cause → Refused
sort_refusal texts p (sorts.unknown x) = Named 6 p (text_of texts x)
sort_refusal texts p (sorts.unknown_in m x) = Named 6 p (dotted_text texts m x)
sort_refusal texts p (sorts.twice x) = Named 7 p (text_of texts x)
sort_refusal texts p (sorts.arity wanted found) = Wanted 8 p wanted found
sort_refusal texts p sorts.not_structural = At 10 p
sort_refusal texts p sorts.bad_sort = At 11 p

-- how texts with whose names something is wrong are refused
abbrev pub resolution_refusal : List (List ℕ) → Resolution → Option Refused
resolution_refusal texts (resolved t) = None
resolution_refusal texts (in_program c) = Some (cause_refusal texts c.place c.cause)
resolution_refusal texts (in_measures c) = Some (sort_refusal texts c.place c.cause)
resolution_refusal texts (in_qualifiers c) = Some (sort_refusal texts c.place c.cause)
