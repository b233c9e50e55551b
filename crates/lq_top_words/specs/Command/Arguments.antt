-- The command as `clap` is told of it.
use Rattle.std.specs.Prelude.{true, Some, codes}
use Rattle.clap.specs.Walk.{Rule, Text}
use Rattle.clap.specs.Simple.{App, new_app, new_rule, with_rule}
use Rattle.clap.specs.Matches.{first_value}
use Rattle.clap.specs.declared.parser.matches.Found.{Found}
use Rattle.lq_top_words.specs.Command.Line.{Line}

-- an argument that stands by itself and is wanted
abbrev pub positional : Text → Rule
positional id = record (new_rule id) { required = true }

-- an option with a value
abbrev pub option : Text → Rule
option id = record (new_rule id) { long = Some id }

unfoldable pub arguments : App
arguments = with_rule (with_rule (with_rule (with_rule (with_rule (new_app (codes "lq"))
    (positional (codes "MODE"))) (positional (codes "SUBJECT"))) (option (codes "quals")))
    (option (codes "measures"))) (option (codes "pivots"))

-- what a parse found
abbrev pub line_found : Found → Line
line_found f = record {
  mode = first_value f (codes "MODE");
  subject = first_value f (codes "SUBJECT");
  quals = first_value f (codes "quals");
  measures = first_value f (codes "measures");
  pivots = first_value f (codes "pivots");
}
