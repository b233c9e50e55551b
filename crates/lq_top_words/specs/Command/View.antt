-- What values with borrowed texts say.
use Rattle.std.specs.Prelude.{Some, option_map}
use Rattle.lq_top_words.specs.Command.Line.{Line}
use Rattle.lq_top_words.specs.Command.Command.{Request, judge, sample}
use Rattle.lq_top_words.specs.declared.command.line.Line.{Line as Texts}
use Rattle.lq_top_words.specs.declared.command.command.Command.{Command}
use Rattle.lq_top_words.specs.declared.command.command.Command.TheVariants.{Judge, Sample}

abbrev pub line_view : Texts → Line
line_view t = record {
  mode = Some t.mode.now;
  subject = Some t.subject.now;
  quals = option_map (λ text. text.now) t.quals;
  measures = option_map (λ text. text.now) t.measures;
  pivots = option_map (λ text. text.now) t.pivots;
}

abbrev pub request_view : Command → Request
request_view (Judge j) = judge j.mode j.program.now
    (option_map (λ text. text.now) j.measures) (option_map (λ text. text.now) j.quals) j.pivots
request_view (Sample count pivots) = sample count pivots
