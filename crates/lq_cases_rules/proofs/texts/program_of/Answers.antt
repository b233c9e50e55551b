use Rattle.lq_text_lexer.specs.Reading.{tokens_of}
use Rattle.lq_cases_rules.proofs.texts.program_of.Goals as goal

pub returns-in-Ok-parse_program : goal.returns-in-Ok-parse_program
returns-in-Ok-parse_program c = record {
  text = c.args.text.now;
  names = c.parse_program.new.names;
  tokens = tokens_of c.in-Ok.tokens;
  read = c.in-Ok-parse_program.ensures.parsed.ok;
  places = c.parsed_programs_have_places.ensures _ _ _ _ c.in-Ok-parse_program.ensures.parsed.ok;
}
