use Rattle.lq_cases_text.proofs.sorts.told.program_of.Goals as goal

pub returns-in-Ok-parse_program : goal.returns-in-Ok-parse_program
returns-in-Ok-parse_program c = c.parsed_programs_have_places.ensures _ _ _ _ c.in-Ok-parse_program.ensures.parsed.ok
