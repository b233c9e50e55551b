use Rattle.lq_cases_text.proofs.resolve.bound.bound_of.Goals as goal

pub resolved-requires : goal.resolved-requires
resolved-requires c = c.parsed_programs_have_places.ensures _ _ _ _ c.in-Ok-parse_program.ensures.parsed.ok
