use Rattle.lq_sound_readiness.proofs.NormalTextsLemmas.Parsed.{are-written}
use Rattle.lq_sound_readiness.proofs.normal_texts.laws.parsed_programs_are_written.Goals as goal

pub returns : goal.returns
returns c = are-written c.same_trees.ensures.programs
