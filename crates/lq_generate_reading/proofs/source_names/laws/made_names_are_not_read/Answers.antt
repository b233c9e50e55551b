use Rattle.lq_generate_reading.proofs.SourceNamesLemmas.Reading.{programs_same}
use Rattle.lq_generate_reading.proofs.source_names.laws.made_names_are_not_read.Goals as goal

pub returns : goal.returns
returns c = programs_same
