use Rattle.lq_generate_reading.proofs.SourceNamesLemmas.Resolving.{texts_defined}
use Rattle.lq_generate_reading.proofs.source_names.laws.resolved_programs_define_texts.Goals as goal

pub returns : goal.returns
returns c = texts_defined
