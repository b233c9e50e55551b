use Rattle.lq_generate_reading.proofs.SourceNamesLemmas.Normal.{texts_kept}
use Rattle.lq_generate_reading.proofs.source_names.laws.normal_forms_keep_texts.Goals as goal

pub returns : goal.returns
returns c = texts_kept
