use Rattle.lq_generate_reading.proofs.GeneralNamesLemmas.Uses.{uses_have_texts}
use Rattle.lq_generate_reading.proofs.general_names.laws.general_uses_have_texts.Goals as goal

pub returns : goal.returns
returns c = uses_have_texts
