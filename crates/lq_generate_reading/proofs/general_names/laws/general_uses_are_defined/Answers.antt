use Rattle.lq_generate_reading.proofs.GeneralNamesLemmas.Uses.{uses_are_defined}
use Rattle.lq_generate_reading.proofs.general_names.laws.general_uses_are_defined.Goals as goal

pub returns : goal.returns
returns c = uses_are_defined
