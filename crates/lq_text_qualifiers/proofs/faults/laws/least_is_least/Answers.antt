use Rattle.lq_text_qualifiers.proofs.FaultsLemmas.Ordering.{least_is_least}
use Rattle.lq_text_qualifiers.proofs.faults.laws.least_is_least.Goals as goal

pub returns : goal.returns
returns c = least_is_least
