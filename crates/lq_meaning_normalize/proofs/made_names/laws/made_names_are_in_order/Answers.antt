use Rattle.lq_meaning_normalize.proofs.MadeNamesLemmas.Numbered.{alone, in-order}
use Rattle.lq_meaning_normalize.proofs.made_names.laws.made_names_are_in_order.Goals as goal

pub returns-clause-order : goal.returns-clause-order
returns-clause-order c = in-order

pub returns-clause-alone : goal.returns-clause-alone
returns-clause-alone c = alone
