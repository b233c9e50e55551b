use Rattle.lq_text_qualifiers.proofs.SortingLemmas.Measuring.{measures_become}
use Rattle.lq_text_qualifiers.proofs.sorting.laws.measures_become.Goals as goal

pub returns : goal.returns
returns c = measures_become
