use Rattle.lq_text_qualifiers.proofs.SortingLemmas.Qualified.{qualifiers_become}
use Rattle.lq_text_qualifiers.proofs.sorting.laws.qualifiers_become.Goals as goal

pub returns : goal.returns
returns c = qualifiers_become
