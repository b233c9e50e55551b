use Rattle.lq_refined_measures.proofs.ValuesLemmas.Numbers.{values_have_numbers}
use Rattle.lq_refined_measures.proofs.values.laws.values_have_numbers.Goals as goal

pub returns : goal.returns
returns c = values_have_numbers
