use Rattle.lq_refined_measures.proofs.ValuesLemmas.Equations.{equations_hold}
use Rattle.lq_refined_measures.proofs.values.laws.equations_hold.Goals as goal

pub returns : goal.returns
returns c = equations_hold
