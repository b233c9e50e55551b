use Rattle.lq_refined_types.proofs.RenumberingLemmas.Renumbering.{same_simple}
use Rattle.lq_refined_types.proofs.renumbering.laws.renumbering_keeps_simple_types.Goals as goal

pub returns : goal.returns
returns c = same_simple
