use Rattle.lq_refined_types.proofs.RenumberingLemmas.Renumbering.{twice}
use Rattle.lq_refined_types.proofs.renumbering.laws.renumbering_twice_adds.Goals as goal

pub returns : goal.returns
returns c = twice
