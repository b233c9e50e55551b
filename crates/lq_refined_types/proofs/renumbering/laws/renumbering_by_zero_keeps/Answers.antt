use Rattle.lq_refined_types.proofs.RenumberingLemmas.Renumbering.{kept}
use Rattle.lq_refined_types.proofs.renumbering.laws.renumbering_by_zero_keeps.Goals as goal

pub returns : goal.returns
returns c = kept
