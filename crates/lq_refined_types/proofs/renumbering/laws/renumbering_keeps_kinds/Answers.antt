use Rattle.lq_refined_types.proofs.RenumberingLemmas.Renumbering.{same_kind}
use Rattle.lq_refined_types.proofs.renumbering.laws.renumbering_keeps_kinds.Goals as goal

pub returns : goal.returns
returns c = same_kind
