use Rattle.lq_refined_types.proofs.PartsLemmas.Refuting.{one_is_refuted, others_stay, refuted_go}
use Rattle.lq_refined_types.proofs.parts.laws.refuted_instances.Goals as goal

pub returns-clause-one : goal.returns-clause-one
returns-clause-one c = one_is_refuted

pub returns-clause-refuted : goal.returns-clause-refuted
returns-clause-refuted c = refuted_go

pub returns-clause-others : goal.returns-clause-others
returns-clause-others c = others_stay
