use Rattle.lq_meaning_steps.proofs.ModelLemmas.Adequate.{waits, value_stays}
use Rattle.lq_meaning_steps.proofs.ModelLemmas.Rows.{frame_inside}
use Rattle.lq_meaning_steps.proofs.model.laws.parts_step.Goals as goal

pub returns-clause-inside : goal.returns-clause-inside
returns-clause-inside c = frame_inside

pub returns-clause-wait : goal.returns-clause-wait
returns-clause-wait c = waits

pub returns-clause-rest : goal.returns-clause-rest
returns-clause-rest c = value_stays
