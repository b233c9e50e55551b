use Rattle.lq_meaning_normal_form.proofs.OutcomesLemmas.ClearPrograms.{named_are_clear}
use Rattle.lq_meaning_normal_form.proofs.outcomes.laws.named_are_clear.Goals as goal

pub returns : goal.returns
returns c = named_are_clear
