use Rattle.lq_meaning_normal_form.proofs.OutcomesLemmas.OnePass.{one_pass}
use Rattle.lq_meaning_normal_form.proofs.outcomes.laws.one_pass.Goals as goal

pub returns : goal.returns
returns c = one_pass
