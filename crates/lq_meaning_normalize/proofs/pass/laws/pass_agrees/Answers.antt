use Rattle.lq_meaning_normalize.proofs.PassLemmas.Agreement.{pass_agrees}
use Rattle.lq_meaning_normalize.proofs.pass.laws.pass_agrees.Goals as goal

pub returns : goal.returns
returns c = pass_agrees
