use Rattle.lq_prover_pivots.proofs.WorkLemmas.Extension.{forms_can_be_added}
use Rattle.lq_prover_pivots.proofs.work.forms_can_be_added.Goals as goal

pub returns : goal.returns
returns c = forms_can_be_added
