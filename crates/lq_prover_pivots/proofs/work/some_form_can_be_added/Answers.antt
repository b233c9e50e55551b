use Rattle.lq_prover_pivots.proofs.WorkLemmas.Example.{some_form}
use Rattle.lq_prover_pivots.proofs.work.some_form_can_be_added.Goals as goal

pub returns : goal.returns
returns c = some_form
