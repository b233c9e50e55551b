use Rattle.lq_meaning_steps.specs.Model.Program.{started}
use Rattle.lq_meaning_steps.proofs.ModelLemmas.Runs.{stays_over}
use Rattle.lq_meaning_steps.proofs.model.laws.over_stays.Goals as goal

pub returns : goal.returns
returns c = λ is input n m h. stays_over n m (started is input) h
