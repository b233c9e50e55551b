use Rattle.lq_meaning_normal_form.proofs.TypesLemmas.Given.{all-run}
use Rattle.lq_meaning_normal_form.proofs.types.laws.made_names_run.Goals as goal

pub returns : goal.returns
returns c g nodes k is = all-run g nodes is k
