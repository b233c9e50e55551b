use Rattle.lq_meaning_normal_form.proofs.BindersLemmas.Apart.{scoped_are_apart}
use Rattle.lq_meaning_normal_form.proofs.binders.laws.scoped_are_apart.Goals as goal

pub returns : goal.returns
returns c = scoped_are_apart
