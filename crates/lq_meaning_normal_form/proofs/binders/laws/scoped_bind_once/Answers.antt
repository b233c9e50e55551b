use Rattle.lq_meaning_normal_form.proofs.BindersLemmas.Apart.{scoped_bind_once}
use Rattle.lq_meaning_normal_form.proofs.binders.laws.scoped_bind_once.Goals as goal

pub returns : goal.returns
returns c = scoped_bind_once
