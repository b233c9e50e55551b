use Rattle.lq_meaning_normal_form.proofs.TypesLemmas.Scoped.{are-plain}
use Rattle.lq_meaning_normal_form.proofs.types.laws.scoped_programs_are_plain.Goals as goal

pub returns : goal.returns
returns c = are-plain
