use Rattle.lq_meaning_normal_form.proofs.TypesLemmas.Keeps.{keep-types}
use Rattle.lq_meaning_normal_form.proofs.types.laws.normal_form_keeps_types.Goals as goal

pub returns : goal.returns
returns c = keep-types
