use Rattle.lq_meaning_normal_form.proofs.TypesLemmas.Programs.{keep-given-types-of-programs}
use Rattle.lq_meaning_normal_form.proofs.types.laws.programs_keep_given_types.Goals as goal

pub returns : goal.returns
returns c = keep-given-types-of-programs
