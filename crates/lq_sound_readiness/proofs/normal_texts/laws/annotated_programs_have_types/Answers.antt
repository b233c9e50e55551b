use Rattle.lq_sound_readiness.proofs.NormalTextsLemmas.Typed.{have-types}
use Rattle.lq_sound_readiness.proofs.normal_texts.laws.annotated_programs_have_types.Goals as goal

pub returns : goal.returns
returns c = have-types
