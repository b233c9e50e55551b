use Rattle.lq_sound_readiness.proofs.NormalTextsLemmas.Ruled.{have-rules}
use Rattle.lq_sound_readiness.proofs.normal_texts.laws.typed_programs_have_rules.Goals as goal

pub returns : goal.returns
returns c = have-rules
