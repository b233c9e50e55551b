use Rattle.lq_sound_texts.proofs.VarianceLemmas.Datatypes.{covariant}
use Rattle.lq_sound_texts.proofs.variance.laws.named_programs_are_covariant.Goals as goal

pub returns : goal.returns
returns c = covariant
