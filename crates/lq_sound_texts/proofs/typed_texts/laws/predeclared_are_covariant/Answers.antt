use Rattle.lq_sound_texts.proofs.TypedTextsLemmas.Predeclared.{predeclared_covariant}
use Rattle.lq_sound_texts.proofs.typed_texts.laws.predeclared_are_covariant.Goals as goal

pub returns : goal.returns
returns c = predeclared_covariant
