use Rattle.lq_sound_readiness.proofs.TypedTextsLemmas.Suiting.{they_suit}
use Rattle.lq_sound_readiness.proofs.typed_texts.laws.typed_programs_suit.Goals as goal

pub returns : goal.returns
returns c = they_suit
