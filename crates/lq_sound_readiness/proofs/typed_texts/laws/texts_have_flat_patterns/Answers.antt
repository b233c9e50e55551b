use Rattle.lq_sound_readiness.proofs.TypedTextsLemmas.Parsed.{are_flat}
use Rattle.lq_sound_readiness.proofs.typed_texts.laws.texts_have_flat_patterns.Goals as goal

pub returns : goal.returns
returns c = are_flat c.same_trees.ensures.programs
