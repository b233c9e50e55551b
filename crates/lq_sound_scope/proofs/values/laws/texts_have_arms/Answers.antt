use Rattle.lq_sound_scope.proofs.ValuesLemmas.Parsed.{texts_armed}
use Rattle.lq_sound_scope.proofs.values.laws.texts_have_arms.Goals as goal

pub returns : goal.returns
returns c = texts_armed c.same_trees.ensures.programs
