use Rattle.lq_sound_adequacy.proofs.SubtypingsLemmas.Differ.{environments_differ}
use Rattle.lq_sound_adequacy.proofs.subtypings.laws.environments_differ.Goals as goal

pub returns : goal.returns
returns c = environments_differ
