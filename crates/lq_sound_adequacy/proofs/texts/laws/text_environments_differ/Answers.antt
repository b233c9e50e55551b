use Rattle.lq_sound_adequacy.proofs.TextsLemmas.Texts.{names_differ}
use Rattle.lq_sound_adequacy.proofs.texts.laws.text_environments_differ.Goals as goal

pub returns : goal.returns
returns c = names_differ c.noted_texts_are_ready.ensures c.short_texts_have_twins.ensures c.environments_differ.ensures
