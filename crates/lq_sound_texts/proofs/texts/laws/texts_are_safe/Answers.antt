use Rattle.lq_sound_texts.proofs.TextsLemmas.Texts.{texts_safe}
use Rattle.lq_sound_texts.proofs.texts.laws.texts_are_safe.Goals as goal

pub returns : goal.returns
returns c = texts_safe c.texts_are_plain.ensures c.checked_texts_are_safe.ensures c.text_measures_fit.ensures c.measures_are_known.ensures
