use Rattle.lq_sound_adequacy.proofs.TextsLemmas.Texts.{implications_bound}
use Rattle.lq_sound_adequacy.proofs.texts.laws.text_implications_are_bound.Goals as goal

pub returns : goal.returns
returns c = implications_bound c.texts_are_posed.ensures c.implications_are_bound.ensures c.obligations_are_implications.ensures
