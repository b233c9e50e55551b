use Rattle.lq_sound_adequacy.proofs.TextsLemmas.Texts.{obligations_bound}
use Rattle.lq_sound_adequacy.proofs.texts.laws.text_obligations_are_bound.Goals as goal

pub returns : goal.returns
returns c = obligations_bound c.texts_are_posed.ensures c.obligations_are_bound.ensures
