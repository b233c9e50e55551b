use Rattle.lq_sound_texts.proofs.MeasuresLemmas.Fitting.{measures_fit}
use Rattle.lq_sound_texts.proofs.measures.laws.text_measures_fit.Goals as goal

pub returns : goal.returns
returns c = measures_fit c.measures_become.ensures
