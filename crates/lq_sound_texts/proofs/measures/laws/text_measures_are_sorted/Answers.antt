use Rattle.lq_sound_texts.proofs.MeasuresLemmas.Sorts.{measures_are_sorted}
use Rattle.lq_sound_texts.proofs.measures.laws.text_measures_are_sorted.Goals as goal

pub returns : goal.returns
returns c = measures_are_sorted c.measures_become.ensures
