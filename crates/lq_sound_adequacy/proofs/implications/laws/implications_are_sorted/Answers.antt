use Rattle.lq_sound_adequacy.proofs.ImplicationsLemmas.Implications.{implications_sorted}
use Rattle.lq_sound_adequacy.proofs.implications.laws.implications_are_sorted.Goals as goal

pub returns : goal.returns
returns c =
    implications_sorted c.hypotheses_are_over.ensures c.obligations_are_bound.ensures c.obligations_are_sorted.ensures c.obligations_are_implications.ensures
    c.obligations_are_shaped.ensures
