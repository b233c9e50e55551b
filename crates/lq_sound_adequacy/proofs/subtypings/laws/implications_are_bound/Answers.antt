use Rattle.lq_sound_adequacy.proofs.SubtypingsLemmas.Implications.{implications_bound}
use Rattle.lq_sound_adequacy.proofs.subtypings.laws.implications_are_bound.Goals as goal

pub returns : goal.returns
returns c =
    implications_bound c.splits_are_bound.ensures c.hypotheses_are_over.ensures c.obligations_are_bound.ensures
    c.obligations_are_implications.ensures c.obligations_are_shaped.ensures
