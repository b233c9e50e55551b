use Rattle.lq_sound_scope.proofs.SortsLemmas.Parts.{parts_sorted}
use Rattle.lq_sound_scope.proofs.sorts.laws.parts_are_sorted.Goals as goal

pub returns : goal.returns
returns c = λ unknowns A sorted N ps h. parts_sorted unknowns A sorted N ps h
