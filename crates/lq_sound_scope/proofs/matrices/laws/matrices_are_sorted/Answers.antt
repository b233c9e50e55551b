use Rattle.lq_sound_scope.proofs.MatricesLemmas.Matrices.{entries_sorted}
use Rattle.lq_sound_scope.proofs.matrices.laws.matrices_are_sorted.Goals as goal

pub returns : goal.returns
returns c = entries_sorted
