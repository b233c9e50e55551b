use Rattle.lq_sound_scope.proofs.SplitsLemmas.Splits.{hypotheses_over}
use Rattle.lq_sound_scope.proofs.splits.laws.hypotheses_are_over.Goals as goal

pub returns : goal.returns
returns c = hypotheses_over c.names_are_kept.ensures
