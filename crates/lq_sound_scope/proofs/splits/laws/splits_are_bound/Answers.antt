use Rattle.lq_sound_scope.proofs.SplitsLemmas.Splits.{splits_bound}
use Rattle.lq_sound_scope.proofs.splits.laws.splits_are_bound.Goals as goal

pub returns : goal.returns
returns c = splits_bound c.names_are_kept.ensures
