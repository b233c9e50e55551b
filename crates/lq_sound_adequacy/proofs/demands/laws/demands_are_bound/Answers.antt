use Rattle.lq_sound_adequacy.proofs.DemandsLemmas.Demands.{demands_bound}
use Rattle.lq_sound_adequacy.proofs.demands.laws.demands_are_bound.Goals as goal

pub returns : goal.returns
returns c = demands_bound
