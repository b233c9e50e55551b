use Rattle.lq_sound_readiness.proofs.UsesLemmas.Typed.{typed_fit}
use Rattle.lq_sound_readiness.proofs.uses.laws.typed_uses_fit.Goals as goal

pub returns : goal.returns
returns c = typed_fit c.visits_are_rules.ensures c.scoped_visits_are_in.ensures
