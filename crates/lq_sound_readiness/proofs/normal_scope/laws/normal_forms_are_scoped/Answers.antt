use Rattle.lq_sound_readiness.proofs.NormalScopeLemmas.Scope.{are-scoped-still}
use Rattle.lq_sound_readiness.proofs.normal_scope.laws.normal_forms_are_scoped.Goals as goal

pub returns : goal.returns
returns c = are-scoped-still
