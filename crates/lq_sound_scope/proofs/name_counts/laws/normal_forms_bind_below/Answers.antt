use Rattle.lq_sound_scope.proofs.NameCountsLemmas.Below.{bind-below}
use Rattle.lq_sound_scope.proofs.name_counts.laws.normal_forms_bind_below.Goals as goal

pub returns : goal.returns
returns c = bind-below c.scoped_bind_once.ensures c.made_names_run.ensures
