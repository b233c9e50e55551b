use Rattle.lq_sound_scope.proofs.GeneralUsesLemmas.Keeping.{forms_use}
use Rattle.lq_sound_scope.proofs.general_uses.laws.normal_forms_use_before.Goals as goal

pub returns : goal.returns
returns c = forms_use c.made_names_run.ensures
