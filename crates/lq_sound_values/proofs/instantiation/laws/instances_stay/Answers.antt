use Rattle.lq_sound_values.proofs.InstantiationLemmas.Staying.{names_stay, type_stays}
use Rattle.lq_sound_values.proofs.instantiation.laws.instances_stay.Goals as goal

pub returns-clause-symbols : goal.returns-clause-symbols
returns-clause-symbols c = λ A t Ts P o on. type_stays A P Ts on t o

pub returns-clause-names : goal.returns-clause-names
returns-clause-names c = λ t Ts P o on. names_stay P Ts on t o
