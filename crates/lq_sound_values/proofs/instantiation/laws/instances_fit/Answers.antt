use Rattle.std.proofs.Common.{refl}
use Rattle.lq_sound_values.proofs.InstantiationLemmas.Closing.{own_top, closed_like}
use Rattle.lq_sound_values.proofs.InstantiationLemmas.Instancing.{instanced_both}
use Rattle.lq_sound_values.proofs.InstantiationLemmas.Padding.{instance_there}
use Rattle.lq_sound_values.proofs.instantiation.laws.instances_fit.Goals as goal

pub returns-clause-closed : goal.returns-clause-closed
returns-clause-closed c = λ S is t n σ by to.
    c.like_types_fit.ensures.like S is σ σ by to t t (closed_like S t n σ by to) (own_top S σ t)

pub returns-clause-instanced : goal.returns-clause-instanced
returns-clause-instanced c = λ S is Ts P on positions t below outside σ by.
    instanced_both c.datatypes_fit.ensures.datatypes S is Ts P on positions σ by t below outside σ σ (λ y h. refl) (λ y h. refl)

pub returns-clause-there : goal.returns-clause-there
returns-clause-there c = instance_there c.datatypes_fit.ensures.datatypes
