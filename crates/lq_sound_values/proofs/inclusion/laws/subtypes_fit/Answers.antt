use Rattle.lq_sound_values.proofs.InclusionLemmas.Knowing.{known_bind}
use Rattle.lq_sound_values.proofs.InclusionLemmas.Subtypes.{sub_below}
use Rattle.lq_sound_values.proofs.InclusionLemmas.Truths.{Lower}
use Rattle.lq_sound_values.proofs.inclusion.laws.subtypes_fit.Goals as goal

pub returns-clause-subtypes : goal.returns-clause-subtypes
returns-clause-subtypes c = λ S is Γ L R d a σ by k.
    let law : Lower = record { valid = c.whole_numbers_are_a_point.ensures.valid; truth-by = c.truth_under_substitution.ensures; under-by = c.substitutions.ensures.under } in
    sub_below law c.datatypes_fit.ensures.datatypes S.setting S.assignment S.objects is.scoped is.covariant d a σ by k

pub returns-clause-bound : goal.returns-clause-bound
returns-clause-bound c = λ S is Γ σ x T v m k h t.
    let law : Lower = record { valid = c.whole_numbers_are_a_point.ensures.valid; truth-by = c.truth_under_substitution.ensures; under-by = c.substitutions.ensures.under } in
    known_bind law S is.scoped Γ σ x T v m k h t
