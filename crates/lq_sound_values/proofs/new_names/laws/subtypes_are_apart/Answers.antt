use Rattle.lq_sound_values.proofs.RunsLemmas.Lower.{Lower}
use Rattle.lq_sound_values.proofs.NewNamesLemmas.Parting.{subtype_apart}
use Rattle.lq_sound_values.proofs.new_names.laws.subtypes_are_apart.Goals as goal

pub returns : goal.returns
returns c = λ S is Γ l r k o f p g n d.
    let law : Lower = record { valid = c.whole_numbers_are_a_point.ensures.valid; truth-by = c.truth_under_substitution.ensures; under-by = c.substitutions.ensures.under; smaller = c.inhabitants_stay.ensures.smaller; extended = c.inhabitants_stay.ensures.extended; stores = c.inhabitants_stay.ensures.stores; calls = c.numbers_below.ensures.calls; elements = c.numbers_below.ensures.elements; subtypes = c.subtypes_fit.ensures.subtypes; bound = c.subtypes_fit.ensures.bound; thin = c.like_types_fit.ensures.thin; put = c.like_types_fit.ensures.put; inside = c.parts_step.ensures.inside; wait = c.parts_step.ensures.wait; behind = c.closing.ensures.behind; one = c.closing.ensures.one; join = c.closing.ensures.together } in
    subtype_apart law S.setting S.assignment S.objects is d k f g n
