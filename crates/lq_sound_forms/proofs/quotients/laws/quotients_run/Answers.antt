use Rattle.lq_sound_values.proofs.RunsLemmas.Lower.{Lower}
use Rattle.lq_sound_forms.proofs.QuotientsLemmas.Dividing.{quotient_ok, remainder_ok}
use Rattle.lq_sound_forms.proofs.quotients.laws.quotients_run.Goals as goal

pub returns-clause-quotients : goal.returns-clause-quotients
returns-clause-quotients c = λ S by Γ l k d x y closed i j f g v.
    let law : Lower = record { valid = c.whole_numbers_are_a_point.ensures.valid; truth-by = c.truth_under_substitution.ensures; under-by = c.substitutions.ensures.under; smaller = c.inhabitants_stay.ensures.smaller; extended = c.inhabitants_stay.ensures.extended; stores = c.inhabitants_stay.ensures.stores; calls = c.numbers_below.ensures.calls; elements = c.numbers_below.ensures.elements; subtypes = c.subtypes_fit.ensures.subtypes; bound = c.subtypes_fit.ensures.bound; thin = c.like_types_fit.ensures.thin; put = c.like_types_fit.ensures.put; inside = c.parts_step.ensures.inside; wait = c.parts_step.ensures.wait; behind = c.closing.ensures.behind; one = c.closing.ensures.one; join = c.closing.ensures.together } in
    quotient_ok law S by Γ k d x y closed i j f g v l

pub returns-clause-remainders : goal.returns-clause-remainders
returns-clause-remainders c = λ S by Γ l k d x y closed i j f g v.
    let law : Lower = record { valid = c.whole_numbers_are_a_point.ensures.valid; truth-by = c.truth_under_substitution.ensures; under-by = c.substitutions.ensures.under; smaller = c.inhabitants_stay.ensures.smaller; extended = c.inhabitants_stay.ensures.extended; stores = c.inhabitants_stay.ensures.stores; calls = c.numbers_below.ensures.calls; elements = c.numbers_below.ensures.elements; subtypes = c.subtypes_fit.ensures.subtypes; bound = c.subtypes_fit.ensures.bound; thin = c.like_types_fit.ensures.thin; put = c.like_types_fit.ensures.put; inside = c.parts_step.ensures.inside; wait = c.parts_step.ensures.wait; behind = c.closing.ensures.behind; one = c.closing.ensures.one; join = c.closing.ensures.together } in
    remainder_ok law S by Γ k d x y closed i j f g v l
