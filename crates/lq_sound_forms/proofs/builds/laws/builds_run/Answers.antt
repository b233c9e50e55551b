use Rattle.lq_sound_values.proofs.RunsLemmas.Lower.{Lower}
use Rattle.lq_sound_forms.proofs.BuildsLemmas.Building.{build_runs}
use Rattle.lq_sound_forms.proofs.builds.laws.builds_run.Goals as goal

pub returns : goal.returns
returns c = λ P A O is lengths knows by Q are Δ Γ f closed p i es k us at shape h o may args apart good.
    let law : Lower = record { valid = c.whole_numbers_are_a_point.ensures.valid; truth-by = c.truth_under_substitution.ensures; under-by = c.substitutions.ensures.under; smaller = c.inhabitants_stay.ensures.smaller; extended = c.inhabitants_stay.ensures.extended; stores = c.inhabitants_stay.ensures.stores; calls = c.numbers_below.ensures.calls; elements = c.numbers_below.ensures.elements; subtypes = c.subtypes_fit.ensures.subtypes; bound = c.subtypes_fit.ensures.bound; thin = c.like_types_fit.ensures.thin; put = c.like_types_fit.ensures.put; inside = c.parts_step.ensures.inside; wait = c.parts_step.ensures.wait; behind = c.closing.ensures.behind; one = c.closing.ensures.one; join = c.closing.ensures.together } in
    build_runs law P A O is by Γ closed c.tuples_run.ensures.rows c.fields_fit.ensures.fields c.fields_fit.ensures.equations lengths knows Q are Δ f p i es k us at shape h o may args apart good
