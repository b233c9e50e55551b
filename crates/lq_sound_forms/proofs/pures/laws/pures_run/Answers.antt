use Rattle.lq_sound_values.proofs.RunsLemmas.Lower.{Lower}
use Rattle.lq_sound_forms.proofs.PuresLemmas.Pures.{Instancing, pure_is, number_runs, condition_runs, unit_runs}
use Rattle.lq_sound_forms.proofs.PuresLemmas.Values.{value_runs, pure_over, condition_guards}
use Rattle.lq_text_tree.specs.MlType as ml
use Rattle.lq_sound_forms.proofs.pures.laws.pures_run.Goals as goal

pub returns-clause-numbers : goal.returns-clause-numbers
returns-clause-numbers c = λ P A O is l by Q are Δ Γ f k e h o.
    let law : Lower = record { valid = c.whole_numbers_are_a_point.ensures.valid; truth-by = c.truth_under_substitution.ensures; under-by = c.substitutions.ensures.under; smaller = c.inhabitants_stay.ensures.smaller; extended = c.inhabitants_stay.ensures.extended; stores = c.inhabitants_stay.ensures.stores; calls = c.numbers_below.ensures.calls; elements = c.numbers_below.ensures.elements; subtypes = c.subtypes_fit.ensures.subtypes; bound = c.subtypes_fit.ensures.bound; thin = c.like_types_fit.ensures.thin; put = c.like_types_fit.ensures.put; inside = c.parts_step.ensures.inside; wait = c.parts_step.ensures.wait; behind = c.closing.ensures.behind; one = c.closing.ensures.one; join = c.closing.ensures.together } in
    let inst : Instancing = record { there = c.instances_fit.ensures.there; on = c.instances_stay.ensures.symbols; keeps = c.simple_types_are_kept.ensures } in
    number_runs law inst P A O is l by Q are Δ Γ f k e (pure_is Q Δ e ml.int h) o

pub returns-clause-conditions : goal.returns-clause-conditions
returns-clause-conditions c = λ P A O is l by Q are Δ Γ f k e h o.
    let law : Lower = record { valid = c.whole_numbers_are_a_point.ensures.valid; truth-by = c.truth_under_substitution.ensures; under-by = c.substitutions.ensures.under; smaller = c.inhabitants_stay.ensures.smaller; extended = c.inhabitants_stay.ensures.extended; stores = c.inhabitants_stay.ensures.stores; calls = c.numbers_below.ensures.calls; elements = c.numbers_below.ensures.elements; subtypes = c.subtypes_fit.ensures.subtypes; bound = c.subtypes_fit.ensures.bound; thin = c.like_types_fit.ensures.thin; put = c.like_types_fit.ensures.put; inside = c.parts_step.ensures.inside; wait = c.parts_step.ensures.wait; behind = c.closing.ensures.behind; one = c.closing.ensures.one; join = c.closing.ensures.together } in
    let inst : Instancing = record { there = c.instances_fit.ensures.there; on = c.instances_stay.ensures.symbols; keeps = c.simple_types_are_kept.ensures } in
    condition_runs law inst P A O is l by Q are Δ Γ f k e (pure_is Q Δ e ml.bool h) o

pub returns-clause-units : goal.returns-clause-units
returns-clause-units c = λ P A O is l by Q are Δ Γ f k e h o.
    let law : Lower = record { valid = c.whole_numbers_are_a_point.ensures.valid; truth-by = c.truth_under_substitution.ensures; under-by = c.substitutions.ensures.under; smaller = c.inhabitants_stay.ensures.smaller; extended = c.inhabitants_stay.ensures.extended; stores = c.inhabitants_stay.ensures.stores; calls = c.numbers_below.ensures.calls; elements = c.numbers_below.ensures.elements; subtypes = c.subtypes_fit.ensures.subtypes; bound = c.subtypes_fit.ensures.bound; thin = c.like_types_fit.ensures.thin; put = c.like_types_fit.ensures.put; inside = c.parts_step.ensures.inside; wait = c.parts_step.ensures.wait; behind = c.closing.ensures.behind; one = c.closing.ensures.one; join = c.closing.ensures.together } in
    let inst : Instancing = record { there = c.instances_fit.ensures.there; on = c.instances_stay.ensures.symbols; keeps = c.simple_types_are_kept.ensures } in
    unit_runs law inst P A O is l by Q are Δ Γ f k e (pure_is Q Δ e ml.unit h) o

pub returns-clause-values : goal.returns-clause-values
returns-clause-values c = λ P A O is l by Q are Δ Γ f k e a h o b.
    let law : Lower = record { valid = c.whole_numbers_are_a_point.ensures.valid; truth-by = c.truth_under_substitution.ensures; under-by = c.substitutions.ensures.under; smaller = c.inhabitants_stay.ensures.smaller; extended = c.inhabitants_stay.ensures.extended; stores = c.inhabitants_stay.ensures.stores; calls = c.numbers_below.ensures.calls; elements = c.numbers_below.ensures.elements; subtypes = c.subtypes_fit.ensures.subtypes; bound = c.subtypes_fit.ensures.bound; thin = c.like_types_fit.ensures.thin; put = c.like_types_fit.ensures.put; inside = c.parts_step.ensures.inside; wait = c.parts_step.ensures.wait; behind = c.closing.ensures.behind; one = c.closing.ensures.one; join = c.closing.ensures.together } in
    let inst : Instancing = record { there = c.instances_fit.ensures.there; on = c.instances_stay.ensures.symbols; keeps = c.simple_types_are_kept.ensures } in
    value_runs law inst P A O is l by Q are Δ Γ f k e a (pure_is Q Δ e a h) o b

pub returns-clause-types : goal.returns-clause-types
returns-clause-types c = λ P A O Γ k e o b.
    let inst : Instancing = record { there = c.instances_fit.ensures.there; on = c.instances_stay.ensures.symbols; keeps = c.simple_types_are_kept.ensures } in
    pure_over inst P A O Γ k e o b

pub returns-clause-guards : goal.returns-clause-guards
returns-clause-guards c = condition_guards
