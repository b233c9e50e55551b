use Rattle.lq_text_tree.specs.MlType as ml
use Rattle.lq_sound_values.proofs.RunsLemmas.Lower.{Lower}
use Rattle.lq_sound_forms.proofs.PuresLemmas.Pures.{Instancing, pure_is}
use Rattle.lq_sound_forms.proofs.CallsLemmas.Calling.{calls_run}
use Rattle.lq_sound_forms.proofs.CallsLemmas.Operands.{operand_runs}
use Rattle.lq_sound_forms.proofs.calls.laws.calls_run.Goals as goal

pub returns-clause-operands : goal.returns-clause-operands
returns-clause-operands c = λ P A O is l by Q are Δ Γ f k e a h o u.
    let law : Lower = record { valid = c.whole_numbers_are_a_point.ensures.valid; truth-by = c.truth_under_substitution.ensures; under-by = c.substitutions.ensures.under; smaller = c.inhabitants_stay.ensures.smaller; extended = c.inhabitants_stay.ensures.extended; stores = c.inhabitants_stay.ensures.stores; calls = c.numbers_below.ensures.calls; elements = c.numbers_below.ensures.elements; subtypes = c.subtypes_fit.ensures.subtypes; bound = c.subtypes_fit.ensures.bound; thin = c.like_types_fit.ensures.thin; put = c.like_types_fit.ensures.put; inside = c.parts_step.ensures.inside; wait = c.parts_step.ensures.wait; behind = c.closing.ensures.behind; one = c.closing.ensures.one; join = c.closing.ensures.together } in
    let inst : Instancing = record { there = c.instances_fit.ensures.there; on = c.instances_stay.ensures.symbols; keeps = c.simple_types_are_kept.ensures } in
    operand_runs law inst c.twins_fit.ensures.twins P A O is l by Q are Δ Γ f k e a (pure_is Q Δ e a h) o u

pub returns-clause-calls : goal.returns-clause-calls
returns-clause-calls c = λ P A O is l by Q are Δ Γ f k g e a b h i o p u v d z.
    let law : Lower = record { valid = c.whole_numbers_are_a_point.ensures.valid; truth-by = c.truth_under_substitution.ensures; under-by = c.substitutions.ensures.under; smaller = c.inhabitants_stay.ensures.smaller; extended = c.inhabitants_stay.ensures.extended; stores = c.inhabitants_stay.ensures.stores; calls = c.numbers_below.ensures.calls; elements = c.numbers_below.ensures.elements; subtypes = c.subtypes_fit.ensures.subtypes; bound = c.subtypes_fit.ensures.bound; thin = c.like_types_fit.ensures.thin; put = c.like_types_fit.ensures.put; inside = c.parts_step.ensures.inside; wait = c.parts_step.ensures.wait; behind = c.closing.ensures.behind; one = c.closing.ensures.one; join = c.closing.ensures.together } in
    let inst : Instancing = record { there = c.instances_fit.ensures.there; on = c.instances_stay.ensures.symbols; keeps = c.simple_types_are_kept.ensures } in
    calls_run law inst c.forms_run.ensures.calls c.twins_fit.ensures.twins c.twins_fit.ensures.applied P A O is l by Q are Δ Γ f k g e a b (pure_is Q Δ g (ml.arrow a b) h) (pure_is Q Δ e a i) o p u v d z
