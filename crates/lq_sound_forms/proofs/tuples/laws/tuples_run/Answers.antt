use Rattle.lq_sound_values.proofs.RunsLemmas.Lower.{Lower}
use Rattle.lq_sound_forms.proofs.PuresLemmas.Pures.{Instancing}
use Rattle.lq_sound_forms.proofs.TuplesLemmas.Arms.{Closings}
use Rattle.lq_sound_forms.proofs.TuplesLemmas.Matching.{pattern_has, first_runs}
use Rattle.lq_sound_forms.proofs.TuplesLemmas.Tupling.{rows_run, tuple_runs}
use Rattle.lq_sound_forms.proofs.tuples.laws.tuples_run.Goals as goal

pub returns-clause-rows : goal.returns-clause-rows
returns-clause-rows c = λ P A O is k by Q are Δ Γ f closed es us h u y r n W σ m.
    let law : Lower = record { valid = c.whole_numbers_are_a_point.ensures.valid; truth-by = c.truth_under_substitution.ensures; under-by = c.substitutions.ensures.under; smaller = c.inhabitants_stay.ensures.smaller; extended = c.inhabitants_stay.ensures.extended; stores = c.inhabitants_stay.ensures.stores; calls = c.numbers_below.ensures.calls; elements = c.numbers_below.ensures.elements; subtypes = c.subtypes_fit.ensures.subtypes; bound = c.subtypes_fit.ensures.bound; thin = c.like_types_fit.ensures.thin; put = c.like_types_fit.ensures.put; inside = c.parts_step.ensures.inside; wait = c.parts_step.ensures.wait; behind = c.closing.ensures.behind; one = c.closing.ensures.one; join = c.closing.ensures.together } in
    let inst : Instancing = record { there = c.instances_fit.ensures.there; on = c.instances_stay.ensures.symbols; keeps = c.simple_types_are_kept.ensures } in
    rows_run law inst c.calls_run.ensures.operands P A O is k by Q are Δ Γ f closed es us h u y r n W σ m

pub returns-clause-tuples : goal.returns-clause-tuples
returns-clause-tuples c = λ P A O is k by Q are Δ Γ f closed es us h u y.
    let law : Lower = record { valid = c.whole_numbers_are_a_point.ensures.valid; truth-by = c.truth_under_substitution.ensures; under-by = c.substitutions.ensures.under; smaller = c.inhabitants_stay.ensures.smaller; extended = c.inhabitants_stay.ensures.extended; stores = c.inhabitants_stay.ensures.stores; calls = c.numbers_below.ensures.calls; elements = c.numbers_below.ensures.elements; subtypes = c.subtypes_fit.ensures.subtypes; bound = c.subtypes_fit.ensures.bound; thin = c.like_types_fit.ensures.thin; put = c.like_types_fit.ensures.put; inside = c.parts_step.ensures.inside; wait = c.parts_step.ensures.wait; behind = c.closing.ensures.behind; one = c.closing.ensures.one; join = c.closing.ensures.together } in
    let inst : Instancing = record { there = c.instances_fit.ensures.there; on = c.instances_stay.ensures.symbols; keeps = c.simple_types_are_kept.ensures } in
    tuple_runs law inst c.calls_run.ensures.operands P A O is k by Q are Δ Γ f closed es us h u y

pub returns-clause-matches : goal.returns-clause-matches
returns-clause-matches c = λ P A O is k by Q are Δ Γ f closed l u q b rest Θ t o usable h d components inner on runs.
    let law : Lower = record { valid = c.whole_numbers_are_a_point.ensures.valid; truth-by = c.truth_under_substitution.ensures; under-by = c.substitutions.ensures.under; smaller = c.inhabitants_stay.ensures.smaller; extended = c.inhabitants_stay.ensures.extended; stores = c.inhabitants_stay.ensures.stores; calls = c.numbers_below.ensures.calls; elements = c.numbers_below.ensures.elements; subtypes = c.subtypes_fit.ensures.subtypes; bound = c.subtypes_fit.ensures.bound; thin = c.like_types_fit.ensures.thin; put = c.like_types_fit.ensures.put; inside = c.parts_step.ensures.inside; wait = c.parts_step.ensures.wait; behind = c.closing.ensures.behind; one = c.closing.ensures.one; join = c.closing.ensures.together } in
    let closings : Closings = record { alike = c.closing.ensures.alike; binds = c.closing.ensures.binds } in
    let inst : Instancing = record { there = c.instances_fit.ensures.there; on = c.instances_stay.ensures.symbols; keeps = c.simple_types_are_kept.ensures } in
    first_runs law inst closings c.datatypes_fit.ensures.datatypes c.calls_run.ensures.operands P A O is k by Q are Δ Γ f closed l u o q (pattern_has P h) usable d components inner b rest t on runs
