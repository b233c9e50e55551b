use Rattle.lq_sound_values.proofs.RunsLemmas.Lower.{Lower}
use Rattle.lq_sound_forms.proofs.PuresLemmas.Pures.{Instancing}
use Rattle.lq_sound_forms.proofs.TuplesLemmas.Arms.{Closings}
use Rattle.lq_sound_forms.proofs.MatchesLemmas.Cases.{patterns_have, match_runs}
use Rattle.lq_sound_forms.proofs.matches.laws.matches_run.Goals as goal

pub returns : goal.returns
returns c = λ P A O is lengths knows by Q are Δ Γ f closed l u arms t a o usable h known_data good on cases default.
    let law : Lower = record { valid = c.whole_numbers_are_a_point.ensures.valid; truth-by = c.truth_under_substitution.ensures; under-by = c.substitutions.ensures.under; smaller = c.inhabitants_stay.ensures.smaller; extended = c.inhabitants_stay.ensures.extended; stores = c.inhabitants_stay.ensures.stores; calls = c.numbers_below.ensures.calls; elements = c.numbers_below.ensures.elements; subtypes = c.subtypes_fit.ensures.subtypes; bound = c.subtypes_fit.ensures.bound; thin = c.like_types_fit.ensures.thin; put = c.like_types_fit.ensures.put; inside = c.parts_step.ensures.inside; wait = c.parts_step.ensures.wait; behind = c.closing.ensures.behind; one = c.closing.ensures.one; join = c.closing.ensures.together } in
    let closings : Closings = record { alike = c.closing.ensures.alike; binds = c.closing.ensures.binds } in
    let inst : Instancing = record { there = c.instances_fit.ensures.there; on = c.instances_stay.ensures.symbols; keeps = c.simple_types_are_kept.ensures } in
    match_runs law inst closings c.calls_run.ensures.operands c.fields_fit.ensures.fields c.fields_fit.ensures.equations P A O is lengths knows by Q are Δ Γ f closed l u o t on arms (patterns_have h) usable known_data good cases default
