use Rattle.std.proofs.Common.{[], refl}
use Rattle.lq_sound_forms.proofs.PuresLemmas.Pures.{Instancing}
use Rattle.lq_sound_values.proofs.RunsLemmas.Lower.{Lower}
use Rattle.lq_sound_programs.proofs.PlainLemmas.Scoping.{program_scoped}
use Rattle.lq_sound_programs.proofs.plain.laws.plain_programs_are_safe.Goals as goal
use Rattle.lq_sound_programs.specs.Safety.Programs.{no_symbols}

pub returns : goal.returns
returns c = λ P A O is lengths Q are p h r s.
    let law : Lower = record { valid = c.whole_numbers_are_a_point.ensures.valid; truth-by = c.truth_under_substitution.ensures; under-by = c.substitutions.ensures.under; smaller = c.inhabitants_stay.ensures.smaller; extended = c.inhabitants_stay.ensures.extended; stores = c.inhabitants_stay.ensures.stores; calls = c.numbers_below.ensures.calls; elements = c.numbers_below.ensures.elements; subtypes = c.subtypes_fit.ensures.subtypes; bound = c.subtypes_fit.ensures.bound; thin = c.like_types_fit.ensures.thin; put = c.like_types_fit.ensures.put; inside = c.parts_step.ensures.inside; wait = c.parts_step.ensures.wait; behind = c.closing.ensures.behind; one = c.closing.ensures.one; join = c.closing.ensures.together } in
    let inst : Instancing = record { there = c.instances_fit.ensures.there; on = c.instances_stay.ensures.symbols; keeps = c.simple_types_are_kept.ensures } in
    c.checks_are_safe.ensures P A O is lengths Q are p h r (program_scoped law inst c.subtypes_are_apart.ensures P A O is c.pures_run.ensures.types no_symbols [] p tt (λ k. refl) r s)
