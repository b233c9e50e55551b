use Rattle.lq_sound_forms.proofs.PuresLemmas.Pures.{Instancing}
use Rattle.lq_sound_values.proofs.RunsLemmas.Lower as lower
use Rattle.lq_sound_programs.proofs.SafetyLemmas.Blocks.{Forms, block_runs}
use Rattle.lq_sound_programs.proofs.safety.laws.blocks_run.Goals as goal

pub returns : goal.returns
returns c = λ P A O is l Q are by b Δ Γ t a f k h e r s G V al u.
    let law : lower.Lower = record { valid = c.whole_numbers_are_a_point.ensures.valid; truth-by = c.truth_under_substitution.ensures; under-by = c.substitutions.ensures.under; smaller = c.inhabitants_stay.ensures.smaller; extended = c.inhabitants_stay.ensures.extended; stores = c.inhabitants_stay.ensures.stores; calls = c.numbers_below.ensures.calls; elements = c.numbers_below.ensures.elements; subtypes = c.subtypes_fit.ensures.subtypes; bound = c.subtypes_fit.ensures.bound; thin = c.like_types_fit.ensures.thin; put = c.like_types_fit.ensures.put; inside = c.parts_step.ensures.inside; wait = c.parts_step.ensures.wait; behind = c.closing.ensures.behind; one = c.closing.ensures.one; join = c.closing.ensures.together } in
    let inst : Instancing = record { there = c.instances_fit.ensures.there; on = c.instances_stay.ensures.symbols; keeps = c.simple_types_are_kept.ensures } in
    let forms : Forms = record { law = law; inst = inst; tuples = c.tuples_run.ensures.tuples; firsts = c.tuples_run.ensures.matches; builds = c.builds_run.ensures; matches = c.matches_run.ensures; subtypes = c.forms_run.ensures.subtypes; lets = c.forms_run.ensures.lets; reads = c.forms_run.ensures.reads; ifs = c.forms_run.ensures.ifs; asserts = c.forms_run.ensures.asserts; prints = c.forms_run.ensures.prints; numbers = c.pures_run.ensures.numbers; conditions = c.pures_run.ensures.conditions; units = c.pures_run.ensures.units; operands = c.calls_run.ensures.operands; calls = c.calls_run.ensures.calls; functions = c.forms_run.ensures.functions; recursions = c.forms_run.ensures.recursions; recursive_values = c.forms_run.ensures.values; erasing = c.simple_types_are_kept.ensures; fetches = c.arrays_run.ensures.fetches; makes = c.arrays_run.ensures.makes; stores = c.arrays_run.ensures.stores; guards = c.pures_run.ensures.guards; quotients = c.quotients_run.ensures.quotients; remainders = c.quotients_run.ensures.remainders } in
    block_runs forms P A O is l Q are (c.simple_types_are_given.ensures P Q are) by b Δ Γ t a f k h e r s G V al u
