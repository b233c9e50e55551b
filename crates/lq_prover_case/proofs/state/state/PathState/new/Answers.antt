use Rattle.lq_prover_case.proofs.StateLemmas.Objects.{new_state}
use Rattle.lq_prover_case.proofs.state.state.PathState.new.Goals as goal

pub invariant_of-result : goal.invariant_of-result
invariant_of-result c = new_state c.new-2.result.items c.in_ok-new.field-0.rows c.new-4.result.entries c.in_ok-objects.objects.facts c.new-2.ensures.items c.in_ok-new.ensures.rows
    c.new-4.ensures.empty c.in_ok-objects.ensures.facts
