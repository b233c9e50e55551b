use Rattle.lq_prover_case.proofs.ObjectsLemmas.Chains.{named_next}
use Rattle.lq_prover_case.proofs.objects.objects.named.Goals as goal

pub loop-object-preserved : goal.loop-object-preserved
loop-object-preserved c = named_next c.loop-object.object c.loop-object.classes c.add_term.new.self c.in_ok-no_arguments.no_arguments c.in_ok-add_term.field-0
    c.loop-object.invariant c.in_ok-no_arguments.ensures c.in_ok-add_term.ensures.ok
