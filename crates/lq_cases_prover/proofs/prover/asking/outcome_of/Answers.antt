use Rattle.std.proofs.Common.{subst}
use Rattle.lq_prover_case.specs.Equations.Naming.{Keeps, objects_of}
use Rattle.lq_cases_prover.proofs.prover.asking.outcome_of.Goals as goal

pub outcome_with-requires-clause-named : goal.outcome_with-requires-clause-named
outcome_with-requires-clause-named c = subst (λ l. Keeps l (objects_of c.in_ok-objects.objects)) c.in_ok-named.ensures c.in_ok-objects.ensures.named
