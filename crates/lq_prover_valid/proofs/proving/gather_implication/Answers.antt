use Rattle.lq_logic_predicates.specs.PredView.{implication_of}
use Rattle.lq_prover_valid.proofs.proving.gather_implication.Goals as goal

pub returns-in-Ok-Some-first_past_application-clause-stop : goal.returns-in-Ok-Some-first_past_application-clause-stop
returns-in-Ok-Some-first_past_application-clause-stop c =
    (rw c.in-Ok-Some-first_past_application.field-0-is at c.in-Ok-Some-first_past_application.ensures.some) (implication_of c.args.implication.now) c.in-Ok.ensures
    (rw c.in-Ok-Some.field-0-is at c.in-Ok-Some.ensures.gathers)

pub returns-in-Ok-None-first_past_application-clause-gathers : goal.returns-in-Ok-None-first_past_application-clause-gathers
returns-in-Ok-None-first_past_application-clause-gathers c =
    (rw c.in-Ok-None-first_past_application.field-0-is at c.in-Ok-None-first_past_application.ensures.none) (implication_of c.args.implication.now) c.in-Ok.ensures
    (rw c.in-Ok-Some.field-0-is at c.in-Ok-Some.ensures.gathers)
