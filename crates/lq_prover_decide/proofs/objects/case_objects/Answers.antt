use Rattle.lq_prover_case.specs.Equations.Naming.{objects_of}
use Rattle.lq_prover_case.proofs.EquationsLemmas.Sides.{sides_keep}
use Rattle.lq_prover_decide.proofs.objects.case_objects.Goals as goal

pub returns-clause-sides : goal.returns-clause-sides
returns-clause-sides c =
    λ k f e. sides_keep (objects_of c.in_ok-objects.objects) (objects_of c.add_arguments.new.objects) f c.in_ok-add_arguments.ensures.keeps (c.in_ok-objects.ensures k f e)
