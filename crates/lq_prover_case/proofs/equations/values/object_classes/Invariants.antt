use Rattle.lq_prover_case.specs.Equations.Naming.{objects_of}
use Rattle.lq_prover_case.proofs.EquationsLemmas.Classes.{HasFirstClasses}
use Rattle.lq_prover_case.proofs.equations.values.object_classes.Given as goal

abbrev pub invariant-loop-object : goal.invariant-loop-object
invariant-loop-object l = HasFirstClasses (objects_of l.objects) l.classes l.made.entries l.object
