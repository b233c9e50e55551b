use Rattle.std.proofs.Common.{take}
use Rattle.lq_prover_case.specs.Equations.Naming.{HasAllArguments, Keeps, objects_of}
use Rattle.lq_logic_predicates.specs.TableView.{terms_of}
use Rattle.lq_prover_case.proofs.equations.arguments.add_arguments.Given as goal

abbrev pub invariant-loop-at : goal.invariant-loop-at
invariant-loop-at l = record {
  keeps : Keeps (objects_of l.fn.objects) (objects_of l.objects);
  has : HasAllArguments (objects_of l.objects) (take l.at (terms_of l.table));
}
