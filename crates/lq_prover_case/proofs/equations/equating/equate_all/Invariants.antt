use Rattle.lq_prover_case.specs.Equations.Naming.{objects_of}
use Rattle.lq_prover_case.proofs.EquationsLemmas.Along.{IsAlong}
use Rattle.lq_logic_predicates.specs.TableView.{terms_of}
use Rattle.lq_prover_case.proofs.equations.equating.equate_all.Given as goal

abbrev pub invariant-loop-index : goal.invariant-loop-index
invariant-loop-index l =
    IsAlong (objects_of l.objects) (terms_of l.table) l.classes.items l.fn.state l.state l.equations.joints.items l.equations.firsts.entries l.index
