use Rattle.std.proofs.Common.{map, take}
use Rattle.lq_prover_decide.specs.Case.{fact_of}
use Rattle.lq_prover_case.specs.Equations.Naming.{HasAllSides, objects_of}
use Rattle.lq_prover_decide.proofs.objects.sides_of.Given as goal

abbrev pub invariant-loop-fact : goal.invariant-loop-fact
invariant-loop-fact l = HasAllSides (objects_of l.objects) (map fact_of (take l.fact-index l.facts))
