use Rattle.lq_types_unify.specs.Nodes.{form_at}
use Rattle.lq_types_unify.specs.Value.{inner}
use Rattle.lq_types_unify.specs.Visits.{AreDone}
use Rattle.lq_types_unify.proofs.order.scan.Given as goal

abbrev pub invariant-loop-at : goal.invariant-loop-at
invariant-loop-at l = AreDone l.parents l.marks (inner (form_at l.arena) l.shapes l.fn.visit.class) l.at
