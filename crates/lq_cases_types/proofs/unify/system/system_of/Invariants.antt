use Rattle.lq_types_unify.specs.Nodes.{IsArena}
use Rattle.lq_cases_types.proofs.unify.system.system_of.Given as goal

abbrev pub invariant-loop-node : goal.invariant-loop-node
invariant-loop-node l = (goal.iterator-loop-node).can_next l.node-iterator × (goal.iterator-loop-node).is_finite l.node-iterator × IsArena l.arena
