use Rattle.std.proofs.Common.{◌≡◌, map, take, get_or}
use Rattle.lq_types_unify.specs.Classes.{up}
use Rattle.lq_types_infer.proofs.solution.classes.rows_of.Given as goal

abbrev pub invariant-loop-node : goal.invariant-loop-node
invariant-loop-node l = l.all.items ≡ map (λ p. get_or l.rows (up l.solution.parents.items p) 0) (take l.node-index l.nodes)
