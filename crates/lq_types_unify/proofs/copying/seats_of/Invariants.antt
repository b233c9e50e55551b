use Rattle.std.proofs.Common.{◌≡◌, map, take}
use Rattle.lq_types_unify.specs.Classes.{root, IsSame}
use Rattle.lq_types_unify.specs.Copying.{seat}
use Rattle.lq_types_unify.proofs.copying.seats_of.Given as goal

abbrev pub invariant-loop-node : goal.invariant-loop-node
invariant-loop-node l = record {
  seats : l.all.items ≡ map (λ p. seat l.base l.copies (root l.fn.parents p)) (take l.node-index l.nodes);
  classes : IsSame l.fn.parents l.parents;
}
