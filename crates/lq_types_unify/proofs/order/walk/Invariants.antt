use Rattle.std.proofs.Common.{◌+◌, ◌*◌, length}
use Rattle.lq_types_unify.specs.Nodes.{form_at}
use Rattle.lq_types_unify.specs.Visits.{IsWalk, IsMarked, StaysSeen, fresh}
use Rattle.lq_types_unify.specs.Order.{IsPut}
use Rattle.lq_types_unify.proofs.order.walk.Given as goal

abbrev pub invariant-visits : goal.invariant-visits
invariant-visits l = record {
  walk : IsWalk (form_at l.arena) (length l.arena.nodes.items) l.parents l.shapes l.marks l.stack.items;
  marked : IsMarked (form_at l.arena) (length l.arena.nodes.items) l.parents l.shapes l.marks (length l.order.items);
  put : IsPut (form_at l.arena) (length l.arena.nodes.items) l.parents l.shapes l.marks l.order.items;
  seen : StaysSeen l.fn.marks l.marks;
}

abbrev pub decreases-visits : goal.decreases-visits
decreases-visits l = 2 * fresh l.marks + length l.stack.items
