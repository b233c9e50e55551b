use Rattle.std.proofs.Common.{◌≡◌, ◌≢◌, ◌<◌, ℕ, [], length}
use Rattle.lq_types_unify.specs.declared.order.Mark.TheVariants.{Fresh}
use Rattle.lq_types_unify.specs.Nodes.{form_at}
use Rattle.lq_types_unify.specs.Classes.{up}
use Rattle.lq_types_unify.specs.Visits.{mark_at, AreCalm, IsMarked}
use Rattle.lq_types_unify.specs.Order.{IsPut}
use Rattle.lq_types_unify.proofs.order.walk_all.Given as goal

abbrev pub invariant-loop-class : goal.invariant-loop-class
invariant-loop-class l = record {
  calm : AreCalm l.marks;
  marked : IsMarked (form_at l.arena) (length l.arena.nodes.items) l.parents l.shapes l.marks (length l.order.items);
  put : IsPut (form_at l.arena) (length l.arena.nodes.items) l.parents l.shapes l.marks l.order.items;
  empty : l.stack.items ≡ [];
  seen : (r : ℕ) → r < l.class → up l.parents r ≡ r → mark_at l.marks r ≢ Fresh;
}
