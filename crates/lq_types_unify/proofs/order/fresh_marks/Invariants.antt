use Rattle.std.proofs.Common.{◌≡◌, ℕ, length}
use Rattle.lq_types_unify.specs.declared.order.Mark.TheVariants.{Fresh}
use Rattle.lq_types_unify.specs.Visits.{mark_at}
use Rattle.lq_types_unify.proofs.order.fresh_marks.Given as goal

abbrev pub invariant-loop : goal.invariant-loop
invariant-loop l = record {
  long : length l.marks.items ≡ l.counter;
  fresh : (r : ℕ) → mark_at l.marks.items r ≡ Fresh;
}
