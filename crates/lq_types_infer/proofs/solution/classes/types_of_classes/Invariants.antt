use Rattle.std.proofs.Common.{◌≡◌, ◌<◌, ℕ, length, get_or}
use Rattle.lq_types_rules.specs.Equations.Adding.{count_of}
use Rattle.lq_types_rules.specs.Equations.Solved.{types_in}
use Rattle.lq_types_table.specs.Whole.{types_of}
use Rattle.lq_types_infer.specs.Solution.Slots.{IsPlaced}
use Rattle.lq_types_infer.proofs.solution.classes.types_of_classes.Given as goal

abbrev pub invariant-loop-class : goal.invariant-loop-class
invariant-loop-class l = record {
  long : length l.rows.items ≡ count_of l.system;
  placed : (j : ℕ) → j < l.class-index → IsPlaced (types_of l.types) l.rows.items (types_in l.system l.solution) (get_or l.solution.order.items j 0);
}
