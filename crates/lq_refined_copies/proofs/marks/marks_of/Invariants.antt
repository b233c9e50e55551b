use Rattle.std.proofs.Common.{◌≡◌, length}
use Rattle.lq_refined_instances.specs.Views.{scopes_view}
use Rattle.lq_refined_copies.specs.Counting.{HaveMarks}
use Rattle.lq_refined_copies.proofs.marks.marks_of.Given as goal

abbrev pub invariant-loop-at : goal.invariant-loop-at
invariant-loop-at l = record {
  count : length l.marks.items ≡ l.at;
  marks : HaveMarks (scopes_view l.table) l.marks.items;
}
