use Rattle.std.proofs.Common.{◌≡◌, length}
use Rattle.lq_refined_instances.specs.Views.{scopes_view}
use Rattle.lq_text_qualifiers.specs.Sorting.Views.{shape_view}
use Rattle.lq_refined_copies.specs.Counting.{AreCounts}
use Rattle.lq_refined_copies.proofs.columns.symbol_counts.Given as goal

abbrev pub invariant-loop-at : goal.invariant-loop-at
invariant-loop-at l = record {
  count : length l.counts.items ≡ l.at;
  counts : AreCounts (shape_view l.shape) (scopes_view l.table) l.counts.items;
}
