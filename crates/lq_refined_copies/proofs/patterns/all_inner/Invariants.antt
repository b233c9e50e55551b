use Rattle.std.proofs.Common.{◌≡◌, ℕ, ◌<◌, length, slice_index_or}
use Rattle.lq_refined_instances.specs.declared.unknowns.Unknowns.{Unknowns}
use Rattle.lq_text_qualifiers.specs.Sorting.Views.{qualifier_view}
use Rattle.lq_refined_copies.specs.Patterns.{IsInner}
use Rattle.lq_refined_copies.specs.declared.patterns.Inner.{Inner}
use Rattle.lq_refined_copies.proofs.patterns.all_inner.Given as goal

abbrev pub invariant-loop-index : goal.invariant-loop-index
invariant-loop-index l = record {
  count : length l.all.items ≡ l.index;
  each : (k : ℕ) (p : Unknowns) (c : Inner) → k < length l.all.items → IsInner (qualifier_view l.qualifier) (slice_index_or l.patterns k p) (slice_index_or l.all.items k c);
}
