use Rattle.std.proofs.Common.{◌≡◌, [], ◌∷◌, map, take}
use Rattle.lq_text_qualifiers.specs.Sorting.Views.{shape_view}
use Rattle.lq_refined_instances.specs.Counting.{symbol_count}
use Rattle.lq_refined_instances.specs.Scopes.{grown}
use Rattle.lq_refined_instances.specs.Seen.{added_view}
use Rattle.lq_refined_instances.proofs.counting.symbol_counts.Given as goal

abbrev pub invariant-loop-addition : goal.invariant-loop-addition
invariant-loop-addition l = l.counts.items ≡ map (symbol_count (shape_view l.shape)) (grown ([] ∷ []) (map added_view (take l.addition-index l.scopes.additions.items)))
