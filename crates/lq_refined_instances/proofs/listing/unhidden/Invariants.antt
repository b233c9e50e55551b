use Rattle.std.proofs.Common.{◌≡◌, map, take}
use Rattle.lq_refined_instances.specs.Listed.{not_among}
use Rattle.lq_refined_instances.specs.Seen.{visible_view}
use Rattle.lq_refined_instances.proofs.listing.unhidden.Given as goal

abbrev pub invariant-loop-visible : goal.invariant-loop-visible
invariant-loop-visible l = map visible_view l.left.items ≡ not_among l.hidden.keys (map visible_view (take l.visible-index l.scope))
