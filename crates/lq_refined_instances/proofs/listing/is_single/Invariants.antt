use Rattle.std.proofs.Common.{◌≡◌, map, take, filter}
use Rattle.lq_logic_predicates.specs.Sum.{same_symbol}
use Rattle.lq_refined_instances.specs.Seen.{visible_view}
use Rattle.lq_refined_instances.proofs.listing.is_single.Given as goal

abbrev pub invariant-loop-item : goal.invariant-loop-item
invariant-loop-item l = map visible_view l.same.items ≡ filter (λ e. same_symbol l.visible.symbol e.0) (map visible_view (take l.item-index l.items))
