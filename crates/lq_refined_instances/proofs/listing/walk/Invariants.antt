use Rattle.std.proofs.Common.{◌≡◌, ◌++◌, map, reverse}
use Rattle.lq_text_qualifiers.specs.Sorting.Views.{asked_view}
use Rattle.lq_refined_instances.specs.Listed.{not_among, wanted}
use Rattle.lq_refined_instances.specs.Scopes.{scope_in}
use Rattle.lq_refined_instances.specs.Seen.{visible_view}
use Rattle.lq_refined_instances.specs.Views.{scopes_view}
use Rattle.lq_refined_instances.proofs.listing.walk.Given as goal

abbrev pub invariant-loop-addition : goal.invariant-loop-addition
invariant-loop-addition l =
    wanted (asked_view l.shape) (scope_in (scopes_view l.scopes) l.at)
    ≡ not_among l.walk.hidden.keys (wanted (asked_view l.shape) (scope_in (scopes_view l.scopes) l.walk.left)) ++ map visible_view (reverse l.walk.found.items)

abbrev pub decreases-loop-addition : goal.decreases-loop-addition
decreases-loop-addition l = l.walk.left
