use Rattle.std.proofs.Common.{◌≡◌, ◌<◌, length, map, take}
use Rattle.lq_refined_instances.specs.Scopes.{scope_in}
use Rattle.lq_refined_instances.specs.Seen.{visible_view}
use Rattle.lq_refined_instances.specs.Views.{scopes_view}
use Rattle.lq_refined_instances.proofs.finding.alone.Given as goal

abbrev pub invariant-loop-visible : goal.invariant-loop-visible
invariant-loop-visible l = record {
  there : l.last < length (scopes_view l.scopes);
  shows : scope_in (scopes_view l.scopes) l.last ≡ map visible_view (take l.visible-index l.scope.items.items);
}
