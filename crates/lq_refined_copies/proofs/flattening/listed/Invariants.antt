use Rattle.std.proofs.Common.{◌≡◌, ◌<◌, length, map, take}
use Rattle.lq_refined_instances.specs.Scopes.{scope_in}
use Rattle.lq_refined_instances.specs.Seen.{visible_view}
use Rattle.lq_refined_instances.specs.Views.{scopes_view}
use Rattle.lq_refined_copies.specs.Completed.{completed}
use Rattle.lq_refined_copies.specs.Flattening.{is_nothing}
use Rattle.lq_refined_copies.specs.Longer.{Longer}
use Rattle.lq_refined_copies.proofs.flattening.listed.Given as goal

abbrev pub invariant-loop-visible : goal.invariant-loop-visible
invariant-loop-visible l = record {
  longer : Longer (scopes_view l.fn.scopes) (scopes_view l.scopes);
  there : l.number < length (scopes_view l.scopes);
  same : scope_in (scopes_view l.scopes) l.number ≡ completed (scope_in (scopes_view l.fn.scopes) l.scope) (map visible_view (take l.visible-index l.visible-items));
  first : l.is_first ≡ is_nothing (map visible_view (take l.visible-index l.visible-items));
}
