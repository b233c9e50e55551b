use Rattle.std.proofs.Common.{◌≡◌, map, take}
use Rattle.lq_refined_instances.specs.Seen.{visible_view}
use Rattle.lq_refined_substitution.specs.Substitution.Views.{pattern_lists, scope_lists, unknown_lists}
use Rattle.lq_generate_fresh.specs.Scopes.Inside.{is_nothing, IsInner}
use Rattle.lq_generate_fresh.specs.Scopes.Numbered.{Extends}
use Rattle.lq_generate_fresh.proofs.scopes.patterns.listed.Given as goal

abbrev pub invariant-loop-visible : goal.invariant-loop-visible
invariant-loop-visible l = record {
  made : IsInner (map visible_view (take l.visible-index l.visible-items)) (scope_lists l.scopes) l.inner;
  first : l.is_first ≡ is_nothing (map visible_view (take l.visible-index l.visible-items));
  kept : Extends (scope_lists l.fn.scopes) (scope_lists l.scopes);
  unknowns : unknown_lists l.scopes ≡ unknown_lists l.fn.scopes;
  patterns : pattern_lists l.scopes ≡ pattern_lists l.fn.scopes;
}
