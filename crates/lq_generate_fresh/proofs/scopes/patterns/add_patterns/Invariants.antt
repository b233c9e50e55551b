use Rattle.std.proofs.Common.{◌≡◌, ◌++◌, map, take}
use Rattle.lq_refined_instances.specs.Views.{unknowns_view}
use Rattle.lq_refined_substitution.specs.Substitution.Views.{pattern_lists, scope_lists, unknown_lists}
use Rattle.lq_generate_fresh.specs.Scopes.Inside.{inner_unknown}
use Rattle.lq_generate_fresh.specs.Scopes.Numbered.{Extends}
use Rattle.lq_generate_fresh.proofs.scopes.patterns.add_patterns.Given as goal

abbrev pub invariant-loop-pattern : goal.invariant-loop-pattern
invariant-loop-pattern l = record {
  added : pattern_lists l.scopes ≡ pattern_lists l.fn.scopes ++ map (map inner_unknown) (map unknowns_view (take l.pattern-index l.patterns));
  kept : Extends (scope_lists l.fn.scopes) (scope_lists l.scopes);
  unknowns : unknown_lists l.scopes ≡ unknown_lists l.fn.scopes;
}
