use Rattle.std.proofs.Common.{◌≡◌, length}
use Rattle.lq_refined_instances.specs.Views.{scopes_view}
use Rattle.lq_refined_substitution.specs.Substitution.Views.{pattern_lists, scope_lists, unknown_lists}
use Rattle.lq_generate_fresh.specs.Scopes.Numbered.{AreMade, Begins}
use Rattle.lq_generate_fresh.proofs.scopes.tables.all_made.Given as goal

abbrev pub invariant-loop-at : goal.invariant-loop-at
invariant-loop-at l = record {
  count : length l.numbers.items ≡ l.at;
  made : AreMade (scopes_view l.table) (scope_lists l.scopes) l.numbers.items;
  begins : Begins (scope_lists l.scopes);
  unknowns : unknown_lists l.scopes ≡ unknown_lists l.fn.scopes;
  patterns : pattern_lists l.scopes ≡ pattern_lists l.fn.scopes;
}
