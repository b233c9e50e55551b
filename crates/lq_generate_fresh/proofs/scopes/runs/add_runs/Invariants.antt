use Rattle.std.proofs.Common.{◌≡◌, map, take}
use Rattle.lq_refined_copies.specs.Runs.{runs_view}
use Rattle.lq_refined_copies.specs.Views.{patterns_of, table_of}
use Rattle.lq_refined_substitution.specs.Substitution.Views.{pattern_lists, scope_lists, unknown_lists}
use Rattle.lq_generate_fresh.specs.Scopes.Inside.{symbols_of_unknown}
use Rattle.lq_generate_fresh.proofs.scopes.runs.add_runs.Given as goal

abbrev pub invariant-loop-at : goal.invariant-loop-at
invariant-loop-at l = record {
  unknowns : unknown_lists l.scopes ≡ map symbols_of_unknown (runs_view (table_of l.unknowns) (patterns_of l.unknowns) (take l.at l.unknowns.runs.items));
  scopes : scope_lists l.scopes ≡ scope_lists l.fn.scopes;
  patterns : pattern_lists l.scopes ≡ pattern_lists l.fn.scopes;
}
