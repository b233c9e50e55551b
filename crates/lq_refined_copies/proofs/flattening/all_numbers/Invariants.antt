use Rattle.std.proofs.Common.{◌≡◌, length}
use Rattle.lq_refined_instances.specs.Scopes.{scope_in}
use Rattle.lq_refined_instances.specs.Views.{scopes_view}
use Rattle.lq_refined_copies.specs.Flattening.{AreCompleted}
use Rattle.lq_refined_copies.specs.Longer.{Longer}
use Rattle.lq_refined_copies.proofs.flattening.all_numbers.Given as goal

abbrev pub invariant-loop-at : goal.invariant-loop-at
invariant-loop-at l = record {
  longer : Longer (scopes_view l.fn.scopes) (scopes_view l.scopes);
  count : length l.numbers.items ≡ l.at;
  made : AreCompleted (scope_in (scopes_view l.fn.scopes) l.scope) (scopes_view l.table) (scopes_view l.scopes) l.numbers.items;
}
