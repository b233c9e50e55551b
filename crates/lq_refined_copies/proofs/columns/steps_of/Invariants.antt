use Rattle.std.proofs.Common.{◌≡◌, length}
use Rattle.lq_refined_instances.specs.Views.{scopes_view}
use Rattle.lq_refined_copies.specs.Counting.{AreSteps}
use Rattle.lq_refined_copies.proofs.columns.steps_of.Given as goal

abbrev pub invariant-loop-at : goal.invariant-loop-at
invariant-loop-at l = record {
  count : length l.steps.items ≡ l.at;
  steps : AreSteps (scopes_view l.table) l.steps.items;
}
