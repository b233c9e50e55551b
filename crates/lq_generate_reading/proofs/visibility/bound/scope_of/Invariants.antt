use Rattle.std.proofs.Common.{◌≡◌, ◌<◌, length, take}
use Rattle.lq_refined_instances.specs.Scopes.{scope_in}
use Rattle.lq_refined_instances.specs.Views.{scopes_view}
use Rattle.lq_refined_templates.specs.Points.Seen.{symbols_of}
use Rattle.lq_generate_reading.specs.Visibility.Notes.{annotation_view}
use Rattle.lq_generate_reading.specs.Visibility.Scopes.{Longer}
use Rattle.lq_generate_reading.specs.Visibility.Stack.{names_view}
use Rattle.lq_generate_reading.proofs.visibility.bound.scope_of.Given as goal

abbrev pub invariant-loop-at : goal.invariant-loop-at
invariant-loop-at l = record {
  there : l.scope < length (scopes_view l.scopes);
  is : scope_in (scopes_view l.scopes) l.scope ≡ symbols_of (annotation_view l.notes) (names_view (take l.at l.names));
  grown : Longer (scopes_view l.initial.scopes) (scopes_view l.scopes);
}
