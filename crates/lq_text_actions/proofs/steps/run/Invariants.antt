use Rattle.std.specs.Prelude.{map}
use Rattle.std.proofs.Common.{◌≡◌, ◌≤◌, ◌*◌, length, drop}
use Rattle.lq_text_actions.specs.Trees.{run, nowhere, nothing_made}
use Rattle.lq_text_actions.specs.Making.{making_view}
use Rattle.lq_text_actions.specs.Views.{lexeme_view}
use Rattle.lq_text_actions.proofs.steps.run.Given as goal

abbrev pub invariant-loop-event : goal.invariant-loop-event
invariant-loop-event l = record {
  runs : run l.events (map lexeme_view l.lexemes) nowhere nothing_made ≡ run (drop l.event-index l.events) (drop l.taken (map lexeme_view l.lexemes)) (lexeme_view l.last) (making_view l.builder);
  within : l.taken ≤ length l.lexemes;
  few : l.builder.made ≤ 2 * l.event-index;
}
