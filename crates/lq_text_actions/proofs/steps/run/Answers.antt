use Rattle.std.specs.Prelude.{map, IsSome}
use Rattle.std.proofs.Common.{◌<◌, length, drop, arith, ◌∙◌}
use Rattle.std.proofs.lemmas.Grind.{common_steps}
use Rattle.std.proofs.lemmas.List.{length-map, get_or-map}
use Rattle.lq_text_actions.specs.Made.{made}
use Rattle.lq_text_actions.specs.Trees.{run, nowhere}
use Rattle.lq_text_actions.specs.Making.{making_view}
use Rattle.lq_text_actions.specs.Views.{lexeme_view}
use Rattle.lq_text_actions.proofs.Running.{one_action, one_token, action_fits}
use Rattle.lq_text_actions.proofs.steps.run.Goals as goal
use Rattle.lq_text_actions.proofs.steps.run.Goals.{in-Make+in_ok-make-in-Make, in-Take+else-taken-lexemes}

pub returns-in_err-make-in-Make-clause-fits : goal.returns-in_err-make-in-Make-clause-fits
returns-in_err-make-in-Make-clause-fits c = λ some e.
    let here : IsSome (run (drop c.loop-event.event-index c.args.events.now) (drop c.loop-event.taken (map lexeme_view c.args.lexemes.now)) (lexeme_view c.loop-event.last) (making_view c.loop-event.builder)) = rw c.loop-event.invariant.runs at some in
    let fits : IsSome (made c.in-Make.action (lexeme_view c.loop-event.last) (making_view c.loop-event.builder)) = action_fits c.args.events.now c.loop-event.event-index _ c.in-Make.action (drop c.loop-event.taken (map lexeme_view c.args.lexemes.now)) (lexeme_view c.loop-event.last) (making_view c.loop-event.builder) c.loop-event-test.true c.in-Make.is here in
    grind (arith, common_steps)

pub loop-event-preserved : goal.loop-event-preserved
loop-event-preserved c = elim c.match-event.branch [
  | in-Make+in_ok-make-in-Make w ↦
      let few = c.loop-event.invariant.few in
      let bound = w.in_ok-make-in-Make.ensures.bound in
      rw (w.builder-is, w.last-is, w.taken-is) record {
        runs = c.loop-event.invariant.runs ∙ one_action c.args.events.now c.loop-event.event-index _ w.in-Make.action (drop c.loop-event.taken (map lexeme_view c.args.lexemes.now)) (lexeme_view c.loop-event.last) (making_view c.loop-event.builder) (making_view w.make.new.self) c.loop-event-test.true w.in-Make.is w.in_ok-make-in-Make.ensures.ok;
        within = c.loop-event.invariant.within;
        few = omega arith;
      }
  | in-Take+else-taken-lexemes w ↦
      let few = c.loop-event.invariant.few in
      let within = c.loop-event.invariant.within in
      let other = w.if-taken-lexemes.false in
      let room : c.loop-event.taken < length c.args.lexemes.now = omega arith in
      let there : c.loop-event.taken < length (map lexeme_view c.args.lexemes.now) = omega (arith, length-map c.args.lexemes.now lexeme_view) in
      rw (w.builder-is, w.last-is, w.taken-is) record {
        runs = c.loop-event.invariant.runs ∙ one_token c.args.events.now c.loop-event.event-index _ (map lexeme_view c.args.lexemes.now) c.loop-event.taken nowhere _ (lexeme_view c.loop-event.last) (making_view c.loop-event.builder) c.loop-event-test.true w.in-Take.is there (get_or-map lexeme_view c.args.lexemes.now c.loop-event.taken _ nowhere room);
        within = omega arith;
        few = omega arith;
      }
]
