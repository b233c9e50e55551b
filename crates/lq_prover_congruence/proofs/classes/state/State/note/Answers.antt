-- The trail has the step.
use Rattle.std.proofs.Common.{length, ap, arith}
use Rattle.lq_prover_congruence.specs.Classes.Standing.{steps_of}
use Rattle.lq_prover_congruence.specs.declared.classes.steps.Entry.TheVariants.{Done}
use Rattle.lq_prover_congruence.proofs.ClassesLemmas.Trail.{steps-last, steps-few}
use Rattle.lq_prover_congruence.proofs.classes.state.State.note.Goals as goal

pub overflow_add-self : goal.overflow_add-self
overflow_add-self c =
    let s = c.args.self.now in
    omega (arith, c.requires.order.steps, steps-few s.trail.items, s.trail.ok, c.in_ok-push.ensures.len)

pub returns-clause-ok : goal.returns-clause-ok
returns-clause-ok c =
    let s = c.args.self.now in
    record {
      did = c.requires.nothing;
      trail = c.in_ok-push.ensures.items;
      order = record {
        shaped = c.requires.order.shaped;
        uses = c.requires.order.uses;
        sizes = c.requires.order.sizes;
        steps = omega (arith, c.requires.order.steps, ap (λ es. length (steps_of es)) c.in_ok-push.ensures.items, steps-last s.trail.items (Done c.args.step));
      };
    }
