-- Each list has one more.
use Rattle.std.proofs.Common.{arith}
use Rattle.lq_prover_congruence.proofs.ClassesLemmas.Trail.{steps-few}
use Rattle.lq_prover_congruence.proofs.classes.state.State.grow.Goals as goal

pub overflow_add-self : goal.overflow_add-self
overflow_add-self c =
    let s = c.args.self.now in
    omega (arith, c.requires.order.steps, steps-few s.trail.items, s.trail.ok, c.reserve-4.ensures.len, c.push_reserved-4.ensures.len, c.push_reserved-4.new.self.ok)
