use Rattle.std.proofs.Common.{arith}
use Rattle.lq_solve_strongest.proofs.gathering.environments.are_narrow_environments.Goals as goal

pub loop-env-init : goal.loop-env-init
loop-env-init c = λ e w. absurd (omega (arith, w))

pub loop-env-preserved : goal.loop-env-preserved
loop-env-preserved c = c.in_ok-narrow.ensures c.if-not-narrow.false c.loop-env.invariant

pub returns : goal.returns
returns c = λ _ e w. c.loop-env.invariant e (omega (arith, w))
