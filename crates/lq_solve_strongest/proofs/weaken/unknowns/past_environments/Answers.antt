use Rattle.std.proofs.Common.{◌≤◌, length, arith}
use Rattle.lq_refined_substitution.specs.Implications.Views.{environment_lists}
use Rattle.lq_solve_strongest.proofs.WeakenLemmas.Below.{environments_all}
use Rattle.lq_solve_strongest.proofs.weaken.unknowns.past_environments.Goals as goal

pub returns : goal.returns
returns c =
    let es = environment_lists c.args.implications.now in
    let all : length es ≤ c.loop-env.env = omega arith in environments_all es c.loop-env.env c.loop-env.past all c.loop-env.invariant
