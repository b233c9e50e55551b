use Rattle.lq_refined_rules.proofs.ChecksLemmas.Solving.{flows_solve}
use Rattle.lq_refined_rules.proofs.checks.laws.flows_solve.Goals as goal

pub returns : goal.returns
returns c = λ P I p s ready flowing. let u = c.unions_of_selections.ensures in
    flows_solve c.list_is_checks.ensures u.solves u.refutes u.strongest P I p s ready flowing
