use Rattle.lq_logic_predicates.specs.NnfView.{nnf_view}
use Rattle.lq_cases_prover.proofs.prover.asking.ask_goal.Goals as goal

pub returns-in-Open-clause-standing : goal.returns-in-Open-clause-standing
returns-in-Open-clause-standing c =
    (c.again.ensures (nnf_view c.args.goal.now) c.args.standing c.requires.standing (rw c.in-Open.is at c.in_ok-tree.ensures.begins)).standing

pub returns-in-Open-clause-givens : goal.returns-in-Open-clause-givens
returns-in-Open-clause-givens c =
    (c.again.ensures (nnf_view c.args.goal.now) c.args.standing c.requires.standing (rw c.in-Open.is at c.in_ok-tree.ensures.begins)).givens
