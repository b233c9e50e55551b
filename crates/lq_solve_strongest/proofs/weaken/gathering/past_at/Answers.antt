use Rattle.lq_logic_predicates.specs.PredView.{implication_of}
use Rattle.lq_solve_fixpoint.specs.Questions.Assigned.{constraints_of, instances_in}
use Rattle.lq_solve_strongest.proofs.WeakenLemmas.Stopping.{gathered_there, past_there}
use Rattle.lq_solve_strongest.proofs.weaken.gathering.past_at.Goals as goal

pub returns-clause-some : goal.returns-clause-some
returns-clause-some c =
    past_there (instances_in c.args.instances.now) (constraints_of c.args.implications.now) c.args.at (implication_of c.in_ok-closed.closed) c.first_past.result c.in_ok-closed.ensures
    c.first_past.ensures.some

pub returns-clause-none : goal.returns-clause-none
returns-clause-none c =
    gathered_there (instances_in c.args.instances.now) (constraints_of c.args.implications.now) c.args.at (implication_of c.in_ok-closed.closed) c.first_past.result c.in_ok-closed.ensures
    c.first_past.ensures.none
