use Rattle.std.proofs.Common.{subst}
use Rattle.lq_logic_points.specs.Values.{as_point}
use Rattle.lq_logic_predicates.specs.ClosedImplication.{IsValid}
use Rattle.lq_logic_predicates.specs.PredView.{implication_of}
use Rattle.lq_prover_valid.specs.Answers.{IfFails, IfValid, IsCounterexample, IsReadable}
use Rattle.lq_solve_fixpoint.specs.Questions.Assigned.{constraints_of, instances_in}
use Rattle.lq_solve_fixpoint.specs.Weakening.Chosen.{chosen_in}
use Rattle.lq_solve_strongest.proofs.WeakenLemmas.Stopping.{holds_there, may_stop}
use Rattle.lq_solve_strongest.proofs.weaken.asking.Questions.judged.Goals as goal

pub returns-in-Ok-Valid-clause-holds : goal.returns-in-Ok-Valid-clause-holds
returns-in-Ok-Valid-clause-holds c =
    let i = implication_of c.in-Ok.closed in
    holds_there (instances_in c.args.self.now.instances.now) (chosen_in c.args.chosen.now) (constraints_of c.args.self.now.implications.now) c.args.at i c.in-Ok.ensures
    (subst (λ a. IfValid a (λ _. IsValid i)) c.in-Ok-Valid.field-0-is c.in-Ok-Valid.ensures.valid)

pub failure-requires-clause-point : goal.failure-requires-clause-point
failure-requires-clause-point c =
    let i = implication_of c.in-Ok.closed in subst (λ a. IfFails a (λ p. IsCounterexample i (as_point p))) c.in-Ok-Fails.field-0-is c.in-Ok-Fails.ensures.point

pub failure-requires-clause-readable : goal.failure-requires-clause-readable
failure-requires-clause-readable c =
    let i = implication_of c.in-Ok.closed in subst (λ a. IfFails a (IsReadable i)) c.in-Ok-Fails.field-0-is c.in-Ok-Fails.ensures.readable

pub returns-clause-stop : goal.returns-clause-stop
returns-clause-stop c =
    may_stop c.args.self.now.limit (instances_in c.args.self.now.instances.now) (chosen_in c.args.chosen.now) (constraints_of c.args.self.now.implications.now) c.args.at (implication_of c.in-Ok.closed) c.in-Err.stop c.requires
    c.in-Ok.ensures c.in-Err.ensures.stop c.in-Err.ensures.small c.in-Err.ensures.fits

pub returns-then-follows_nearby-clause-holds : goal.returns-then-follows_nearby-clause-holds
returns-then-follows_nearby-clause-holds c = c.follows_nearby.ensures c.if-follows_nearby.true
