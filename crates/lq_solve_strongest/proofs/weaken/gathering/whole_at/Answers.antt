use Rattle.std.proofs.Common.{◌≡◌, IfSome, slice_get, subst}
use Rattle.lq_logic_predicates.specs.PredView.{implication_of}
use Rattle.lq_solve_fixpoint.specs.Questions.Assigned.{assignment_of, closed_under, constraints_of, instances_in}
use Rattle.lq_solve_fixpoint.specs.Weakening.Chosen.{chosen_in}
use Rattle.lq_solve_strongest.proofs.WeakenLemmas.Stopping.{whole_as}
use Rattle.lq_solve_strongest.proofs.weaken.gathering.whole_at.Goals as goal

pub returns-in-Ok-Some : goal.returns-in-Ok-Some
returns-in-Ok-Some c =
    let cs = constraints_of c.args.implications.now in
    let A = assignment_of c.args.instances.now c.args.all.now in
    whole_as (instances_in c.args.instances.now) (chosen_in c.args.all.now) (implication_of c.in-Ok-Some.closed) (slice_get cs c.args.at) c.requires.all
    (subst (λ o. IfSome o (λ x. IfSome (slice_get cs c.args.at) (λ k. implication_of x ≡ closed_under A k))) c.in-Ok-Some.field-0-is c.in-Ok-Some.ensures.some)
