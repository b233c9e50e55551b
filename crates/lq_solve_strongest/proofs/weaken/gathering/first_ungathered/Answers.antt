use Rattle.std.proofs.Common.{◌<◌, ◌≤◌, IfSome, IfNone, length, subst, arith}
use Rattle.std.proofs.lemmas.List.{length-map}
use Rattle.lq_refined_substitution.specs.Implications.Views.{implications_of}
use Rattle.lq_logic_predicates.specs.PredView.{formula_of}
use Rattle.lq_solve_fixpoint.specs.Questions.Assigned.{constraints_of, instances_in}
use Rattle.lq_refined_types.specs.Subtyping.Implication.{constraint_of}
use Rattle.lq_solve_strongest.proofs.WeakenLemmas.Stopping.{first_found, gathered_all, gathered_next}
use Rattle.lq_solve_strongest.specs.Weaken.Gathering.{IsGatheredAt, IsPastAt}
use Rattle.lq_solve_strongest.proofs.weaken.gathering.first_ungathered.Goals as goal

pub past_at-requires-clause-there : goal.past_at-requires-clause-there
past_at-requires-clause-there c = let e = length-map (implications_of c.args.implications.now) constraint_of in omega (arith, e)

pub returns-in-Some-clause-some : goal.returns-in-Some-clause-some
returns-in-Some-clause-some c =
    let I = instances_in c.args.instances.now in
    let cs = constraints_of c.args.implications.now in
    let at = c.loop-at.at in
    let e = length-map (implications_of c.args.implications.now) constraint_of in
    let there : at < length cs = omega (arith, e) in
    first_found I cs at (formula_of c.in-Some.pred) there (subst (λ o. IfSome o (λ p. IsPastAt I cs at (formula_of p))) c.in-Some.is c.in_ok-pred.ensures.some) c.loop-at.invariant

pub loop-at-preserved : goal.loop-at-preserved
loop-at-preserved c =
    let I = instances_in c.args.instances.now in
    let cs = constraints_of c.args.implications.now in
    gathered_next I cs c.loop-at.at c.loop-at.invariant (subst (λ o. IfNone o (IsGatheredAt I cs c.loop-at.at)) c.in-None.is c.in_ok-pred.ensures.none)

pub returns-clause-none : goal.returns-clause-none
returns-clause-none c =
    let cs = constraints_of c.args.implications.now in
    let e = length-map (implications_of c.args.implications.now) constraint_of in
    let past : length cs ≤ c.loop-at.at = omega (arith, e) in gathered_all (instances_in c.args.instances.now) cs c.loop-at.at past c.loop-at.invariant

pub returns-then-fits-clause-none : goal.returns-then-fits-clause-none
returns-then-fits-clause-none c = c.in_ok-fits.ensures c.if-fits.true
