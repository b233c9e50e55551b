use Rattle.std.proofs.Common.{◌≤◌, arith, length}
use Rattle.std.proofs.lemmas.List.{length-map}
use Rattle.lq_refined_substitution.specs.Implications.Views.{environment_lists, implication_items, implication_view}
use Rattle.lq_solve_fixpoint.specs.Questions.Assigned.{instances_in}
use Rattle.lq_solve_strongest.proofs.GatheringLemmas.Narrowing.{implications_all, implications_next}
use Rattle.lq_solve_strongest.proofs.gathering.fitting.are_narrow_implications.Goals as goal

pub loop-at-init : goal.loop-at-init
loop-at-init c = λ at i w. absurd (omega (arith, w))

pub loop-at-preserved : goal.loop-at-preserved
loop-at-preserved c =
    implications_next (instances_in c.args.instances.now) (implication_items c.args.implications.now) c.loop-at.at c.in-Some.implication.now c.in-Some.ensures (c.in_ok-narrow.ensures c.if-not-narrow.false) c.loop-at.invariant

pub returns : goal.returns
returns c = λ _.
    let is = implication_items c.args.implications.now in
    let f = length-map is (implication_view (environment_lists c.args.implications.now)) in
    let past : length is ≤ c.loop-at.at = omega (arith, f) in implications_all (instances_in c.args.instances.now) is c.loop-at.at past c.loop-at.invariant
