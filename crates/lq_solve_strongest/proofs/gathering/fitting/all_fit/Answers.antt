use Rattle.lq_refined_substitution.specs.Implications.Views.{environment_lists, implication_items}
use Rattle.std.proofs.Common.{length}
use Rattle.lq_solve_fixpoint.specs.Questions.Assigned.{constraints_of, instances_in}
use Rattle.lq_solve_strongest.specs.Gathering.Fitting.{AllGather, AreNarrowImplications}
use Rattle.lq_solve_strongest.proofs.GatheringLemmas.Narrowing.{all_gather, if_true}
use Rattle.lq_solve_strongest.proofs.gathering.fitting.all_fit.Goals as goal

pub returns : goal.returns
returns c =
    let A = instances_in c.args.instances.now in
    let es = environment_lists c.args.implications.now in
    let is = implication_items c.args.implications.now in
    if_true c.are_narrow_implications.result (AreNarrowImplications A is (length is)) (AllGather A (constraints_of c.args.implications.now))
    (all_gather c.narrow_implications_gather.ensures A es is (c.in_ok-narrow.ensures c.if-not-narrow.false)) c.are_narrow_implications.ensures
