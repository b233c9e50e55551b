use Rattle.std.proofs.Common.{All, map, subst}
use Rattle.lq_solve_strongest.specs.SmallForms.Narrow.{IsNarrow}
use Rattle.lq_refined_types.specs.Parts.Assignment.{part_under, parts_under}
use Rattle.lq_solve_fixpoint.specs.Questions.Assigned.{instances_in}
use Rattle.lq_refined_substitution.specs.Substitution.Views.{part_view}
use Rattle.lq_solve_strongest.specs.Gathering.Fitting.{IsNarrowImplication}
use Rattle.lq_solve_strongest.proofs.GatheringLemmas.Narrowing.{if_true}
use Rattle.lq_solve_strongest.proofs.gathering.fitting.is_narrow_implication.Goals as goal

pub returns : goal.returns
returns c =
    let A = instances_in c.args.instances.now in
    let left = subst (λ ps. All IsNarrow (parts_under A (map part_view ps))) c.as_slice.ensures (c.in_ok-narrow.ensures c.if-not-narrow.false) in
    if_true c.is_narrow_part.result (All IsNarrow (part_under A (part_view c.args.implication.now.goal))) (IsNarrowImplication A c.args.implication.now)
    (λ g. record { left = left; goal = g }) c.is_narrow_part.ensures
