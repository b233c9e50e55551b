use Rattle.std.proofs.Common.{◌≤◌, length, arith}
use Rattle.std.proofs.lemmas.List.{length-map}
use Rattle.lq_refined_substitution.specs.Implications.Views.{environment_lists, implication_items, implication_view}
use Rattle.lq_solve_strongest.proofs.WeakenLemmas.Below.{all_below, environments_kept, implications_next}
use Rattle.lq_solve_strongest.proofs.weaken.unknowns.unknown_count.Goals as goal

pub loop-at-preserved : goal.loop-at-preserved
loop-at-preserved c =
    let es = environment_lists c.args.implications.now in
    let is = implication_items c.args.implications.now in (
      environments_kept es (length es) c.loop-at.past c.in_ok-past-2.past c.in_ok-past-2.ensures.kept c.loop-at.invariant.0,
      implications_next is c.loop-at.at c.loop-at.past c.in_ok-past-2.past c.in-Some.implication.now c.in-Some.ensures c.in_ok-past-2.ensures c.loop-at.invariant.1,
    )

pub returns : goal.returns
returns c =
    let es = environment_lists c.args.implications.now in
    let is = implication_items c.args.implications.now in
    let f = length-map is (implication_view es) in
    let all : length is ≤ c.loop-at.at = omega (arith, f) in all_below es is c.loop-at.at c.loop-at.past all c.loop-at.invariant.0 c.loop-at.invariant.1
