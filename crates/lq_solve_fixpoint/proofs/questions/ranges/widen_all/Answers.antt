use Rattle.std.proofs.Common.{◌≡◌, ◌<◌, arith, length, sym}
use Rattle.std.proofs.lemmas.Option.{slice_get_within}
use Rattle.std.proofs.lemmas.List.{length-map}
use Rattle.lq_refined_substitution.specs.Implications.Views.{environment_lists, implication_items, implication_view}
use Rattle.lq_solve_fixpoint.proofs.QuestionsLemmas.Covering.{ranges_next}
use Rattle.lq_solve_fixpoint.proofs.questions.ranges.widen_all.Goals as goal

pub loop-at-preserved : goal.loop-at-preserved
loop-at-preserved c =
    let len : length c.widen.new.ranges ≡ length c.loop-at.ranges = omega arith in
    ranges_next (implication_items c.args.implications.now) c.loop-at.at c.in-Some.implication.now c.loop-at.ranges c.widen.new.ranges (sym c.in-Some.ensures) len c.loop-at.invariant
    c.widen.ensures.kept c.widen.ensures.widened

pub returns : goal.returns
returns c at i e l =
    let n : at < length (implication_items c.args.implications.now) = slice_get_within (implication_items c.args.implications.now) at i e in
    let b : at < c.loop-at.at = omega (arith, length-map (implication_items c.args.implications.now) (implication_view (environment_lists c.args.implications.now))) in
    c.loop-at.invariant at i b e l
