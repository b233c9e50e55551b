use Rattle.lq_refined_substitution.specs.Implications.Views.{environment_lists}
use Rattle.lq_refined_types.specs.Parts.Refuting.{IsUnknown}
use Rattle.lq_refined_substitution.specs.Substitution.Views.{part_view}
use Rattle.std.proofs.Common.{◌<◌, arith, length}
use Rattle.lq_solve_fixpoint.specs.Questions.Covering.{Adds, Holds, IsLeft, range_at}
use Rattle.lq_solve_fixpoint.proofs.QuestionsLemmas.Leaving.{left_one, on_ok}
use Rattle.lq_solve_fixpoint.proofs.questions.spans.leave.Goals as goal

pub returns-in-Some : goal.returns-in-Some
returns-in-Some c =
    let es = environment_lists c.args.implications.now in
    let e = c.args.env in
    let q = part_view c.in-Some.last.now in
    let before = c.args.ranges.now in
    let after = c.widen.new.ranges in
    let s = c.args.spans.now in
    let t = c.add_part.new.spans in
    let there : e < length before = omega arith in
    on_ok c.add_part.result (Adds (λ u k. IsUnknown u q × Holds (range_at before e) k) s t) (IsLeft es e before after s t)
    (left_one es e c.in-Some.parent q before after s t c.in-Some.ensures.earlier there c.in-Some.ensures.hypotheses c.widen.ensures.kept c.widen.ensures.widened) c.add_part.ensures
