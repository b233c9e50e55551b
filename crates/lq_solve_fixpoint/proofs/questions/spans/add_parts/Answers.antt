use Rattle.lq_refined_substitution.specs.Substitution.Views.{part_view}
use Rattle.lq_solve_fixpoint.proofs.QuestionsLemmas.Adding.{part_added}
use Rattle.lq_solve_fixpoint.proofs.questions.spans.add_parts.Goals as goal

pub loop-part-preserved : goal.loop-part-preserved
loop-part-preserved c =
    part_added part_view c.args.parts.now c.loop-part.part-index c.part-item.result c.args.span c.args.spans.now c.loop-part.spans c.add_part.new.spans c.loop-part-test.true c.part-item.is
    c.loop-part.invariant c.in_ok-add_part.ensures
