use Rattle.std.proofs.Common.{length, refl}
use Rattle.lq_refined_substitution.specs.Implications.Views.{environment_lists, implication_items}
use Rattle.lq_solve_fixpoint.specs.Questions.Assigned.{constraints_of}
use Rattle.lq_solve_fixpoint.specs.Questions.Covering.{Adds, SpeaksItself}
use Rattle.lq_solve_fixpoint.specs.Weakening.Index.{AreCovered}
use Rattle.lq_solve_fixpoint.proofs.QuestionsLemmas.Covering.{covered}
use Rattle.lq_solve_fixpoint.proofs.QuestionsLemmas.Leaving.{on_ok}
use Rattle.lq_solve_fixpoint.proofs.questions.spans.add_all.Goals as goal

pub returns : goal.returns
returns c =
    let all = c.args.implications.now in
    let es = environment_lists all in
    let is = implication_items all in
    let a = c.args.spans.now in
    let b = c.add_environments.new.spans in
    let d = c.add_implications.new.spans in
    on_ok c.add_implications.result (Adds (SpeaksItself is) b d) (AreCovered (constraints_of all) d)
    (covered es is c.args.ranges.now a b d (length a) refl c.requires.len c.requires.within c.requires.below c.in_ok-add_environments.ensures) c.add_implications.ensures
