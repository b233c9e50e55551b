use Rattle.std.proofs.Common.{ℕ, List, Option, ap, subst, ◌∙◌}
use Rattle.lq_types_infer.specs.Annotation.Whole.{program_of}
use Rattle.lq_top_answers.specs.Failure.Failures.{IsExplained, IsFailure}
use Rattle.lq_refined_substitution.specs.Implications.Views.{implications_of}
use Rattle.lq_logic_points.specs.Values.{as_point}
use Rattle.lq_logic_predicates.specs.PredView.{implication_of}
use Rattle.lq_logic_text.specs.Calling.{Calling}
use Rattle.lq_logic_text.specs.Views.{made_view}
use Rattle.lq_solve_fixpoint.specs.Weakening.Chosen.{chosen_in}
use Rattle.lq_top_judge.specs.Verdict.Names.{called_by}
use Rattle.lq_top_judge.proofs.VerdictLemmas.Posed.{rejected_is}
use Rattle.lq_top_judge.proofs.verdict.verdict.rejected.Goals as goal

pub returns : goal.returns
returns c =
    λ limit t view.
    let m = c.args.posed.now in
    let p = as_point c.args.point.now in
    let is = implications_of m.problem.implications in
    let closed = implication_of c.in_ok-closed.closed in
    let named = c.calling_of-calling.ensures.view
    ∙ ap (λ (ss : List (Option ℕ)). called_by m.texts.names ss (made_view c.in_ok-names.names.made.items)) c.in_ok-names.ensures.sources
    ∙ ap (called_by m.texts.names (program_of m.texts.noted.program.annotated).sources) c.in_ok-names.ensures.made in
    rejected_is m t view (chosen_in c.args.chosen.now) c.args.at c.args.point.now closed c.requires.none c.in_ok-closed.ensures limit
    c.in_ok-failure.failure c.in_ok-explained.explained c.requires.gathered
    (subst (λ (C : Calling). IsFailure C is c.args.at closed p c.in_ok-failure.failure) named c.in_ok-failure.ensures)
    (subst (λ (C : Calling). IsExplained C is c.args.at closed p c.in_ok-explained.explained) named c.in_ok-explained.ensures)
