use Rattle.std.proofs.Common.{ℕ, List, Option, ap, ◌∙◌}
use Rattle.lq_types_infer.specs.Annotation.Whole.{program_of}
use Rattle.lq_top_answers.specs.Failure.Failures.{undecided_lines}
use Rattle.lq_refined_substitution.specs.Implications.Views.{implications_of}
use Rattle.lq_logic_text.specs.Views.{made_view}
use Rattle.lq_top_judge.specs.Verdict.Names.{called_by}
use Rattle.lq_top_judge.proofs.VerdictLemmas.Posed.{undecided_is}
use Rattle.lq_top_judge.proofs.verdict.verdict.undecided.Goals as goal

pub returns : goal.returns
returns c =
    λ limit t stops view.
    let m = c.args.posed.now in
    let is = implications_of m.problem.implications in
    let named = c.calling_of-calling.ensures.view
    ∙ ap (λ (ss : List (Option ℕ)). called_by m.texts.names ss (made_view c.in_ok-names.names.made.items)) c.in_ok-names.ensures.sources
    ∙ ap (called_by m.texts.names (program_of m.texts.noted.program.annotated).sources) c.in_ok-names.ensures.made in
    undecided_is m t view limit c.args.at c.args.stop.now c.in_ok-cause.cause stops
    (c.in_ok-cause.ensures ∙ ap (λ C. undecided_lines C is c.args.at c.args.stop.now) named)
