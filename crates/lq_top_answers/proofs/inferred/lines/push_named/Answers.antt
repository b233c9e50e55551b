use Rattle.std.proofs.Common.{ℕ, List, ◌++◌, ap₂, ◌∙◌}
use Rattle.lq_refined_types.specs.Types.Refined.{Refined}
use Rattle.lq_top_answers.specs.TypeText.Types.{type_line}
use Rattle.lq_top_answers.specs.TypeText.Views.{writing_view}
use Rattle.lq_top_answers.proofs.inferred.lines.push_named.Goals as goal

pub returns-clause-text : goal.returns-clause-text
returns-clause-text c =
    let W = writing_view c.args.solution.now.writing.now in
    c.in_ok-push_line.ensures.written
    ∙ ap₂ (λ (n : List ℕ) (t : Refined). c.args.line.now.items ++ type_line W n t) (c.as_bytes-text.ensures.value ∙ c.text_of.ensures) c.in_ok-tree.ensures.shown
