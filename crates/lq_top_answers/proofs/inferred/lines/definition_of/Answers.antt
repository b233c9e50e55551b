use Rattle.std.proofs.Common.{sym, ap, ◌∙◌}
use Rattle.std.proofs.lemmas.List.{append-nil}
use Rattle.lq_refined_rules.specs.Checks.Tree.{no_items}
use Rattle.lq_refined_templates.specs.Programs.BlockView.{item_view}
use Rattle.lq_top_answers.specs.Inferred.Lines.{definition_line, types_text_of}
use Rattle.lq_top_answers.proofs.inferred.lines.definition_of.Goals as goal

pub returns-in-Define : goal.returns-in-Define
returns-in-Define c = λ i.
    ap (λ x. types_text_of i (item_view x no_items)) c.in-Define.is ∙ append-nil _ ∙ ap (definition_line i c.in-Define.name.0) (sym c.point_of.ensures)

pub returns-in-DefineFunction : goal.returns-in-DefineFunction
returns-in-DefineFunction c = λ i. ap (λ x. types_text_of i (item_view x no_items)) c.in-DefineFunction.is ∙ append-nil _
