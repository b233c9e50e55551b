use Rattle.std.proofs.Common.{◌≡◌, ◌++◌, take}
use Rattle.lq_refined_templates.specs.Programs.BlockView.{program_view}
use Rattle.lq_refined_subtyping.specs.Table.Whole.{Grows}
use Rattle.lq_top_answers.specs.Inferred.Lines.{types_text_of}
use Rattle.lq_top_answers.specs.Inferred.Views.{solution_view}
use Rattle.lq_top_answers.proofs.inferred.lines.push_items.Given as goal

abbrev pub invariant-loop-item : goal.invariant-loop-item
invariant-loop-item l = record {
  grows : Grows l.initial.types l.types;
  text : l.text.items ≡ l.initial.text.items ++ types_text_of (solution_view l.initial.types l.solution) (program_view (take l.item-index l.program));
}
