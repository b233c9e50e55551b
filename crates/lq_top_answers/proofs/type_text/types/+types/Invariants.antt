use Rattle.std.proofs.Common.{◌≡◌, ◌++◌, codes, take}
use Rattle.lq_logic_text.specs.Continued.{Continues}
use Rattle.lq_top_answers.specs.TypeText.ShownView.{row_view}
use Rattle.lq_top_answers.specs.TypeText.Types.{argument_texts, component_texts, in_row}
use Rattle.lq_top_answers.specs.TypeText.Views.{writing_view}
use Rattle.lq_top_answers.proofs.type_text.types.+types.Given as goal

abbrev pub invariant-push_components-loop-at : goal.invariant-push_components-loop-at
invariant-push_components-loop-at l =
    record {
      text : l.line.items ≡ l.initial.line.items ++ in_row (codes " * ") (component_texts (writing_view l.writing) l.seen (row_view (take l.at l.parts)));
      begins : Continues l.initial.line.items l.line.items;
    }

abbrev pub invariant-push_listed-loop-at : goal.invariant-push_listed-loop-at
invariant-push_listed-loop-at l =
    record {
      text : l.line.items ≡ l.initial.line.items ++ in_row (codes ", ") (argument_texts (writing_view l.writing) l.seen (row_view (take l.at l.arguments)));
      begins : Continues l.initial.line.items l.line.items;
    }
