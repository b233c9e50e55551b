use Rattle.std.proofs.Common.{◌≡◌, ◌++◌, false, take}
use Rattle.lq_logic_text.specs.Continued.{Continues}
use Rattle.lq_top_answers.specs.TypeText.Rows.{is_open_behind, more_entries}
use Rattle.lq_top_answers.specs.TypeText.ShownView.{entries_view}
use Rattle.lq_top_answers.specs.TypeText.Types.{entry_texts}
use Rattle.lq_top_answers.specs.TypeText.Views.{writing_view}
use Rattle.lq_top_answers.proofs.type_text.entries.push_entries.Given as goal

abbrev pub invariant-loop-entry : goal.invariant-loop-entry
invariant-loop-entry l =
    record {
      is_open : l.is_open ≡ is_open_behind false (entry_texts (writing_view l.writing) l.data.0 (entries_view (take l.entry-index l.entries)));
      text : l.line.items
          ≡ l.initial.line.items ++ more_entries false (entry_texts (writing_view l.writing) l.data.0 (entries_view (take l.entry-index l.entries)));
      begins : Continues l.initial.line.items l.line.items;
    }
