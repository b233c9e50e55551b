use Rattle.std.proofs.Common.{◌∙◌}
use Rattle.lq_logic_predicates.specs.PredView.{pred_items}
use Rattle.lq_top_answers.proofs.TypeTextLemmas.EntryRows.{is_open_said, more_said}
use Rattle.lq_top_answers.specs.TypeText.ShownView.{entry_view}
use Rattle.lq_top_answers.specs.TypeText.Types.{entry_text}
use Rattle.lq_top_answers.specs.TypeText.Views.{writing_view}
use Rattle.lq_top_answers.proofs.type_text.entries.push_next.Goals as goal

pub returns-clause-is_open : goal.returns-clause-is_open
returns-clause-is_open c =
    is_open_said c.args.is_open (pred_items c.args.entry.now.preds) (entry_text (writing_view c.args.writing.now) c.args.data.0 (entry_view c.args.entry.now))
    (λ e. c.if-len-eq0.false (c.len.ensures ∙ e))

pub returns-clause-text : goal.returns-clause-text
returns-clause-text c =
    more_said c.args.is_open (pred_items c.args.entry.now.preds) (entry_text (writing_view c.args.writing.now) c.args.data.0 (entry_view c.args.entry.now))
    c.args.line.now.items c.push_opening.new.line.items c.push_entry.new.line.items (λ e. c.if-len-eq0.false (c.len.ensures ∙ e))
    c.in_ok-push_opening.ensures.written c.in_ok-push_entry.ensures.written
