use Rattle.std.proofs.Common.{◌≡◌, ◌+◌, ◌++◌, false, map, take, sym, ap, ◌∙◌, append_assoc}
use Rattle.lq_logic_text.specs.Continued.{Continues-trans}
use Rattle.lq_top_answers.proofs.TypeTextLemmas.EntryRows.{entry_texts-push, is_open_behind-append, more_entries-append}
use Rattle.lq_top_answers.proofs.TypeTextLemmas.Rows.{map-more}
use Rattle.lq_top_answers.specs.TypeText.Rows.{is_open_behind, more_entries}
use Rattle.lq_top_answers.specs.TypeText.ShownView.{entry_view}
use Rattle.lq_top_answers.specs.TypeText.Types.{entry_text, entry_texts, formulas, if_any}
use Rattle.lq_top_answers.specs.TypeText.Views.{writing_view}
use Rattle.lq_top_answers.proofs.type_text.entries.push_entries.Goals as goal

pub loop-entry-preserved : goal.loop-entry-preserved
loop-entry-preserved c =
    let w = writing_view c.args.writing.now in
    let d = c.args.data.0 in
    let entries = c.args.entries.now in
    let i = c.loop-entry.entry-index in
    let entry = c.entry-item.result in
    let before = map entry_view (take i entries) in
    let ts = entry_texts w d before in
    let next = if_any (formulas (entry_view entry).parts) (entry_text w d (entry_view entry)) in
    let all : entry_texts w d (map entry_view (take (i + 1) entries)) ≡ ts ++ next =
    ap (entry_texts w d) (map-more entry_view entries i entry c.loop-entry-test.true c.entry-item.is) ∙ entry_texts-push w d before (entry_view entry) in
    record {
      is_open = c.in_ok-is_open.ensures.is_open ∙ ap (λ b. is_open_behind b next) c.loop-entry.invariant.is_open
          ∙ sym (is_open_behind-append false ts next) ∙ ap (is_open_behind false) (sym all);
      text = c.in_ok-is_open.ensures.text ∙ ap (λ l. l ++ more_entries c.loop-entry.is_open next) c.loop-entry.invariant.text
          ∙ ap (λ b. (c.args.line.now.items ++ more_entries false ts) ++ more_entries b next) c.loop-entry.invariant.is_open
          ∙ append_assoc c.args.line.now.items (more_entries false ts) (more_entries (is_open_behind false ts) next)
          ∙ ap (λ l. c.args.line.now.items ++ l) (sym (more_entries-append false ts next) ∙ ap (more_entries false) (sym all));
      begins = Continues-trans c.args.line.now.items c.loop-entry.line.items c.push_next.new.line.items c.loop-entry.invariant.begins
          c.in_ok-is_open.ensures.begins;
    }
