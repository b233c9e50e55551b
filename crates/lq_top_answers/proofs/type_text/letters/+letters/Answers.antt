use Rattle.std.proofs.Common.{map, take, sym, ap, ◌∙◌}
use Rattle.lq_refined_subtyping.specs.Table.Forms.{row_of}
use Rattle.lq_top_answers.proofs.TypeTextLemmas.LetterRows.{seen_in_all-push}
use Rattle.lq_top_answers.proofs.TypeTextLemmas.Rows.{map-more}
use Rattle.lq_top_answers.specs.TypeText.Letters.{seen_in, seen_in_all}
use Rattle.lq_top_answers.specs.TypeText.ShownView.{shown_view}
use Rattle.lq_top_answers.proofs.type_text.letters.+letters.Goals as goal

pub add_all-loop-part-preserved : goal.add_all-loop-part-preserved
add_all-loop-part-preserved t c =
    let part = c.part-item.result in
    let parts = c.args.parts.now in
    let i = c.loop-part.part-index in
    let init = c.args.seen.now.items in
    c.in_ok-add_letters.ensures ∙ ap (λ l. seen_in l (shown_view part)) c.loop-part.invariant
    ∙ sym (seen_in_all-push init (map shown_view (take i parts)) (shown_view part))
    ∙ ap (λ ts. seen_in_all init (row_of ts)) (sym (map-more shown_view parts i part c.loop-part-test.true c.part-item.is))
