use Rattle.std.proofs.Common.{◌≡◌, take}
use Rattle.lq_top_answers.specs.TypeText.Letters.{seen_in_all}
use Rattle.lq_top_answers.specs.TypeText.ShownView.{row_view}
use Rattle.lq_top_answers.proofs.type_text.letters.+letters.Given as goal

abbrev pub invariant-add_all-loop-part : goal.invariant-add_all-loop-part
invariant-add_all-loop-part l = l.seen.items ≡ seen_in_all l.initial.seen.items (row_view (take l.part-index l.parts))
