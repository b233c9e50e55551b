use Rattle.std.proofs.Common.{◌≡◌, ◌+◌, ◌++◌, ◌≤◌, OnOk, codes, length, map, subst, take, arith, sym, ap, ◌∙◌}
use Rattle.std.proofs.lemmas.List.{length-map}
use Rattle.lq_logic_text.specs.Continued.{Continues-trans}
use Rattle.lq_refined_subtyping.specs.Table.Forms.{row_of}
use Rattle.lq_top_answers.proofs.TypeTextLemmas.Rows.{arguments_text-several, argument_texts-push, component_texts-push, length-argument_texts, length-component_texts, length-more, map-more, row-more}
use Rattle.lq_top_answers.specs.TypeText.ShownView.{row_view, shown_view}
use Rattle.lq_top_answers.specs.TypeText.Types.{argument_texts, component_texts, guarded, lettered_text}
use Rattle.lq_top_answers.specs.TypeText.Views.{writing_view}
use Rattle.lq_top_answers.proofs.type_text.types.+types.Goals as goal

pub push_components-loop-at-preserved : goal.push_components-loop-at-preserved
push_components-loop-at-preserved t c =
    let w = writing_view c.args.writing.now in
    let seen = c.args.seen.now in
    let parts = c.args.parts.now in
    let i = c.loop-at.at in
    let part = c.index-parts-at.result in
    let before = map shown_view (take i parts) in
    record {
      text = row-more (codes " * ") c.args.line.now.items c.loop-at.line.items c.push_separator.new.line.items c.push_lettered.new.line.items
          (lettered_text w seen (shown_view part)) (component_texts w seen (row_of before)) (component_texts w seen (row_view (take (i + 1) parts))) i
          c.loop-at.invariant.text (length-more shown_view parts i c.loop-at-test.true ∙ sym (length-component_texts w seen before))
          c.in_ok-push_separator.ensures.written c.in_ok-push_lettered.ensures.written
          (ap (λ ts. component_texts w seen (row_of ts)) (map-more shown_view parts i part c.loop-at-test.true c.index-parts-at.is)
          ∙ component_texts-push w seen before (shown_view part));
      begins = Continues-trans c.args.line.now.items c.loop-at.line.items c.push_lettered.new.line.items c.loop-at.invariant.begins
          (Continues-trans c.loop-at.line.items c.push_separator.new.line.items c.push_lettered.new.line.items c.in_ok-push_separator.ensures.begins
          c.in_ok-push_lettered.ensures.begins);
    }

pub push_listed-loop-at-preserved : goal.push_listed-loop-at-preserved
push_listed-loop-at-preserved t c =
    let w = writing_view c.args.writing.now in
    let seen = c.args.seen.now in
    let arguments = c.args.arguments.now in
    let i = c.loop-at.at in
    let argument = c.index-arguments-at.result in
    let before = map shown_view (take i arguments) in
    record {
      text = row-more (codes ", ") c.args.line.now.items c.loop-at.line.items c.push_separator.new.line.items c.push_guarded.new.line.items
          (guarded (shown_view argument) (lettered_text w seen (shown_view argument))) (argument_texts w seen (row_of before))
          (argument_texts w seen (row_view (take (i + 1) arguments))) i
          c.loop-at.invariant.text (length-more shown_view arguments i c.loop-at-test.true ∙ sym (length-argument_texts w seen before))
          c.in_ok-push_separator.ensures.written c.in_ok-push_guarded.ensures.written
          (ap (λ ts. argument_texts w seen (row_of ts)) (map-more shown_view arguments i argument c.loop-at-test.true c.index-arguments-at.is)
          ∙ argument_texts-push w seen before (shown_view argument));
      begins = Continues-trans c.args.line.now.items c.loop-at.line.items c.push_guarded.new.line.items c.loop-at.invariant.begins
          (Continues-trans c.loop-at.line.items c.push_separator.new.line.items c.push_guarded.new.line.items c.in_ok-push_separator.ensures.begins
          c.in_ok-push_guarded.ensures.begins);
    }

pub push_arguments-returns-in_default-clause-written : goal.push_arguments-returns-in_default-clause-written
push_arguments-returns-in_default-clause-written t c =
    let w = writing_view c.args.writing.now in
    let seen = c.args.seen.now in
    let arguments = c.args.arguments.now in
    let texts = argument_texts w seen (row_view arguments) in
    let many : 2 ≤ length texts =
    let k = length-argument_texts w seen (map shown_view arguments) in let m = length-map arguments shown_view in omega (arith, k, m, c.in_default.len_at_least) in
    subst (λ x. OnOk c.push_several.result (c.push_several.new.line.items ≡ c.args.line.now.items ++ x)) (sym (arguments_text-several texts many))
    c.push_several.ensures.written
