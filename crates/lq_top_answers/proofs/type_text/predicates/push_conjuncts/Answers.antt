use Rattle.std.proofs.Common.{◌+◌, codes, map, take, sym, ap, ◌∙◌}
use Rattle.std.proofs.lemmas.List.{length-map, map_push}
use Rattle.lq_logic_predicates.specs.PredView.{formula_of}
use Rattle.lq_logic_text.specs.Continued.{Continues-trans}
use Rattle.lq_logic_text.specs.Views.{calling_view}
use Rattle.lq_top_answers.proofs.TypeTextLemmas.Rows.{length-more, map-more, row-more}
use Rattle.lq_top_answers.specs.TypeText.Types.{conjunct_text}
use Rattle.lq_top_answers.proofs.type_text.predicates.push_conjuncts.Goals as goal

pub loop-at-preserved : goal.loop-at-preserved
loop-at-preserved c =
    let f = conjunct_text (calling_view c.args.calling.now) in
    let preds = c.args.preds.now in
    let i = c.loop-at.at in
    let pred = c.index-preds-at.result in
    let before = map formula_of (take i preds) in
    record {
      text = row-more (codes " && ") c.args.line.now.items c.loop-at.line.items c.push_separator.new.line.items c.push_conjunct.new.line.items (f (formula_of pred)) (map f before)
          (map f (map formula_of (take (i + 1) preds))) i c.loop-at.invariant.text (length-more formula_of preds i c.loop-at-test.true ∙ sym (length-map before f))
          c.in_ok-push_separator.ensures.written c.in_ok-push_conjunct.ensures.written
          (ap (map f) (map-more formula_of preds i pred c.loop-at-test.true c.index-preds-at.is) ∙ map_push f before (formula_of pred));
      begins = Continues-trans c.args.line.now.items c.loop-at.line.items c.push_conjunct.new.line.items c.loop-at.invariant.begins
          (Continues-trans c.loop-at.line.items c.push_separator.new.line.items c.push_conjunct.new.line.items c.in_ok-push_separator.ensures.begins
          c.in_ok-push_conjunct.ensures.begins);
    }
