use Rattle.std.proofs.Common.{◌≡◌, List, [], sym, ap, ◌∙◌, map, rules}
use Rattle.lq_logic_predicates.specs.PredView.{formula_of, implication_of}
use Rattle.lq_logic_predicates.specs.declared.pred.Pred.{Pred}
use Rattle.lq_top_answers.specs.Failure.Collected.{valued_views, with_each}
use Rattle.lq_top_answers.specs.Failure.Occurrences.{Valued, in_formula, in_formulas, in_implication, same_valued}
use Rattle.lq_top_answers.proofs.FailureLemmas.Firsts.{with_each_append}
use Rattle.lq_top_answers.proofs.FailureLemmas.Keys.{all_firsts}
use Rattle.lq_top_answers.proofs.failure.collecting.collect.Goals as goal

pub returns : goal.returns
returns c =
    let i = implication_of c.args.closed.now in
    let none : valued_views c.new-seen.result.keys ≡ [] = search rules in
    c.in_ok-add_pred.ensures
    ∙ ap (λ (l : List Valued). with_each same_valued l (in_formula i.goal)) (c.in_ok-add_preds.ensures ∙ ap (λ (l : List Pred). with_each same_valued (valued_views c.new-seen.result.keys) (in_formulas (map formula_of l))) c.as_slice.ensures)
    ∙ ap (λ (l : List Valued). with_each same_valued (with_each same_valued l (in_formulas i.hypotheses)) (in_formula i.goal)) none
    ∙ sym (with_each_append same_valued [] (in_formulas i.hypotheses) (in_formula i.goal))
    ∙ all_firsts (in_implication i)
