use Rattle.std.proofs.Common.{◌∙◌, [], ap, sym, map, take}
use Rattle.lq_logic_predicates.specs.ClosedImplication.{each_numbered}
use Rattle.lq_logic_predicates.specs.PredView.{formula_of}
use Rattle.lq_logic_predicates.specs.Reading.{formula_numbered}
use Rattle.lq_logic_predicates.proofs.Each.{each_numbered-more}
use Rattle.lq_logic_predicates.proofs.pred.Closed.terms.Goals as goal

pub loop-pred-preserved : goal.loop-pred-preserved
loop-pred-preserved c =
    let items = c.as_slice-pred-items.result.now in let i = c.loop-pred.pred-index in let pred = c.pred-item.result in
    let before = each_numbered [] (map formula_of (take i items)) in
    c.in_ok-number_terms.ensures.numbered ∙ ap (λ l. formula_numbered l (formula_of pred)) c.loop-pred.invariant
    ∙ ap (λ d. formula_numbered before (formula_of d)) c.pred-item.is ∙ sym (each_numbered-more [] items i pred c.loop-pred-test.true)
