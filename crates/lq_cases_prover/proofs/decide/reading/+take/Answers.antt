use Rattle.std.proofs.Common.{◌≡◌, ◌<◌, [], ◌∷◌, get_or, length, sym, ap, subst, ◌∙◌}
use Rattle.lq_prover_decide.specs.Case.{fact_items, fact_of}
use Rattle.lq_prover_decide.specs.Deciding.{AllFactsBelow}
use Rattle.lq_logic_predicates.specs.NnfView.{nnf_items, nnf_view}
use Rattle.lq_cases_prover.specs.Decide.Reading.{AreRowsBelow, IsRowBelow}
use Rattle.lq_cases_prover.proofs.DecideLemmas.Below.{added, item_below, row_below, view_items}
use Rattle.lq_cases_prover.proofs.decide.reading.+take.Goals as goal
use Rattle.lq_cases_prover.proofs.decide.reading.+take.Goals.{take-in-Row+in_ok-copy_row-in-Row, take-in-Flag, take-in-Same+in_ok-copy-in-Same+in_ok-copy-in-Same-2}

pub take-returns : goal.take-returns
take-returns t c = λ n h k.
    let f = c.match-reading.fact in
    let fact_below : AllFactsBelow n (fact_of f ∷ []) = elim c.match-reading.branch [
      | take-in-Row+in_ok-copy_row-in-Row w ↦ subst (λ x. AllFactsBelow n (fact_of x ∷ [])) (sym w.fact-is)
          (row_below n c.args.reading.now w.in-Row.row w.in_ok-copy_row-in-Row.field-0 w.in-Row.is w.in_ok-copy_row-in-Row.ensures k, tt)
      | take-in-Flag w ↦ subst (λ x. AllFactsBelow n (fact_of x ∷ [])) (sym w.fact-is) tt
      | take-in-Same+in_ok-copy-in-Same+in_ok-copy-in-Same-2 w ↦ subst (λ x. AllFactsBelow n (fact_of x ∷ [])) (sym w.fact-is) tt
    ] in
    added n (fact_items c.args.facts.now) (fact_items c.push.new.self) f c.in_ok-push.ensures.ok h fact_below

pub take_all-loop-reading-preserved : goal.take_all-loop-reading-preserved
take_all-loop-reading-preserved t c = λ n h k.
    let items = nnf_items c.args.readings.now in let i = c.loop-reading.reading-index in let x = c.reading-item.result in
    let is : x ≡ get_or items i x = c.reading-item.is ∙ ap (λ l. get_or l i x) c.as_slice-reading-items.ensures in
    let inside : i < length items = subst (λ l. i < length l) c.as_slice-reading-items.ensures c.loop-reading-test.true in
    c.in_ok-take.ensures n (c.loop-reading.invariant n h k)
    (subst (λ m. IsRowBelow n (nnf_view m)) (sym is) (item_below n items i x inside (subst (AreRowsBelow n) (view_items c.args.readings.now) k)))
