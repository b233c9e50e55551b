use Rattle.std.proofs.Common.{◌≡◌, ◌∙◌, ◌+◌, ◌<◌, get_or, length, subst, sym, ap, arith}
use Rattle.lq_logic_predicates.specs.NnfView.{nnf_items, nnf_view, nnfs_view}
use Rattle.lq_prover_search.proofs.SearchLemmas.Added.{all_items, choices_in_all, choices_next, facts_in_all, facts_next, if_none, item_smaller, reached, size, size_each, view_items}
use Rattle.lq_prover_search.proofs.search.counting.+count.Goals as goal

pub count_all-count_added-requires : goal.count_all-count_added-requires
count_all-count_added-requires t c =
    let items = nnf_items c.args.readings.now in let i = c.loop-reading.reading-index in let n = c.reading-item.result in
    let is : n ≡ get_or items i n = c.reading-item.is ∙ ap (λ l. get_or l i n) c.as_slice-reading-items.ensures in
    let inside : i < length items = subst (λ l. i < length l) c.as_slice-reading-items.ensures c.loop-reading-test.true in
    let smaller : size (nnf_view n) < size_each (nnfs_view c.args.readings.now) =
    subst (λ m. size (nnf_view m) < size_each (nnfs_view c.args.readings.now)) (sym is) (subst (λ r. size (nnf_view (get_or items i n)) < size_each r) (sym (view_items c.args.readings.now)) (item_smaller items i n inside)) in
    let at : size_each (nnfs_view c.args.readings.now) ≡ t = c.decreases in
    (subst (λ x. size (nnf_view n) < x) at smaller, tt)

pub count_all-returns-in_err-count_added-clause-none : goal.count_all-returns-in_err-count_added-clause-none
count_all-returns-in_err-count_added-clause-none t c =
    if_none c.from_residual.result 18446744073709551616 (facts_in_all (nnfs_view c.args.readings.now) + choices_in_all (nnfs_view c.args.readings.now))
    (reached c.args.readings.now c.as_slice-reading-items.result.now c.loop-reading.reading-index c.reading-item.result 18446744073709551616 0 0
    c.as_slice-reading-items.ensures c.loop-reading-test.true c.reading-item.is (let h = c.in_err-count_added.ensures.none in omega (arith, h)) (omega arith) (omega arith))

pub count_all-returns-in_err-sum-clause-none : goal.count_all-returns-in_err-sum-clause-none
count_all-returns-in_err-sum-clause-none t c =
    let m = c.in_ok-count_added.ensures.some in
    if_none c.from_residual-in_err-sum.result 18446744073709551616 (facts_in_all (nnfs_view c.args.readings.now) + choices_in_all (nnfs_view c.args.readings.now))
    (reached c.args.readings.now c.as_slice-reading-items.result.now c.loop-reading.reading-index c.reading-item.result 18446744073709551616 c.loop-reading.sum.facts c.loop-reading.sum.choices
    c.as_slice-reading-items.ensures c.loop-reading-test.true c.reading-item.is
    (let h = c.in_err-sum.ensures.none in let u = m.0 in let v = m.1 in omega (arith, h, u, v))
    (let u = c.loop-reading.invariant.0 in omega (arith, u)) (let u = c.loop-reading.invariant.1 in omega (arith, u)))

pub count_all-loop-reading-preserved : goal.count_all-loop-reading-preserved
count_all-loop-reading-preserved t c =
    let items = c.as_slice-reading-items.result.now in let i = c.loop-reading.reading-index in let n = c.reading-item.result in
    let e = c.in_ok-sum.ensures.some in let m = c.in_ok-count_added.ensures.some in let k = c.loop-reading.invariant in
    let f = facts_next items i n c.loop-reading-test.true c.reading-item.is in let g = choices_next items i n c.loop-reading-test.true c.reading-item.is in
    let e0 = e.0 in let e1 = e.1 in let m0 = m.0 in let m1 = m.1 in let k0 = k.0 in let k1 = k.1 in
    (omega (arith, e0, m0, k0, f), omega (arith, e1, m1, k1, g))

pub count_all-returns-clause-some : goal.count_all-returns-clause-some
count_all-returns-clause-some t c =
    let items = c.as_slice-reading-items.result.now in let i = c.loop-reading.reading-index in (
      c.loop-reading.invariant.0 ∙ all_items facts_in_all c.args.readings.now items i c.as_slice-reading-items.ensures c.loop-reading-test.false,
      c.loop-reading.invariant.1 ∙ all_items choices_in_all c.args.readings.now items i c.as_slice-reading-items.ensures c.loop-reading-test.false,
    )
