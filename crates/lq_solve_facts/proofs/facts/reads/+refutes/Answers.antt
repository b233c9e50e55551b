use Rattle.std.proofs.Common.{◌≡◌, ◌∙◌, ◌<◌, ◌≤◌, length, get_or, sym, ap, subst, arith}
use Rattle.lq_logic_predicates.specs.NnfView.{nnf_items, nnf_view, nnfs_view}
use Rattle.lq_logic_predicates.specs.RowMeaning.{MeetsAnyRow}
use Rattle.lq_solve_facts.proofs.FactsLemmas.Holding.{hold_same}
use Rattle.lq_solve_facts.proofs.FactsLemmas.Members.{item_smaller, none_met, refuted_next, row_of, size, size_each, view_items}
use Rattle.lq_solve_facts.proofs.facts.reads.+refutes.Goals as goal

pub refutes_each-refutes-requires : goal.refutes_each-refutes-requires
refutes_each-refutes-requires t c =
    let items = nnf_items c.args.readings.now in let i = c.loop-reading.reading-index in let n = c.reading-item.result in
    let is : n ≡ get_or items i n = c.reading-item.is ∙ ap (λ l. get_or l i n) c.as_slice-reading-items.ensures in
    let inside : i < length items = subst (λ l. i < length l) c.as_slice-reading-items.ensures c.loop-reading-test.true in
    let smaller : size (nnf_view n) < size_each (nnfs_view c.args.readings.now) =
    subst (λ m. size (nnf_view m) < size_each (nnfs_view c.args.readings.now)) (sym is)
    (subst (λ r. size (nnf_view (get_or items i n)) < size_each r) (sym (view_items c.args.readings.now)) (item_smaller items i n inside)) in
    let at : size_each (nnfs_view c.args.readings.now) ≡ t = c.decreases in
    (subst (λ x. size (nnf_view n) < x) at smaller, c.loop-reading.invariant.limits ∙ c.requires)

pub refutes_each-loop-reading-preserved : goal.refutes_each-loop-reading-preserved
refutes_each-loop-reading-preserved t c =
    let items = c.as_slice-reading-items.result.now in let i = c.loop-reading.reading-index in let n = c.reading-item.result in
    let before = c.loop-reading.invariant in
    record {
      refuted = λ v p h. refuted_next v p items i n c.loop-reading-test.true c.reading-item.is (before.refuted v p h) (c.refutes.ensures.refuted c.if-not-refutes.false v p (hold_same v p _ _ before.same h));
      same = c.refutes.ensures.same ∙ before.same;
      limits = c.refutes.ensures.limits ∙ before.limits;
    }

pub refutes_each-returns-clause-refuted : goal.refutes_each-returns-clause-refuted
refutes_each-returns-clause-refuted t c = λ _ v p h m.
    let items = c.as_slice-reading-items.result.now in
    let past : length items ≤ c.loop-reading.reading-index = c.loop-reading-test.false in
    none_met v p items (λ k w. c.loop-reading.invariant.refuted v p h k (omega (arith, w, past)))
    (subst (λ l. MeetsAnyRow v p (row_of l)) (sym c.as_slice-reading-items.ensures) (subst (MeetsAnyRow v p) (view_items c.args.readings.now) m))
