use Rattle.std.proofs.Common.{◌≡◌, ◌<◌, ◌≤◌, length, get_or, map, sym, ap, subst, ◌∙◌, arith}
use Rattle.lq_prover_case.specs.State.RowState.{row_point, terms_of}
use Rattle.lq_logic_predicates.specs.NnfView.{nnf_view, nnfs_view, nnf_items}
use Rattle.lq_logic_predicates.specs.RowMeaning.{MeetsAllRows, MeetsAnyRow, MeetsRows}
use Rattle.lq_logic_predicates.specs.TermView.{sum_of}
use Rattle.lq_prover_search.specs.Path.Meeting.{IsPastIn, IsPastInAny}
use Rattle.lq_prover_search.specs.Path.Readings.{AreOver, IsOver}
use Rattle.lq_prover_search.proofs.PathLemmas.Readings.{all_met, item_over, item_smaller, met_at, past_at, past_next, size, size_each, some_met, some_past, view_items}
use Rattle.lq_prover_search.proofs.path.meeting.+meets.Goals as goal

pub meets_all-meets-requires : goal.meets_all-meets-requires
meets_all-meets-requires t c =
    let objects = map sum_of c.args.objects.now.keys in let m = terms_of c.args.state.now.rows in
    let items = nnf_items c.args.all.now in let i = c.loop-reading.reading-index in let n = c.reading-item.result in
    let is : n ≡ get_or items i n = c.reading-item.is ∙ ap (λ l. get_or l i n) c.as_slice-reading-items.ensures in
    let inside : i < length items = subst (λ l. i < length l) c.as_slice-reading-items.ensures c.loop-reading-test.true in
    let smaller : size (nnf_view n) < size_each (nnfs_view c.args.all.now) =
    subst (λ x. size (nnf_view x) < size_each (nnfs_view c.args.all.now)) (sym is)
    (subst (λ r. size (nnf_view (get_or items i n)) < size_each r) (sym (view_items c.args.all.now)) (item_smaller items i n inside)) in
    let at : size_each (nnfs_view c.args.all.now) ≡ t = c.decreases in (
      subst (λ x. size (nnf_view n) < x) at smaller,
      (
        c.requires.solved,
        (subst (λ x. IsOver m objects (nnf_view x)) (sym is) (item_over m objects items i n inside (subst (AreOver m objects) (view_items c.args.all.now) c.requires.over)), c.requires.count),
      ),
    )

pub meets_any-meets-requires : goal.meets_any-meets-requires
meets_any-meets-requires t c =
    let objects = map sum_of c.args.objects.now.keys in let m = terms_of c.args.state.now.rows in
    let items = nnf_items c.args.any.now in let i = c.loop-reading.reading-index in let n = c.reading-item.result in
    let is : n ≡ get_or items i n = c.reading-item.is ∙ ap (λ l. get_or l i n) c.as_slice-reading-items.ensures in
    let inside : i < length items = subst (λ l. i < length l) c.as_slice-reading-items.ensures c.loop-reading-test.true in
    let smaller : size (nnf_view n) < size_each (nnfs_view c.args.any.now) =
    subst (λ x. size (nnf_view x) < size_each (nnfs_view c.args.any.now)) (sym is)
    (subst (λ r. size (nnf_view (get_or items i n)) < size_each r) (sym (view_items c.args.any.now)) (item_smaller items i n inside)) in
    let at : size_each (nnfs_view c.args.any.now) ≡ t = c.decreases in (
      subst (λ x. size (nnf_view n) < x) at smaller,
      (
        c.requires.solved,
        (subst (λ x. IsOver m objects (nnf_view x)) (sym is) (item_over m objects items i n inside (subst (AreOver m objects) (view_items c.args.any.now) c.requires.over)), c.requires.count),
      ),
    )

pub meets_all-returns-clause-met : goal.meets_all-returns-clause-met
meets_all-returns-clause-met t c = λ p at _.
    let v = row_point c.args.state.now.rows in
    let items = nnf_items c.args.all.now in let i = c.loop-reading.reading-index in
    let past_end : length items ≤ i = subst (λ l. length l ≤ i) c.as_slice-reading-items.ensures c.loop-reading-test.false in
    subst (MeetsAllRows v p) (sym (view_items c.args.all.now))
    (all_met v p items (λ k w d. subst (λ l. MeetsRows v p (nnf_view (get_or l k d))) c.as_slice-reading-items.ensures (c.loop-reading.invariant p at k (omega (arith, w, past_end)) d)))

pub meets_any-returns-then-meets-clause-met : goal.meets_any-returns-then-meets-clause-met
meets_any-returns-then-meets-clause-met t c = λ p at _.
    let v = row_point c.args.state.now.rows in
    let items = nnf_items c.args.any.now in let i = c.loop-reading.reading-index in let n = c.reading-item.result in
    let is : n ≡ get_or items i n = c.reading-item.is ∙ ap (λ l. get_or l i n) c.as_slice-reading-items.ensures in
    let inside : i < length items = subst (λ l. i < length l) c.as_slice-reading-items.ensures c.loop-reading-test.true in
    subst (MeetsAnyRow v p) (sym (view_items c.args.any.now)) (some_met v p items i n inside (subst (λ x. MeetsRows v p (nnf_view x)) is (c.meets.ensures.met p at c.if-meets.true)))

pub meets_all-returns-then-not-meets-clause-unknown : goal.meets_all-returns-then-not-meets-clause-unknown
meets_all-returns-then-not-meets-clause-unknown t c = λ p at _ m.
    let v = row_point c.args.state.now.rows in
    let items = nnf_items c.args.all.now in let i = c.loop-reading.reading-index in let n = c.reading-item.result in
    let is : n ≡ get_or items i n = c.reading-item.is ∙ ap (λ l. get_or l i n) c.as_slice-reading-items.ensures in
    let inside : i < length items = subst (λ l. i < length l) c.as_slice-reading-items.ensures c.loop-reading-test.true in
    let met = met_at v p items i n inside (subst (MeetsAllRows v p) (view_items c.args.all.now) m) in
    let past = c.meets.ensures.unknown p at c.if-not-meets.true (subst (λ x. MeetsRows v p (nnf_view x)) (sym is) met) in
    subst (IsPastInAny v) (sym (view_items c.args.all.now)) (past_at v items i n inside (subst (λ x. IsPastIn v (nnf_view x)) is past))

pub meets_any-loop-reading-preserved : goal.meets_any-loop-reading-preserved
meets_any-loop-reading-preserved t c = λ p at k less d.
    let v = row_point c.args.state.now.rows in
    let items = c.as_slice-reading-items.result.now in let i = c.loop-reading.reading-index in let n = c.reading-item.result in
    let unknown = λ (m : MeetsRows v p (nnf_view n)). c.meets.ensures.unknown p at c.if-meets.false m in
    past_next v p items i n c.loop-reading-test.true c.reading-item.is (c.loop-reading.invariant p at) unknown k less d

pub meets_any-returns-clause-unknown : goal.meets_any-returns-clause-unknown
meets_any-returns-clause-unknown t c = λ p at _ m.
    let v = row_point c.args.state.now.rows in
    let items = nnf_items c.args.any.now in let i = c.loop-reading.reading-index in
    let past_end : length items ≤ i = subst (λ l. length l ≤ i) c.as_slice-reading-items.ensures c.loop-reading-test.false in
    subst (IsPastInAny v) (sym (view_items c.args.any.now))
    (some_past v p items
    (λ k w d. subst (λ l. MeetsRows v p (nnf_view (get_or l k d)) → IsPastIn v (nnf_view (get_or l k d))) c.as_slice-reading-items.ensures (c.loop-reading.invariant p at k (omega (arith, w, past_end)) d))
    (subst (MeetsAnyRow v p) (view_items c.args.any.now) m))
