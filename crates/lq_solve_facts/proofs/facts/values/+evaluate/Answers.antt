use Rattle.std.proofs.Common.{◌≡◌, ◌∙◌, ◌<◌, ◌≤◌, true, false, length, get_or, refl, sym, ap, subst, arith}
use Rattle.lq_prover_case.specs.State.RowState.{row_point}
use Rattle.lq_logic_predicates.specs.NnfView.{nnf_items, nnf_view, nnfs_view}
use Rattle.lq_logic_predicates.specs.RowMeaning.{MeetsAllRows, MeetsAnyRow, MeetsRows}
use Rattle.lq_solve_facts.proofs.FactsLemmas.Members.{all_met, item_met, item_smaller, none_met, row_of, size, size_each, some_met, view_items}
use Rattle.lq_solve_facts.proofs.facts.values.+evaluate.Goals as goal

pub evaluate_all-evaluate-requires : goal.evaluate_all-evaluate-requires
evaluate_all-evaluate-requires t c =
    let items = nnf_items c.args.all.now in let i = c.loop-reading.reading-index in let n = c.reading-item.result in
    let is : n ≡ get_or items i n = c.reading-item.is ∙ ap (λ l. get_or l i n) c.as_slice-reading-items.ensures in
    let inside : i < length items = subst (λ l. i < length l) c.as_slice-reading-items.ensures c.loop-reading-test.true in
    let smaller : size (nnf_view n) < size_each (nnfs_view c.args.all.now) =
    subst (λ m. size (nnf_view m) < size_each (nnfs_view c.args.all.now)) (sym is)
    (subst (λ r. size (nnf_view (get_or items i n)) < size_each r) (sym (view_items c.args.all.now)) (item_smaller items i n inside)) in
    let at : size_each (nnfs_view c.args.all.now) ≡ t = c.decreases in (subst (λ x. size (nnf_view n) < x) at smaller, c.requires)

pub evaluate_any-evaluate-requires : goal.evaluate_any-evaluate-requires
evaluate_any-evaluate-requires t c =
    let items = nnf_items c.args.any.now in let i = c.loop-reading.reading-index in let n = c.reading-item.result in
    let is : n ≡ get_or items i n = c.reading-item.is ∙ ap (λ l. get_or l i n) c.as_slice-reading-items.ensures in
    let inside : i < length items = subst (λ l. i < length l) c.as_slice-reading-items.ensures c.loop-reading-test.true in
    let smaller : size (nnf_view n) < size_each (nnfs_view c.args.any.now) =
    subst (λ m. size (nnf_view m) < size_each (nnfs_view c.args.any.now)) (sym is)
    (subst (λ r. size (nnf_view (get_or items i n)) < size_each r) (sym (view_items c.args.any.now)) (item_smaller items i n inside)) in
    let at : size_each (nnfs_view c.args.any.now) ≡ t = c.decreases in (subst (λ x. size (nnf_view n) < x) at smaller, c.requires)

pub evaluate_all-returns-then-not-met : goal.evaluate_all-returns-then-not-met
evaluate_all-returns-then-not-met t c = λ p h. (
  λ e. absurd (cc),
  λ m.
      let v = row_point c.args.state.now.rows in
      let items = c.as_slice-reading-items.result.now in let i = c.loop-reading.reading-index in let n = c.reading-item.result in
      let all : MeetsAllRows v p (row_of items) = subst (λ l. MeetsAllRows v p (row_of l)) (sym c.as_slice-reading-items.ensures) (subst (MeetsAllRows v p) (view_items c.args.all.now) m) in
      let here : MeetsRows v p (nnf_view n) = subst (λ x. MeetsRows v p (nnf_view x)) (sym c.reading-item.is) (item_met v p items i n c.loop-reading-test.true all) in
      let met : c.in-Some.met ≡ true = (c.in-Some.ensures p h).1 here in
      let not_met : c.in-Some.met ≡ false = c.if-not-met.true in sym not_met ∙ met,
)

pub evaluate_all-returns-then-known : goal.evaluate_all-returns-then-known
evaluate_all-returns-then-known t c = λ p h. (
  λ e.
      let v = row_point c.args.state.now.rows in
      let items = nnf_items c.args.all.now in let i = c.loop-reading.reading-index in
      let past_end : length items ≤ i = subst (λ l. length l ≤ i) c.as_slice-reading-items.ensures c.loop-reading-test.false in
      subst (MeetsAllRows v p) (sym (view_items c.args.all.now))
      (all_met v p items (λ k w d. subst (λ l. MeetsRows v p (nnf_view (get_or l k d))) c.as_slice-reading-items.ensures (c.loop-reading.invariant c.if-known.true p h k (omega (arith, w, past_end)) d))),
  λ m. refl,
)

pub evaluate_any-returns-then-met : goal.evaluate_any-returns-then-met
evaluate_any-returns-then-met t c = λ p h. (
  λ e.
      let v = row_point c.args.state.now.rows in
      let items = nnf_items c.args.any.now in let i = c.loop-reading.reading-index in let n = c.reading-item.result in
      let is : n ≡ get_or items i n = c.reading-item.is ∙ ap (λ l. get_or l i n) c.as_slice-reading-items.ensures in
      let inside : i < length items = subst (λ l. i < length l) c.as_slice-reading-items.ensures c.loop-reading-test.true in
      subst (MeetsAnyRow v p) (sym (view_items c.args.any.now)) (some_met v p items i n inside (subst (λ x. MeetsRows v p (nnf_view x)) is ((c.in-Some.ensures p h).0 c.if-met.true))),
  λ m. refl,
)

pub evaluate_any-returns-then-known : goal.evaluate_any-returns-then-known
evaluate_any-returns-then-known t c = λ p h. (
  λ e. absurd (cc),
  λ m.
      let v = row_point c.args.state.now.rows in
      let items = c.as_slice-reading-items.result.now in
      let past : length items ≤ c.loop-reading.reading-index = c.loop-reading-test.false in
      absurd (none_met v p items (λ k w. c.loop-reading.invariant c.if-known.true p h k (omega (arith, w, past)))
      (subst (λ l. MeetsAnyRow v p (row_of l)) (sym c.as_slice-reading-items.ensures) (subst (MeetsAnyRow v p) (view_items c.args.any.now) m))),
)
