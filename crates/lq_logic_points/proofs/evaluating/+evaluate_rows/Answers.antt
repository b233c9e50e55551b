use Rattle.std.proofs.Common.{◌≡◌, ◌<◌, ◌≤◌, length, get_or, map, Err, IfErr, inl, inr, sym, ap, subst, ◌∙◌, arith, rules}
use Rattle.lq_logic_rows.specs.Steps.{valuation_of}
use Rattle.lq_logic_predicates.specs.NnfView.{nnf_view, nnfs_view, nnf_items, readings_of}
use Rattle.lq_logic_points.specs.Evaluation.{CanEvaluate, CanEvaluateEach, HasAllValues, HasEachValue, IsStepIn, IsStepInAny}
use Rattle.lq_logic_points.proofs.Size.{size, size_each, item_smaller}
use Rattle.lq_logic_points.proofs.Items.{each_item, some_item, item_of_each, view_items}
use Rattle.lq_logic_points.proofs.evaluating.+evaluate_rows.Goals as goal

pub evaluate_each_row-evaluate_rows-requires : goal.evaluate_each_row-evaluate_rows-requires
evaluate_each_row-evaluate_rows-requires t c =
    let items = nnf_items c.args.nnfs.now in let i = c.loop-nnf.nnf-index in let n = c.nnf-item.result in
    let is : n ≡ get_or items i n = c.nnf-item.is ∙ ap (λ l. get_or l i n) c.as_slice-nnf-items.ensures in
    let inside : i < length items = subst (λ l. i < length l) c.as_slice-nnf-items.ensures c.loop-nnf-test.true in
    let values : HasEachValue c.args.numbers.now (readings_of (map nnf_view items)) = subst (HasEachValue c.args.numbers.now) (view_items c.args.nnfs.now) c.requires in
    let smaller : size (nnf_view n) < size_each (nnfs_view c.args.nnfs.now) =
    subst (λ m. size (nnf_view m) < size_each (nnfs_view c.args.nnfs.now)) (sym is) (subst (λ r. size (nnf_view (get_or items i n)) < size_each r) (sym (view_items c.args.nnfs.now)) (item_smaller items i n inside)) in
    let at : size_each (nnfs_view c.args.nnfs.now) ≡ t = c.decreases in (
      subst (λ x. size (nnf_view n) < x) at smaller,
      subst (λ m. HasAllValues c.args.numbers.now (nnf_view m)) (sym is)
          (item_of_each (HasAllValues c.args.numbers.now) (HasEachValue c.args.numbers.now) (λ r rs h. h.0) (λ r rs h. h.1) items i n inside values),
    )

pub evaluate_each_row-returns-in_err-evaluate_rows-clause-step : goal.evaluate_each_row-returns-in_err-evaluate_rows-clause-step
evaluate_each_row-returns-in_err-evaluate_rows-clause-step t c =
    let items = nnf_items c.args.nnfs.now in let i = c.loop-nnf.nnf-index in let n = c.nnf-item.result in
    let v = valuation_of c.args.numbers.now in let e = c.in_err-evaluate_rows.field-0.0 in
    let is : n ≡ get_or items i n = c.nnf-item.is ∙ ap (λ l. get_or l i n) c.as_slice-nnf-items.ensures in
    let inside : i < length items = subst (λ l. i < length l) c.as_slice-nnf-items.ensures c.loop-nnf-test.true in
    let step : IsStepIn v (nnf_view n) e = c.in_err-evaluate_rows.ensures.step in
    let any : IsStepInAny v (nnfs_view c.args.nnfs.now) e =
    subst (λ r. IsStepInAny v r e) (sym (view_items c.args.nnfs.now))
    (some_item (λ r. IsStepIn v r e) (λ rs. IsStepInAny v rs e) (λ r rs h. inl h) (λ r rs h. inr h) items i n inside (subst (λ m. IsStepIn v (nnf_view m) e) is step)) in
    let was : c.from_residual.result ≡ Err e = search rules in
    subst (λ r. IfErr r (λ x. IsStepInAny v (nnfs_view c.args.nnfs.now) x)) (sym was) any

pub evaluate_each_row-returns-clause-ok : goal.evaluate_each_row-returns-clause-ok
evaluate_each_row-returns-clause-ok t c =
    let items = nnf_items c.args.nnfs.now in let i = c.loop-nnf.nnf-index in
    let past_end : length items ≤ i = subst (λ l. length l ≤ i) c.as_slice-nnf-items.ensures c.loop-nnf-test.false in
    subst (CanEvaluateEach c.args.numbers.now) (sym (view_items c.args.nnfs.now))
    (each_item (CanEvaluate c.args.numbers.now) (CanEvaluateEach c.args.numbers.now) tt (λ r rs h k. (h, k)) items
    (λ k w d. subst (λ l. CanEvaluate c.args.numbers.now (nnf_view (get_or l k d))) c.as_slice-nnf-items.ensures (c.loop-nnf.invariant k (omega (arith, w, past_end)) d)))
