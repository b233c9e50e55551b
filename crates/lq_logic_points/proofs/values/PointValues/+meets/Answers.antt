use Rattle.std.proofs.Common.{◌≡◌, ◌<◌, ◌≤◌, length, get_or, map, refl, inl, inr, sym, ap, subst, ◌∙◌, arith}
use Rattle.lq_logic_rows.specs.Steps.{valuation_of}
use Rattle.lq_logic_predicates.specs.NnfView.{nnf_view, nnfs_view, nnf_items, readings_of}
use Rattle.lq_logic_predicates.specs.RowMeaning.{MeetsRows, MeetsAllRows, MeetsAnyRow}
use Rattle.lq_logic_points.specs.Evaluation.{CanEvaluate, CanEvaluateEach}
use Rattle.lq_logic_points.specs.Values.{numbers_of, point_of_values}
use Rattle.lq_logic_points.proofs.Size.{size, size_each, item_smaller}
use Rattle.lq_logic_points.proofs.Items.{each_item, some_item, item_of_each, view_items}
use Rattle.lq_logic_points.proofs.values.PointValues.+meets.Goals as goal

pub meets_all-meets-requires : goal.meets_all-meets-requires
meets_all-meets-requires t c =
    let numbers = numbers_of c.args.self.now in
    let items = nnf_items c.args.all.now in let i = c.loop-nnf.nnf-index in let n = c.nnf-item.result in
    let is : n ≡ get_or items i n = c.nnf-item.is ∙ ap (λ l. get_or l i n) c.as_slice-nnf-items.ensures in
    let inside : i < length items = subst (λ l. i < length l) c.as_slice-nnf-items.ensures c.loop-nnf-test.true in
    let values : CanEvaluateEach numbers (readings_of (map nnf_view items)) = subst (CanEvaluateEach numbers) (view_items c.args.all.now) c.requires in
    let smaller : size (nnf_view n) < size_each (nnfs_view c.args.all.now) =
    subst (λ m. size (nnf_view m) < size_each (nnfs_view c.args.all.now)) (sym is) (subst (λ r. size (nnf_view (get_or items i n)) < size_each r) (sym (view_items c.args.all.now)) (item_smaller items i n inside)) in
    let at : size_each (nnfs_view c.args.all.now) ≡ t = c.decreases in (
      subst (λ x. size (nnf_view n) < x) at smaller,
      subst (λ m. CanEvaluate numbers (nnf_view m)) (sym is)
          (item_of_each (CanEvaluate numbers) (CanEvaluateEach numbers) (λ r rs h. h.0) (λ r rs h. h.1) items i n inside values),
    )

pub meets_any-meets-requires : goal.meets_any-meets-requires
meets_any-meets-requires t c =
    let numbers = numbers_of c.args.self.now in
    let items = nnf_items c.args.any.now in let i = c.loop-nnf.nnf-index in let n = c.nnf-item.result in
    let is : n ≡ get_or items i n = c.nnf-item.is ∙ ap (λ l. get_or l i n) c.as_slice-nnf-items.ensures in
    let inside : i < length items = subst (λ l. i < length l) c.as_slice-nnf-items.ensures c.loop-nnf-test.true in
    let values : CanEvaluateEach numbers (readings_of (map nnf_view items)) = subst (CanEvaluateEach numbers) (view_items c.args.any.now) c.requires in
    let smaller : size (nnf_view n) < size_each (nnfs_view c.args.any.now) =
    subst (λ m. size (nnf_view m) < size_each (nnfs_view c.args.any.now)) (sym is) (subst (λ r. size (nnf_view (get_or items i n)) < size_each r) (sym (view_items c.args.any.now)) (item_smaller items i n inside)) in
    let at : size_each (nnfs_view c.args.any.now) ≡ t = c.decreases in (
      subst (λ x. size (nnf_view n) < x) at smaller,
      subst (λ m. CanEvaluate numbers (nnf_view m)) (sym is)
          (item_of_each (CanEvaluate numbers) (CanEvaluateEach numbers) (λ r rs h. h.0) (λ r rs h. h.1) items i n inside values),
    )

pub meets_all-returns-then-not-meets : goal.meets_all-returns-then-not-meets
meets_all-returns-then-not-meets t c =
    let v = valuation_of (numbers_of c.args.self.now) in let p = point_of_values c.args.self.now in
    let items = nnf_items c.args.all.now in let i = c.loop-nnf.nnf-index in let n = c.nnf-item.result in
    let is : n ≡ get_or items i n = c.nnf-item.is ∙ ap (λ l. get_or l i n) c.as_slice-nnf-items.ensures in
    let inside : i < length items = subst (λ l. i < length l) c.as_slice-nnf-items.ensures c.loop-nnf-test.true in (
      λ e. cc,
      λ m. sym c.if-not-meets.true ∙ c.meets.ensures.1 (subst (λ x. MeetsRows v p (nnf_view x)) (sym is)
          (item_of_each (MeetsRows v p) (MeetsAllRows v p) (λ r rs h. h.0) (λ r rs h. h.1) items i n inside (subst (MeetsAllRows v p) (view_items c.args.all.now) m))),
    )

pub meets_any-returns-then-meets : goal.meets_any-returns-then-meets
meets_any-returns-then-meets t c =
    let v = valuation_of (numbers_of c.args.self.now) in let p = point_of_values c.args.self.now in
    let items = nnf_items c.args.any.now in let i = c.loop-nnf.nnf-index in let n = c.nnf-item.result in
    let is : n ≡ get_or items i n = c.nnf-item.is ∙ ap (λ l. get_or l i n) c.as_slice-nnf-items.ensures in
    let inside : i < length items = subst (λ l. i < length l) c.as_slice-nnf-items.ensures c.loop-nnf-test.true in
    let here : MeetsRows v p (nnf_view (get_or items i n)) = subst (λ x. MeetsRows v p (nnf_view x)) is (c.meets.ensures.0 c.if-meets.true) in
    (λ e. subst (MeetsAnyRow v p) (sym (view_items c.args.any.now)) (some_item (MeetsRows v p) (MeetsAnyRow v p) (λ r rs h. inl h) (λ r rs h. inr h) items i n inside here), λ m. refl)

pub meets_all-returns : goal.meets_all-returns
meets_all-returns t c =
    let v = valuation_of (numbers_of c.args.self.now) in let p = point_of_values c.args.self.now in
    let items = nnf_items c.args.all.now in let i = c.loop-nnf.nnf-index in
    let past_end : length items ≤ i = subst (λ l. length l ≤ i) c.as_slice-nnf-items.ensures c.loop-nnf-test.false in (
      λ _. subst (MeetsAllRows v p) (sym (view_items c.args.all.now))
          (each_item (MeetsRows v p) (MeetsAllRows v p) tt (λ r rs h k. (h, k)) items
          (λ k w d. subst (λ l. MeetsRows v p (nnf_view (get_or l k d))) c.as_slice-nnf-items.ensures (c.loop-nnf.invariant k (omega (arith, w, past_end)) d))),
      λ _. refl,
    )

pub meets_any-returns : goal.meets_any-returns
meets_any-returns t c =
    let v = valuation_of (numbers_of c.args.self.now) in let p = point_of_values c.args.self.now in
    let items = nnf_items c.args.any.now in let i = c.loop-nnf.nnf-index in
    let past_end : length items ≤ i = subst (λ l. length l ≤ i) c.as_slice-nnf-items.ensures c.loop-nnf-test.false in
    let no : MeetsAnyRow v p (nnfs_view c.args.any.now) → ⊥ =
    subst (λ r. MeetsAnyRow v p r → ⊥) (sym (view_items c.args.any.now))
    (each_item (λ r. MeetsRows v p r → ⊥) (λ rs. MeetsAnyRow v p rs → ⊥) (λ h. h) (λ r rs h k m. elim m [ inl a ↦ h a | inr b ↦ k b ]) items
    (λ k w d. subst (λ l. MeetsRows v p (nnf_view (get_or l k d)) → ⊥) c.as_slice-nnf-items.ensures (c.loop-nnf.invariant k (omega (arith, w, past_end)) d))) in
    (λ e. cc, λ m. absurd (no m))
