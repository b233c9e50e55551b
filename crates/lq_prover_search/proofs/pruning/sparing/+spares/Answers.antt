use Rattle.std.proofs.Common.{◌≡◌, ◌<◌, ◌≤◌, length, get_or, refl, sym, ap, subst, ◌∙◌, arith}
use Rattle.lq_prover_proof_tree.specs.Trees.TreeView.{tree_view, trees_view, tree_items}
use Rattle.lq_prover_search.specs.Pruning.Moved.{Spares, EachSpares}
use Rattle.lq_prover_search.proofs.PruningLemmas.Items.{size, size_each, item_smaller, each_item, item_of_each, view_items}
use Rattle.lq_prover_search.proofs.pruning.sparing.+spares.Goals as goal

pub all_spare-spares-requires : goal.all_spare-spares-requires
all_spare-spares-requires t c =
    let items = tree_items c.args.trees.now in let i = c.loop-tree.tree-index in let n = c.tree-item.result in
    let is : n ≡ get_or items i n = c.tree-item.is ∙ ap (λ l. get_or l i n) c.as_slice-tree-items.ensures in
    let inside : i < length items = subst (λ l. i < length l) c.as_slice-tree-items.ensures c.loop-tree-test.true in
    let smaller : size (tree_view n) < size_each (trees_view c.args.trees.now) =
    subst (λ m. size (tree_view m) < size_each (trees_view c.args.trees.now)) (sym is) (subst (λ r. size (tree_view (get_or items i n)) < size_each r) (sym (view_items c.args.trees.now)) (item_smaller items i n inside)) in
    let at : size_each (trees_view c.args.trees.now) ≡ t = c.decreases in
    (subst (λ x. size (tree_view n) < x) at smaller, tt)

pub all_spare-returns-then-not-spares : goal.all_spare-returns-then-not-spares
all_spare-returns-then-not-spares t c =
    let f = c.args.facts in let h = c.args.choices in
    let items = tree_items c.args.trees.now in let i = c.loop-tree.tree-index in let n = c.tree-item.result in
    let is : n ≡ get_or items i n = c.tree-item.is ∙ ap (λ l. get_or l i n) c.as_slice-tree-items.ensures in
    let inside : i < length items = subst (λ l. i < length l) c.as_slice-tree-items.ensures c.loop-tree-test.true in (
      λ e. cc,
      λ m. sym c.if-not-spares.true ∙ c.spares.ensures.1 (subst (λ x. Spares f h (tree_view x)) (sym is)
          (item_of_each (Spares f h) (EachSpares f h) (λ r rs k. k.0) (λ r rs k. k.1) items i n inside (subst (EachSpares f h) (view_items c.args.trees.now) m))),
    )

pub all_spare-returns : goal.all_spare-returns
all_spare-returns t c =
    let f = c.args.facts in let h = c.args.choices in
    let items = tree_items c.args.trees.now in let i = c.loop-tree.tree-index in
    let past_end : length items ≤ i = subst (λ l. length l ≤ i) c.as_slice-tree-items.ensures c.loop-tree-test.false in (
      λ _. subst (EachSpares f h) (sym (view_items c.args.trees.now))
          (each_item (Spares f h) (EachSpares f h) tt (λ r rs k l. (k, l)) items
          (λ k w d. subst (λ l. Spares f h (tree_view (get_or l k d))) c.as_slice-tree-items.ensures (c.loop-tree.invariant k (omega (arith, w, past_end)) d))),
      λ _. refl,
    )
