use Rattle.std.proofs.Common.{◌≡◌, ◌<◌, ◌≤◌, length, get_or, map, take, sym, ap, subst, ◌∙◌}
use Rattle.std.proofs.lemmas.List.{take_all}
use Rattle.lq_prover_proof_tree.specs.Trees.TreeView.{tree_view, trees_view, tree_items, trees_of}
use Rattle.lq_prover_search.specs.Pruning.Moved.{moved_tree, moved_trees}
use Rattle.lq_prover_search.proofs.PruningLemmas.Items.{size, size_each, item_smaller, trees_moved, view_items}
use Rattle.lq_prover_search.proofs.pruning.moving.+without.Goals as goal

pub all_without-without-requires : goal.all_without-without-requires
all_without-without-requires t c =
    let items = tree_items c.args.trees.now in let i = c.loop-tree.tree-index in let n = c.tree-item.result in
    let is : n ≡ get_or items i n = c.tree-item.is ∙ ap (λ l. get_or l i n) c.as_slice-tree-items.ensures in
    let inside : i < length items = subst (λ l. i < length l) c.as_slice-tree-items.ensures c.loop-tree-test.true in
    let smaller : size (tree_view n) < size_each (trees_view c.args.trees.now) =
    subst (λ m. size (tree_view m) < size_each (trees_view c.args.trees.now)) (sym is) (subst (λ r. size (tree_view (get_or items i n)) < size_each r) (sym (view_items c.args.trees.now)) (item_smaller items i n inside)) in
    let at : size_each (trees_view c.args.trees.now) ≡ t = c.decreases in
    (subst (λ x. size (tree_view n) < x) at smaller, tt)

pub all_without-returns : goal.all_without-returns
all_without-returns t c =
    let f = c.args.facts in let h = c.args.choices in
    let items = tree_items c.args.trees.now in let i = c.loop-tree.tree-index in
    let past_end : length items ≤ i = subst (λ l. length l ≤ i) c.as_slice-tree-items.ensures c.loop-tree-test.false in
    let done = c.loop-tree.invariant in
    view_items _ ∙ ap trees_of (done ∙ ap (λ l. map (λ t. moved_tree f h (tree_view t)) (take i l)) c.as_slice-tree-items.ensures ∙ ap (map (λ t. moved_tree f h (tree_view t))) (take_all i items past_end))
    ∙ trees_moved f h items ∙ ap (moved_trees f h) (sym (view_items c.args.trees.now))
