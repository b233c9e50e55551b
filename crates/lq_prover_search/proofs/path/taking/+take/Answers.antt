use Rattle.std.proofs.Common.{◌≡◌, ◌<◌, ◌≤◌, length, map, take, get_or, IfSome, IfNone, refl, sym, ap, subst, ◌∙◌}
use Rattle.std.proofs.lemmas.List.{take_all}
use Rattle.lq_prover_case.specs.State.PathState.{facts_in}
use Rattle.lq_prover_case.specs.State.RowState.{terms_of}
use Rattle.lq_prover_proof_tree.specs.Trees.Path.{each_taken, taken, with_fact}
use Rattle.lq_prover_proof_tree.specs.Trees.Proves.{Clashes}
use Rattle.lq_prover_proof_tree.specs.Trees.TreeView.{clash_of, tree_view}
use Rattle.lq_logic_predicates.specs.NnfView.{nnf_view, nnfs_view, nnf_items}
use Rattle.lq_logic_predicates.specs.TermView.{sum_of}
use Rattle.lq_prover_search.specs.Path.Literals.{fact_of}
use Rattle.lq_prover_search.specs.Path.Readings.{AreOver, IsOver}
use Rattle.lq_prover_search.specs.Path.SearchPath.{Begins, IsLeafOf, name_in, path_by}
use Rattle.lq_prover_search.proofs.PathLemmas.Leaves.{begins_itself, begins_then}
use Rattle.lq_prover_search.proofs.PathLemmas.Readings.{item_over, item_smaller, leaf_of_first, one_more, row_of, size, size_each, view_items}
use Rattle.lq_prover_search.proofs.PathLemmas.Seen.{flag_seen, literal_leaf, row_seen, same_seen}
use Rattle.lq_prover_search.proofs.path.taking.+take.Goals as goal
use Rattle.lq_prover_search.proofs.path.taking.+take.Goals.{take-in-Row, take-in-Flag, take-in-Same}

pub take-returns-in-Yes-clause-begins : goal.take-returns-in-Yes-clause-begins
take-returns-in-Yes-clause-begins t c = begins_itself _

pub take-returns-in-No-clause-begins : goal.take-returns-in-No-clause-begins
take-returns-in-No-clause-begins t c = begins_itself _

pub take-returns-in-Any-clause-begins : goal.take-returns-in-Any-clause-begins
take-returns-in-Any-clause-begins t c = c.add_choice.ensures.begins (facts_in (name_in (map sum_of c.args.objects.now.keys)) c.args.state.now)

pub take-returns-in_err-clash-clause-begins : goal.take-returns-in_err-clash-clause-begins
take-returns-in_err-clash-clause-begins t c =
    let p = path_by (map sum_of c.args.objects.now.keys) c.args.state.now c.args.choices.now.items in
    subst (λ l. Begins p (record { facts = l; choices = p.choices })) (sym c.in_err-clash.ensures.refused) (begins_itself p)

pub take-returns-in-Some-clause-leaf : goal.take-returns-in-Some-clause-leaf
take-returns-in-Some-clause-leaf t c =
    let objects = map sum_of c.args.objects.now.keys in
    let p = path_by objects c.args.state.now c.args.choices.now.items in
    let r = nnf_view c.args.reading.now in
    let clash = subst (λ o. IfSome o (λ x. Clashes (facts_in (name_in objects) c.take_literal.new.state) (clash_of x))) c.in-Some.is c.in_ok-clash.ensures.clash in
    let leaf = literal_leaf p (facts_in (name_in objects) c.take_literal.new.state) (fact_of c.match-reading.literal) r c.in-Some.clash c.in_ok-clash.ensures.stands in
    elim c.match-reading.branch [
      | take-in-Row w ↦ leaf (ap (λ x. taken p (nnf_view x)) w.in-Row.is ∙ ap (taken p) (row_seen _) ∙ ap (λ l. with_fact p (fact_of l)) (sym w.literal-is)) clash
      | take-in-Flag w ↦ leaf (ap (λ x. taken p (nnf_view x)) w.in-Flag.is ∙ ap (taken p) (flag_seen _ _) ∙ ap (λ l. with_fact p (fact_of l)) (sym w.literal-is)) clash
      | take-in-Same w ↦ leaf (ap (λ x. taken p (nnf_view x)) w.in-Same.is ∙ ap (taken p) (same_seen _ _ _) ∙ ap (λ l. with_fact p (fact_of l)) (sym w.literal-is)) clash
    ]

pub take_all-loop-reading-init : goal.take_all-loop-reading-init
take_all-loop-reading-init t c = record { path = refl; begins = begins_itself _; limits = (refl, refl, refl); handed = λ ever h. h }

pub take_all-take-requires : goal.take_all-take-requires
take_all-take-requires t c =
    let objects = map sum_of c.args.objects.now.keys in
    let items = nnf_items c.args.readings.now in let i = c.loop-reading.reading-index in let n = c.reading-item.result in
    let is : n ≡ get_or items i n = c.reading-item.is ∙ ap (λ l. get_or l i n) c.as_slice-reading-items.ensures in
    let inside : i < length items = subst (λ l. i < length l) c.as_slice-reading-items.ensures c.loop-reading-test.true in
    let smaller : size (nnf_view n) < size_each (nnfs_view c.args.readings.now) =
    subst (λ m. size (nnf_view m) < size_each (nnfs_view c.args.readings.now)) (sym is) (subst (λ r. size (nnf_view (get_or items i n)) < size_each r) (sym (view_items c.args.readings.now)) (item_smaller items i n inside)) in
    let at : size_each (nnfs_view c.args.readings.now) ≡ t = c.decreases in
    let limits = c.loop-reading.invariant.limits in (
      subst (λ x. size (nnf_view n) < x) at smaller,
      (
        subst (λ m. IsOver m objects (nnf_view n)) (sym limits.0) (subst (λ m. IsOver (terms_of c.args.state.now.rows) objects (nnf_view m)) (sym is)
            (item_over (terms_of c.args.state.now.rows) objects items i n inside (subst (AreOver (terms_of c.args.state.now.rows) objects) (view_items c.args.readings.now) c.requires.over))),
        limits.2 ∙ c.requires.count,
      ),
    )

pub take_all-returns-in-Some-clause-leaf : goal.take_all-returns-in-Some-clause-leaf
take_all-returns-in-Some-clause-leaf t c =
    let p = path_by (map sum_of c.args.objects.now.keys) c.args.state.now c.args.choices.now.items in
    let items = nnf_items c.args.readings.now in let i = c.loop-reading.reading-index in let n = c.reading-item.result in
    let is : n ≡ get_or items i n = c.reading-item.is ∙ ap (λ l. get_or l i n) c.as_slice-reading-items.ensures in
    let inside : i < length items = subst (λ l. i < length l) c.as_slice-reading-items.ensures c.loop-reading-test.true in
    let now = c.loop-reading.invariant.path ∙ ap (λ l. each_taken p (row_of (take i l))) c.as_slice-reading-items.ensures in
    subst (λ r. IsLeafOf (each_taken p r) (tree_view c.in-Some.leaf)) (sym (view_items c.args.readings.now))
    (leaf_of_first c.clashes_stay.ensures p items i n (tree_view c.in-Some.leaf) inside is
    (subst (λ q. IsLeafOf (taken q (nnf_view n)) (tree_view c.in-Some.leaf)) now (subst (λ o. IfSome o (λ x. IsLeafOf (taken (path_by (map sum_of c.args.objects.now.keys) c.loop-reading.state c.loop-reading.choices.items) (nnf_view n)) (tree_view x))) c.in-Some.is c.in_ok-leaf.ensures.leaf)))

pub take_all-loop-reading-preserved : goal.take_all-loop-reading-preserved
take_all-loop-reading-preserved t c =
    let objects = map sum_of c.args.objects.now.keys in
    let p = path_by objects c.args.state.now c.args.choices.now.items in
    let items = c.as_slice-reading-items.result.now in let i = c.loop-reading.reading-index in let n = c.reading-item.result in
    let old = path_by objects c.loop-reading.state c.loop-reading.choices.items in
    let new = path_by objects c.take.new.state c.take.new.choices.items in
    let before = c.loop-reading.invariant in
    let stands = subst (λ o. IfNone o (new ≡ taken old (nnf_view n))) c.in_default.is c.in_ok-leaf.ensures.stands in
    let l = c.in_ok-leaf.ensures.limits in let k = before.limits in
    record {
      path = stands ∙ ap (λ q. taken q (nnf_view n)) before.path ∙ sym (one_more p items i n c.loop-reading-test.true c.reading-item.is);
      begins = begins_then p old new before.begins c.in_ok-leaf.ensures.begins;
      limits = (l.0 ∙ k.0, l.1 ∙ k.1, l.2 ∙ k.2);
      handed = λ ever h. c.in_ok-leaf.ensures.handed ever (before.handed ever h);
    }

pub take_all-returns-clause-stands : goal.take_all-returns-clause-stands
take_all-returns-clause-stands t c =
    let p = path_by (map sum_of c.args.objects.now.keys) c.args.state.now c.args.choices.now.items in
    let items = nnf_items c.args.readings.now in let i = c.loop-reading.reading-index in
    let past_end : length items ≤ i = subst (λ l. length l ≤ i) c.as_slice-reading-items.ensures c.loop-reading-test.false in
    c.loop-reading.invariant.path ∙ ap (λ l. each_taken p (row_of (take i l))) c.as_slice-reading-items.ensures ∙ ap (λ l. each_taken p (row_of l)) (take_all i items past_end)
    ∙ ap (each_taken p) (sym (view_items c.args.readings.now))

pub take_all-returns-in_err-leaf-clause-handed : goal.take_all-returns-in_err-leaf-clause-handed
take_all-returns-in_err-leaf-clause-handed t c = λ ever h. c.in_err-leaf.ensures.handed ever (c.loop-reading.invariant.handed ever h)

pub take_all-returns-in-Some-clause-handed : goal.take_all-returns-in-Some-clause-handed
take_all-returns-in-Some-clause-handed t c = λ ever h. c.in_ok-leaf.ensures.handed ever (c.loop-reading.invariant.handed ever h)
