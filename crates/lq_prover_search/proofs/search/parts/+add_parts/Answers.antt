use Rattle.std.proofs.Common.{◌≡◌, ◌<◌, ◌≤◌, ◌∙◌, length, take, get_or, sym, ap, subst}
use Rattle.std.proofs.lemmas.List.{take_all}
use Rattle.lq_prover_proof_tree.specs.Trees.Path.{each_taken, taken}
use Rattle.lq_prover_search.proofs.PathLemmas.Readings.{item_smaller, one_more, row_of, size, size_each, view_items}
use Rattle.lq_logic_predicates.specs.NnfView.{nnf_items, nnf_view, nnfs_view}
use Rattle.lq_prover_search.specs.Search.Parts.{path_by}
use Rattle.lq_prover_search.proofs.SearchLemmas.Taken.{adds_then}
use Rattle.lq_prover_search.proofs.search.parts.+add_parts.Goals as goal

pub add_all_parts-add_parts-requires : goal.add_all_parts-add_parts-requires
add_all_parts-add_parts-requires t c =
    let items = nnf_items c.args.readings.now in let i = c.loop-reading.reading-index in let n = c.reading-item.result in
    let is : n ≡ get_or items i n = c.reading-item.is ∙ ap (λ l. get_or l i n) c.as_slice-reading-items.ensures in
    let inside : i < length items = subst (λ l. i < length l) c.as_slice-reading-items.ensures c.loop-reading-test.true in
    let smaller : size (nnf_view n) < size_each (nnfs_view c.args.readings.now) =
    subst (λ m. size (nnf_view m) < size_each (nnfs_view c.args.readings.now)) (sym is) (subst (λ r. size (nnf_view (get_or items i n)) < size_each r) (sym (view_items c.args.readings.now)) (item_smaller items i n inside)) in
    let at : size_each (nnfs_view c.args.readings.now) ≡ t = c.decreases in
    (subst (λ x. size (nnf_view n) < x) at smaller, tt)

pub add_all_parts-loop-reading-preserved : goal.add_all_parts-loop-reading-preserved
add_all_parts-loop-reading-preserved t c =
    let p = path_by c.args.parts.now.items c.args.choices.now.items in
    let items = c.as_slice-reading-items.result.now in let i = c.loop-reading.reading-index in let n = c.reading-item.result in
    let before = c.loop-reading.invariant in
    record {
      path = c.in_ok-add_parts.ensures.taken ∙ ap (λ q. taken q (nnf_view n)) before.path ∙ sym (one_more p items i n c.loop-reading-test.true c.reading-item.is);
      adds = adds_then c.args.choices.now.items c.loop-reading.choices.items c.add_parts.new.choices.items before.adds c.in_ok-add_parts.ensures.adds;
    }

pub add_all_parts-returns-clause-taken : goal.add_all_parts-returns-clause-taken
add_all_parts-returns-clause-taken t c =
    let p = path_by c.args.parts.now.items c.args.choices.now.items in
    let items = nnf_items c.args.readings.now in let i = c.loop-reading.reading-index in
    let past_end : length items ≤ i = subst (λ l. length l ≤ i) c.as_slice-reading-items.ensures c.loop-reading-test.false in
    c.loop-reading.invariant.path ∙ ap (λ l. each_taken p (row_of (take i l))) c.as_slice-reading-items.ensures ∙ ap (λ l. each_taken p (row_of l)) (take_all i items past_end)
    ∙ ap (each_taken p) (sym (view_items c.args.readings.now))
