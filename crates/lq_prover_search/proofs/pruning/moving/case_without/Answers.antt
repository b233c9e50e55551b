use Rattle.std.proofs.Common.{sym, ap, ◌∙◌}
use Rattle.lq_prover_proof_tree.specs.Trees.Tree.{rows}
use Rattle.lq_prover_proof_tree.specs.Trees.TreeView.{clash_of, multiplier_items, multiplier_views}
use Rattle.lq_prover_search.specs.Pruning.Moved.{moved_clash}
use Rattle.lq_prover_search.proofs.PruningLemmas.Items.{views_moved}
use Rattle.lq_prover_search.proofs.pruning.moving.case_without.Goals as goal

pub returns-in_ok-rows_without-in-Rows : goal.returns-in_ok-rows_without-in-Rows
returns-in_ok-rows_without-in-Rows c =
    let s = c.args.facts in let ms = multiplier_items c.in-Rows.multipliers in
    ap (λ l. rows (multiplier_views l)) c.in_ok-rows_without-in-Rows.ensures ∙ ap rows (views_moved s ms) ∙ ap (λ x. moved_clash s (clash_of x)) (sym c.in-Rows.is)
