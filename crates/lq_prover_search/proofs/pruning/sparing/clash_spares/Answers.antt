use Rattle.std.proofs.Common.{subst, sym}
use Rattle.lq_prover_proof_tree.specs.Trees.TreeView.{clash_of, multiplier_items}
use Rattle.lq_prover_search.specs.Pruning.Moved.{ClashSpares}
use Rattle.lq_prover_search.proofs.PruningLemmas.Items.{outside_views, views_outside}
use Rattle.lq_prover_search.proofs.pruning.sparing.clash_spares.Goals as goal

pub returns-in-Rows : goal.returns-in-Rows
returns-in-Rows c =
    let s = c.args.facts in let ms = multiplier_items c.in-Rows.multipliers in (
      λ e. subst (λ x. ClashSpares s (clash_of x)) (sym c.in-Rows.is) (views_outside s ms (c.rows_spare.ensures.0 e)),
      λ o. c.rows_spare.ensures.1 (outside_views s ms (subst (λ x. ClashSpares s (clash_of x)) c.in-Rows.is o)),
    )
