use Rattle.std.proofs.Common.{◌≡◌, map, take}
use Rattle.lq_prover_proof_tree.specs.Trees.TreeView.{multiplier_items}
use Rattle.lq_prover_search.specs.Pruning.Span.{moved}
use Rattle.lq_prover_search.proofs.pruning.moving.rows_without.Given as goal

abbrev pub invariant-loop-multiplier : goal.invariant-loop-multiplier
invariant-loop-multiplier l = multiplier_items l.all ≡ map (λ m. (moved l.facts m.0, m.1)) (take l.multiplier-index l.multiplier-items)
