use Rattle.std.proofs.Common.{◌≡◌, map, take}
use Rattle.lq_prover_proof_tree.specs.Trees.TreeView.{tag_items}
use Rattle.lq_prover_search.specs.Pruning.Span.{moved}
use Rattle.lq_prover_search.proofs.pruning.moving.tags_without.Given as goal

abbrev pub invariant-loop-tag : goal.invariant-loop-tag
invariant-loop-tag l = tag_items l.all ≡ map (moved l.facts) (take l.tag-index l.tag-items)
