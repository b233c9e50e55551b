use Rattle.std.proofs.Common.{◌≡◌, take}
use Rattle.lq_prover_proof_tree.specs.Trees.Path.{each_taken}
use Rattle.lq_prover_search.proofs.PathLemmas.Readings.{row_of, size, size_each}
use Rattle.lq_logic_predicates.specs.NnfView.{nnf_view, nnfs_view}
use Rattle.lq_prover_search.specs.Search.Parts.{AddsOpen, path_by}
use Rattle.lq_prover_search.proofs.search.parts.+add_parts.Given as goal

abbrev pub decreases-add_parts : goal.decreases-add_parts
decreases-add_parts l = size (nnf_view l.reading.now)

abbrev pub decreases-add_all_parts : goal.decreases-add_all_parts
decreases-add_all_parts l = size_each (nnfs_view l.readings.now)

abbrev pub invariant-add_all_parts-loop-reading : goal.invariant-add_all_parts-loop-reading
invariant-add_all_parts-loop-reading l = record {
  path : path_by l.parts.items l.choices.items ≡ each_taken (path_by l.fn.parts.items l.fn.choices.items) (row_of (take l.reading-index l.reading-items));
  adds : AddsOpen l.fn.choices.items l.choices.items;
}
