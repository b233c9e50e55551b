use Rattle.std.proofs.Common.{◌+◌, ◌*◌, take}
use Rattle.lq_prover_proof_tree.specs.Trees.Proves.{ProvesEach}
use Rattle.lq_prover_proof_tree.specs.Trees.TreeView.{trees_view}
use Rattle.lq_prover_case.specs.Equations.Equating.{numbering_by}
use Rattle.lq_prover_search.proofs.PathLemmas.Readings.{row_of}
use Rattle.lq_logic_predicates.specs.NnfView.{nnf_view, nnfs_view}
use Rattle.lq_logic_predicates.specs.Reading.{any_of}
use Rattle.lq_prover_search.specs.Search.SearchPath.{IsBack, path_of, scope_of}
use Rattle.lq_prover_search.specs.Search.Stopping.{HandsFrom}
use Rattle.lq_prover_search.proofs.SearchLemmas.Weights.{left, weight, weights}
use Rattle.lq_prover_search.proofs.search.searching.+search.Given as goal

abbrev pub decreases-search : goal.decreases-search
decreases-search l = 8 * left l.path.now + 4

abbrev pub decreases-search_on : goal.decreases-search_on
decreases-search_on l = 8 * left l.path.now + 3

abbrev pub decreases-split_probed : goal.decreases-split_probed
decreases-split_probed l = 8 * left l.path.now + 2

abbrev pub decreases-split_choice : goal.decreases-split_choice
decreases-split_choice l = 8 * left l.path.now + 1

abbrev pub decreases-split_pair : goal.decreases-split_pair
decreases-split_pair l = 8 * left l.path.now + 1

abbrev pub decreases-refute_each : goal.decreases-refute_each
decreases-refute_each l = 8 * (left l.path.now + weights (nnfs_view l.members.now)) + 7

abbrev pub decreases-refute_with : goal.decreases-refute_with
decreases-refute_with l = 8 * (left l.path.now + weight (nnf_view l.member.now)) + 6

abbrev pub decreases-search_with : goal.decreases-search_with
decreases-search_with l = 8 * (left l.path.now + weight (nnf_view l.reading.now)) + 5

abbrev pub invariant-refute_each-loop-member : goal.invariant-refute_each-loop-member
invariant-refute_each-loop-member l = record {
  back : IsBack l.fn.path l.path;
  handed : HandsFrom (any_of (nnfs_view l.members)) (scope_of l.givens) l.givens.pairs.now l.fn.path l.path;
  proves : ProvesEach (numbering_by (scope_of l.givens).terms) (path_of (scope_of l.givens) l.fn.path) (row_of (take l.member-index l.member-items)) (trees_view l.trees);
}
