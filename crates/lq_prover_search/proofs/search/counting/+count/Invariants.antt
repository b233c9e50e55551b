use Rattle.std.proofs.Common.{◌≡◌, take}
use Rattle.lq_logic_predicates.specs.NnfView.{nnf_view, nnfs_view}
use Rattle.lq_prover_search.proofs.SearchLemmas.Added.{choices_in_all, facts_in_all, row_of, size, size_each}
use Rattle.lq_prover_search.proofs.search.counting.+count.Given as goal

abbrev pub decreases-count_added : goal.decreases-count_added
decreases-count_added l = size (nnf_view l.reading.now)

abbrev pub decreases-count_all : goal.decreases-count_all
decreases-count_all l = size_each (nnfs_view l.readings.now)

abbrev pub invariant-count_all-loop-reading : goal.invariant-count_all-loop-reading
invariant-count_all-loop-reading l =
    (l.sum.facts ≡ facts_in_all (row_of (take l.reading-index l.reading-items))) × (l.sum.choices ≡ choices_in_all (row_of (take l.reading-index l.reading-items)))
