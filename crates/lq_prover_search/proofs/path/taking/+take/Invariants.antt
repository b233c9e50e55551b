use Rattle.std.proofs.Common.{◌≡◌, map, take}
use Rattle.lq_prover_case.specs.State.PathState.{KeepsHanded}
use Rattle.lq_prover_proof_tree.specs.Trees.Path.{each_taken}
use Rattle.lq_logic_predicates.specs.NnfView.{nnf_view, nnfs_view}
use Rattle.lq_logic_predicates.specs.TermView.{sum_of}
use Rattle.lq_prover_search.specs.Path.SearchPath.{Begins, SameLimits, path_by}
use Rattle.lq_prover_search.proofs.PathLemmas.Readings.{row_of, size, size_each}
use Rattle.lq_prover_search.proofs.path.taking.+take.Given as goal

abbrev pub decreases-take : goal.decreases-take
decreases-take l = size (nnf_view l.reading.now)

abbrev pub decreases-take_all : goal.decreases-take_all
decreases-take_all l = size_each (nnfs_view l.readings.now)

abbrev pub invariant-take_all-loop-reading : goal.invariant-take_all-loop-reading
invariant-take_all-loop-reading l = record {
  path : path_by (map sum_of l.objects.keys) l.state l.choices.items
      ≡ each_taken (path_by (map sum_of l.objects.keys) l.fn.state l.fn.choices.items) (row_of (take l.reading-index l.reading-items));
  begins : Begins (path_by (map sum_of l.objects.keys) l.fn.state l.fn.choices.items) (path_by (map sum_of l.objects.keys) l.state l.choices.items);
  limits : SameLimits l.state l.fn.state;
  handed : KeepsHanded l.fn.state l.state;
}
