use Rattle.std.proofs.Common.{◌≡◌, ◌-◌, ◌≤◌, length, vec_capacity, false}
use Rattle.lq_prover_differences.specs.Graphs.{SameRoom, admitted}
use Rattle.lq_prover_differences.specs.Table.{IsStanding}
use Rattle.lq_prover_differences.proofs.table.catch_up.Given as goal

abbrev pub invariant-loop-at : goal.invariant-loop-at
invariant-loop-at l = record {
  standing : IsStanding l.edges l.graph false l.found.items;
  no_conflict : l.conflict ≡ false;
  more : admitted l.fn.graph ≤ admitted l.graph;
  vertices : length l.graph.vertices.items ≡ length l.fn.graph.vertices.items;
  room : SameRoom l.fn.graph l.graph;
  capacity : vec_capacity l.found ≡ vec_capacity l.fn.found;
}

abbrev pub decreases-loop-at : goal.decreases-loop-at
decreases-loop-at l = length l.edges - admitted l.graph
