use Rattle.std.proofs.Common.{◌≡◌, ◌-◌, ◌≤◌, take, length, vec_capacity}
use Rattle.lq_prover_differences.proofs.graph.add_links.Given as goal

abbrev pub invariant-loop-links : goal.invariant-loop-links
invariant-loop-links l = record {
  front : take (length l.fn.links.items) l.links.items ≡ l.fn.links.items;
  grown : length l.fn.links.items ≤ length l.links.items;
  capacity : vec_capacity l.links ≡ vec_capacity l.fn.links;
  within : length l.links.items ≤ l.count;
}

abbrev pub decreases-loop-links : goal.decreases-loop-links
decreases-loop-links l = l.count - length l.links.items
