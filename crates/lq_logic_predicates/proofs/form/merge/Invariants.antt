use Rattle.std.proofs.Common.{◌≡◌, ℕ}
use Rattle.std.specs.BTreeMap.{btree_map_len}
use Rattle.lq_logic_predicates.specs.FormOf.{at, AllFit, combined}
use Rattle.lq_logic_predicates.proofs.form.merge.Given as goal

abbrev pub invariant-loop-term : goal.invariant-loop-term
invariant-loop-term l = record {
  fit : AllFit l.into;
  so_far : (q : ℕ) → combined l.fn.subtract (at l.into q) (at l.other q) ≡ combined l.fn.subtract (at l.fn.into q) (at l.fn.other q);
}

abbrev pub decreases-loop-term : goal.decreases-loop-term
decreases-loop-term l = btree_map_len l.other
