use Rattle.std.proofs.Common.{◌≡◌, ◌≤◌, ◌-◌}
use Rattle.lq_prover_simplex.specs.Systems.{IsSystem}
use Rattle.lq_prover_simplex.specs.Configurations.{FreeKeep, Settles}
use Rattle.lq_prover_simplex.proofs.Chaining.{Turns}
use Rattle.lq_prover_simplex.proofs.tableau.pivots.Given as goal

abbrev pub invariant-loop-broken : goal.invariant-loop-broken
invariant-loop-broken l = record {
  system : IsSystem l.basis;
  within : l.left ≤ l.limit;
  turns : Turns l.fn.basis l.rows (l.limit - l.left) l.basis;
  terms : l.basis.terms ≡ l.fn.basis.terms;
  forms : l.basis.forms ≡ l.fn.basis.forms;
  settles : Settles l.limits l.fn.basis l.basis;
  keeps : FreeKeep l.limits l.basis;
}

abbrev pub decreases-loop-broken : goal.decreases-loop-broken
decreases-loop-broken l = l.left
