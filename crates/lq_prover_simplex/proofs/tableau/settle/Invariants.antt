use Rattle.std.proofs.Common.{◌≡◌}
use Rattle.lq_prover_simplex.specs.Systems.{IsSystem}
use Rattle.lq_prover_simplex.specs.Configurations.{Settles}
use Rattle.lq_prover_simplex.proofs.Keeping.{KeepBelow}
use Rattle.lq_prover_simplex.proofs.tableau.settle.Given as goal

abbrev pub invariant-loop-variable : goal.invariant-loop-variable
invariant-loop-variable l = record {
  system : IsSystem l.basis;
  terms : l.basis.terms ≡ l.fn.basis.terms;
  forms : l.basis.forms ≡ l.fn.basis.forms;
  settles : Settles l.limits l.fn.basis l.basis;
  keeps : KeepBelow l.variable l.limits l.basis;
}
