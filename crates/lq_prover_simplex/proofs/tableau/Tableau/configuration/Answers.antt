use Rattle.std.proofs.Common.{refl, subst, List}
use Rattle.lq_logic_rows.specs.Row.{Row}
use Rattle.lq_prover_simplex.specs.Systems.{IsSystem}
use Rattle.lq_prover_simplex.specs.Configurations.{IsConfiguration}
use Rattle.lq_prover_simplex.specs.Table.{Table}
use Rattle.lq_prover_simplex.proofs.Resting.{configured}
use Rattle.lq_prover_simplex.specs.Table.{Handed, table_point}
use Rattle.lq_prover_simplex.specs.Working.{IsPlaced}
use Rattle.lq_prover_simplex.proofs.Bounding.{variables_of}
use Rattle.lq_prover_simplex.proofs.Configuring.{configuration_of, is_configuration}
use Rattle.lq_prover_simplex.proofs.Naming.{are_variables}
use Rattle.lq_prover_simplex.proofs.tableau.Tableau.configuration.Goals as goal

pub returns-clause-configured : goal.returns-clause-configured
returns-clause-configured c = subst (λ (t : Table). IsConfiguration t.system) c.self.view_is (configured c.self.inside.basis c.values.ensures.system)

placed : (t : Table) (ever : List Row) → IsSystem t.system → Handed t ever → IsPlaced t.system.terms ever (table_point t)
placed t ever i h = record {
  variables = variables_of t.system;
  over = refl;
  listed = are_variables ever t.system.terms t.system.forms i.are_forms h.forms;
  configuration = configuration_of t.system;
  is = is_configuration ever t.system i h.rests;
  values = λ k. refl;
}

pub returns-clause-placed : goal.returns-clause-placed
returns-clause-placed c = λ ever h.
    placed c.args.self.now ever (subst (λ (t : Table). IsSystem t.system) c.self.view_is c.values.ensures.system) h
