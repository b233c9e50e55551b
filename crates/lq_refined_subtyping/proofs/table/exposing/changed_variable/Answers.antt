use Rattle.lq_refined_subtyping.proofs.TableLemmas.Changing.{changed-outside}
use Rattle.lq_refined_subtyping.proofs.table.exposing.changed_variable.Goals as goal

pub returns-in-Instantiated-clause-refined : goal.returns-in-Instantiated-clause-refined
returns-in-Instantiated-clause-refined c =
    λ scopes all made p. changed-outside scopes all c.args.change.now c.args.variable c.in-Instantiated.field-0 c.in-Instantiated.is c.requires
