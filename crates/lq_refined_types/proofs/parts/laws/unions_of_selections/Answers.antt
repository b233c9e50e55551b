use Rattle.lq_refined_types.proofs.PartsLemmas.Flows.{failing_refutes, flowing_is_strongest, flowing_solves, flows_union, largest}
use Rattle.lq_refined_types.proofs.parts.laws.unions_of_selections.Goals as goal

pub returns-clause-union : goal.returns-clause-union
returns-clause-union c = flows_union

pub returns-clause-largest : goal.returns-clause-largest
returns-clause-largest c = largest

pub returns-clause-solves : goal.returns-clause-solves
returns-clause-solves c = flowing_solves

pub returns-clause-strongest : goal.returns-clause-strongest
returns-clause-strongest c = flowing_is_strongest

pub returns-clause-refutes : goal.returns-clause-refutes
returns-clause-refutes c = failing_refutes
