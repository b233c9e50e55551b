use Rattle.lq_logic_predicates.proofs.CaseLaws.{meets_case, meets_case_of_rows}
use Rattle.lq_logic_predicates.proofs.laws.readings_are_met_by_cases.Goals as goal

pub returns-clause-reading : goal.returns-clause-reading
returns-clause-reading c = meets_case

pub returns-clause-rows : goal.returns-clause-rows
returns-clause-rows c = meets_case_of_rows
