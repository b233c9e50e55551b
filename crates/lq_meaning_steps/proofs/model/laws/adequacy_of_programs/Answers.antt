use Rattle.lq_meaning_steps.proofs.ModelLemmas.Programs.{adequate_of_programs, complete_of_programs, safe_by_meaning}
use Rattle.lq_meaning_steps.proofs.model.laws.adequacy_of_programs.Goals as goal

pub returns-clause-there : goal.returns-clause-there
returns-clause-there c = adequate_of_programs

pub returns-clause-back : goal.returns-clause-back
returns-clause-back c = complete_of_programs

pub returns-clause-safe : goal.returns-clause-safe
returns-clause-safe c = safe_by_meaning
