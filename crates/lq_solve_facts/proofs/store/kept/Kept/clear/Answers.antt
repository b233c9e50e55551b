use Rattle.lq_solve_facts.proofs.StoreLemmas.Readings.{stored_none}
use Rattle.lq_solve_facts.specs.Store.Places.{formula_at}
use Rattle.lq_solve_facts.proofs.store.kept.Kept.clear.Goals as goal

pub returns-clause-stored : goal.returns-clause-stored
returns-clause-stored c = λ I es cs. stored_none (formula_at I es cs) c.reset.new.self.known c.new.result c.new.ensures
