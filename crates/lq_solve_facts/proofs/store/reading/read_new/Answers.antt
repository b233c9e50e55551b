use Rattle.lq_logic_predicates.specs.PredView.{formula_of}
use Rattle.lq_solve_facts.proofs.StoreLemmas.Readings.{stored_kept, stored_put}
use Rattle.lq_solve_facts.proofs.store.reading.read_new.Goals as goal

pub returns-clause-stored : goal.returns-clause-stored
returns-clause-stored c = λ F a e.
    stored_put F c.read_at.new.known c.args.store.now c.put.new.self c.args.place c.args.number c.in_ok-read.read.value (formula_of c.args.pred.now) c.put.ensures e c.in_ok-read.ensures.read
    (stored_kept F c.args.known.now c.read_at.new.known c.args.store.now c.read_at.ensures.keeps a)

pub returns-in_err-read-clause-stored : goal.returns-in_err-read-clause-stored
returns-in_err-read-clause-stored c = λ F a e. stored_kept F c.args.known.now c.read_at.new.known c.args.store.now c.read_at.ensures.keeps a
