use Rattle.std.proofs.Common.{sym, subst}
use Rattle.lq_solve_facts.specs.Facts.Known.{IsReadOf}
use Rattle.lq_solve_facts.proofs.FactsLemmas.Holding.{keeps_self}
use Rattle.lq_logic_predicates.specs.PredView.{formula_of}
use Rattle.lq_solve_facts.proofs.store.reading.read_known.Goals as goal

pub returns-in-Some-clause-read : goal.returns-in-Some-clause-read
returns-in-Some-clause-read c = λ F a e.
    subst (λ x. IsReadOf c.args.known.now x (formula_of c.args.pred.now)) (sym c.in_ok-shared.ensures.cases) (a c.args.place 0 c.in-Some.read.now.value (formula_of c.args.pred.now) c.in-Some.ensures e)

pub returns-in-Some-clause-keeps : goal.returns-in-Some-clause-keeps
returns-in-Some-clause-keeps c = keeps_self _

pub returns-in_err-shared-clause-keeps : goal.returns-in_err-shared-clause-keeps
returns-in_err-shared-clause-keeps c = keeps_self _

pub returns-clause-read : goal.returns-clause-read
returns-clause-read c = λ F a e. c.in_ok-read.ensures.read
